-- The processes of a trace that is being made, against where its lines put them.
use Rattle.std.proofs.Common.{◌≡◌, ℕ, zero, suc, ◌<◌, ◌==◌, ◌&&◌, ◌||◌, not, Bool, true, false, if◌then◌else◌, List, [], ◌∷◌, ◌++◌, length, refl, sym, ap, ◌∙◌, subst, arith, ◌⊎◌, inl, inr}
use Rattle.std.specs.Prelude.{Option, Some, None, slice_get, slice_set, unwrap_or}
use Rattle.std.proofs.lemmas.Bool.{eqb-true, eqb-false}
use Rattle.std.proofs.lemmas.Option.{slice_get_within}
use Rattle.tm_rules.specs.Prelude.{DomainName}
use Rattle.tm_word.specs.Prelude.{texts_equal}
use Rattle.tm_word.proofs.TextLaws.{texts_sound}
use Rattle.tm_log_processes.specs.declared.process.Process.{Process}
use Rattle.tm_log_processes.specs.Domains.{leads}
use Rattle.tm_log_processes.specs.Processes.{nobody}
use Rattle.tm_log_processes.specs.Lists.{Listed, at, with_process, with_domain, is_named, is_in, moved_from, moved, fits, entered, is_settled, first_from, settled_in}
use Rattle.tm_log_trace_laws.specs.History.{Stand, Stands, stand_of, MayBe, StandsIn}
use Rattle.tm_log_trace_laws.proofs.Lists.{get-set-other, get-set-same, length-set, get-push, get-in, set-same}
use Rattle.tm_log_trace_laws.proofs.Walks.{SameBut}

-- a process is where its lines put it, or, unless its last move was an execute, where that may
-- have led it
abbrev pub HeldIn : Option Stand → Process → DomainName → Type 0
HeldIn None process domain = ⊥
HeldIn (Some stand) process domain =
    (stand.tree ≡ process.tree) × MayBe stand domain × (process.is_open ≡ true → (stand.domain ≡ domain) × (stand.is_open ≡ true))

pub record There (list : Listed) (p : ℕ) (process : Process) (domain : DomainName) : Type 0 where
  pub place : slice_get list.processes p ≡ Some process
  pub inside : slice_get list.domains p ≡ Some domain

pub record Listing (w : Stands) (list : Listed) : Type 0 where
  pub lengths : length list.processes ≡ length list.domains
  pub held : (p : ℕ) (process : Process) (domain : DomainName) → There list p process domain → HeldIn (stand_of w process.origin.number) process domain
  pub distinct : (p q : ℕ) (a b : Process) → slice_get list.processes p ≡ Some a → slice_get list.processes q ≡ Some b → a.origin.number ≡ b.origin.number → p ≡ q

-- Where it may go

abbrev pub MayGo : Process → DomainName → DomainName → Type 0
MayGo process own domain = (own ≡ domain) ⊎ ((process.is_open ≡ true) × (leads own domain ≡ true))

pub held-fits : (o : Option Stand) (process : Process) (own domain : DomainName) → HeldIn o process own → MayGo process own domain → StandsIn o process.tree domain
held-fits None process own domain h go = absurd h
held-fits (Some stand) process own domain h (inl e) = (h.0, rw e at h.1)
held-fits (Some stand) process own domain h (inr led) = (let open_ = h.2 led.0 in (h.0, inr (open_.1, rw open_.0 led.1)))

pub held-some : (o : Option Stand) (process : Process) (domain : DomainName) → HeldIn o process domain → o ≡ None → ⊥
held-some None process domain h e = h
held-some (Some stand) process domain h e = absurd cc

-- Tests

both : (a b : Bool) → (a && b) ≡ true → (a ≡ true) × (b ≡ true)
both true true e = (refl, refl)
both true false e = absurd cc
both false b e = absurd cc

either : (a b : Bool) → (a || b) ≡ true → (a ≡ true) ⊎ (b ≡ true)
either true b e = inl refl
either false b e = inr e

pub at-is : (list : Listed) (p : ℕ) (process : Process) → slice_get list.processes p ≡ Some process → at list p ≡ process
at-is list p process e = rw e refl

-- who fits is there, and may go
pub record Fitting (list : Listed) (p : ℕ) (domain : DomainName) : Type 0 where
  pub process : Process
  pub own : DomainName
  pub there : There list p process own
  pub goes : MayGo process own domain

pub fitting-in : (list : Listed) (p : ℕ) (domain : DomainName) → length list.processes ≡ length list.domains → is_in list p domain ≡ true → Fitting list p domain
fitting-in list p domain lengths e = by (slice_get list.domains p) refl e
  where
    by : (o : Option DomainName) → slice_get list.domains p ≡ o → is_named o domain ≡ true → Fitting list p domain
    by None there e = absurd cc
    by (Some own) there e =
        let found : (process : Process) × (slice_get list.processes p ≡ Some process) = get-in list.domains list.processes p own (sym lengths) there in
        record { process = found.0; own = own; there = record { place = found.1; inside = there }; goes = inl (texts_sound own domain e) }

pub fitting-moved : (list : Listed) (p : ℕ) (domain : DomainName) → length list.processes ≡ length list.domains → moved list p domain ≡ true → Fitting list p domain
unfolding moved
fitting-moved list p domain lengths e = by (slice_get list.domains p) refl e
  where
    by : (o : Option DomainName) → slice_get list.domains p ≡ o → moved_from (at list p).is_open o domain ≡ true → Fitting list p domain
    by None there e = absurd cc
    by (Some own) there e =
        let found : (process : Process) × (slice_get list.processes p ≡ Some process) = get-in list.domains list.processes p own (sym lengths) there in
        let parts = both ((at list p).is_open && not (texts_equal own domain)) (leads own domain) e in
        let opened = both (at list p).is_open (not (texts_equal own domain)) parts.0 in
        record {
          process = found.0;
          own = own;
          there = record { place = found.1; inside = there };
          goes = inr (ap (λ (process : Process). process.is_open) (sym (at-is list p found.0 found.1)) ∙ opened.0, parts.1);
        }

pub fitting : (list : Listed) (p : ℕ) (domain : DomainName) → length list.processes ≡ length list.domains → fits list p domain ≡ true → Fitting list p domain
unfolding fits
fitting list p domain lengths e = by (either (is_in list p domain) (moved list p domain) e)
  where
    by : (is_in list p domain ≡ true) ⊎ (moved list p domain ≡ true) → Fitting list p domain
    by (inl e) = fitting-in list p domain lengths e
    by (inr e) = fitting-moved list p domain lengths e

-- the first that passes a test passes it
first-passes : (test : ℕ → Bool) (k n p : ℕ) → first_from test k n ≡ Some p → test p ≡ true
first-passes test k zero p e = absurd cc
first-passes test k (suc n) p e = by (test k) refl (first-passes test (suc k) n p) e
  where
    by : (b : Bool) → test k ≡ b → (first_from test (suc k) n ≡ Some p → test p ≡ true) → (if b then Some k else first_from test (suc k) n) ≡ Some p → test p ≡ true
    by true passes later e = (let same : k ≡ p = cc in rw same at passes)
    by false fails later e = later e

pub fitting-settled : (list : Listed) (p : ℕ) (domain : DomainName) → length list.processes ≡ length list.domains → is_settled list domain p ≡ true → Fitting list p domain
fitting-settled list p domain lengths e = fitting-in list p domain lengths (both (not (at list p).is_open) (is_in list p domain) e).1

pub fitting-first : (list : Listed) (p : ℕ) (domain : DomainName) → length list.processes ≡ length list.domains → settled_in list domain ≡ Some p → Fitting list p domain
unfolding settled_in
fitting-first list p domain lengths e = fitting-settled list p domain lengths (first-passes (is_settled list domain) 0 (length list.processes) p e)

pub fitting-child : (list : Listed) (p : ℕ) (domain : DomainName) → length list.processes ≡ length list.domains → (is_settled list domain p || moved list p domain) ≡ true → Fitting list p domain
fitting-child list p domain lengths e = by (either (is_settled list domain p) (moved list p domain) e)
  where
    by : (is_settled list domain p ≡ true) ⊎ (moved list p domain ≡ true) → Fitting list p domain
    by (inl e) = fitting-settled list p domain lengths e
    by (inr e) = fitting-moved list p domain lengths e

-- who isn't there never wrote
pub writer-there : (list : Listed) (p : ℕ) → length list.processes ≡ length list.domains → (at list p).is_writer ≡ true → (process : Process) × (own : DomainName) × There list p process own
writer-there list p lengths e = by (slice_get list.processes p) refl e
  where
    by : (o : Option Process) → slice_get list.processes p ≡ o → (unwrap_or o nobody).is_writer ≡ true → (process : Process) × (own : DomainName) × There list p process own
    by None there e = absurd cc
    by (Some process) there e =
        let found : (own : DomainName) × (slice_get list.domains p ≡ Some own) = get-in list.processes list.domains p process lengths there in
        (process, found.0, record { place = there; inside = found.1 })

-- Changes

pub listing-changed : (w v : Stands) (list : Listed) (p : ℕ) (old new : Process) (own to : DomainName) (st : Stand) → Listing w list → There list p old own → new.origin.number ≡ old.origin.number → SameBut old.origin.number w v → stand_of v old.origin.number ≡ Some st → HeldIn (Some st) new to → Listing v (with_domain (with_process list p new) p to)
listing-changed w v list p old new own to st h there number others stand held =
    record {
      lengths = length-set list.processes p new ∙ h.lengths ∙ sym (length-set list.domains p to);
      held = λ q process domain here. held-by q process domain here (q == p) refl;
      distinct = λ q r a b ea eb e. apart q r a b ea eb e (q == p) refl (r == p) refl;
    }
  where
    after : Listed
    after = with_domain (with_process list p new) p to

    new-at : (q : ℕ) (process : Process) → q ≡ p → slice_get after.processes q ≡ Some process → process ≡ new
    new-at q process e at =
        let at-p : slice_get (slice_set list.processes p new) p ≡ Some process = rw e at at in
        let set : slice_get (slice_set list.processes p new) p ≡ Some new = get-set-same list.processes p new old there.place in
        cc

    old-at : (q : ℕ) (process : Process) → (q ≡ p → ⊥) → slice_get after.processes q ≡ Some process → slice_get list.processes q ≡ Some process
    old-at q process ne at = sym (get-set-other list.processes p q new ne) ∙ at

    held-by : (q : ℕ) (process : Process) (domain : DomainName) → There after q process domain → (b : Bool) → (q == p) ≡ b → HeldIn (stand_of v process.origin.number) process domain
    held-by q process domain here true e =
        let same : q ≡ p = eqb-true q p e in
        let is : process ≡ new = new-at q process same here.place in
        let in-p : slice_get (slice_set list.domains p to) p ≡ Some domain = rw same at here.inside in
        let set : slice_get (slice_set list.domains p to) p ≡ Some to = get-set-same list.domains p to own there.inside in
        let domain-is : domain ≡ to = cc in
        rw (is, domain-is, number, stand) held
    held-by q process domain here false e =
        let ne = eqb-false q p e in
        let was : slice_get list.processes q ≡ Some process = old-at q process ne here.place in
        let inside : slice_get list.domains q ≡ Some domain = sym (get-set-other list.domains p q to ne) ∙ here.inside in
        let other : process.origin.number ≡ old.origin.number → ⊥ = λ x. ne (h.distinct q p process old was there.place x) in
        subst (λ (o : Option Stand). HeldIn o process domain) (others process.origin.number other) (h.held q process domain (record { place = was; inside = inside }))

    apart : (q r : ℕ) (a b : Process) → slice_get after.processes q ≡ Some a → slice_get after.processes r ≡ Some b → a.origin.number ≡ b.origin.number → (c : Bool) → (q == p) ≡ c → (d : Bool) → (r == p) ≡ d → q ≡ r
    apart q r a b ea eb e true x true y = eqb-true q p x ∙ sym (eqb-true r p y)
    apart q r a b ea eb e true x false y =
        let is : a ≡ new = new-at q a (eqb-true q p x) ea in
        let was = old-at r b (eqb-false r p y) eb in
        eqb-true q p x ∙ h.distinct p r old b there.place was (sym number ∙ ap (λ (o : Process). o.origin.number) (sym is) ∙ e)
    apart q r a b ea eb e false x true y =
        let is : b ≡ new = new-at r b (eqb-true r p y) eb in
        let was = old-at q a (eqb-false q p x) ea in
        h.distinct q p a old was there.place (e ∙ ap (λ (o : Process). o.origin.number) is ∙ number) ∙ sym (eqb-true r p y)
    apart q r a b ea eb e false x false y = h.distinct q r a b (old-at q a (eqb-false q p x) ea) (old-at r b (eqb-false r p y) eb) e

-- in the same domain
pub listing-kept : (w v : Stands) (list : Listed) (p : ℕ) (old new : Process) (own : DomainName) (st : Stand) → Listing w list → There list p old own → new.origin.number ≡ old.origin.number → SameBut old.origin.number w v → stand_of v old.origin.number ≡ Some st → HeldIn (Some st) new own → Listing v (with_process list p new)
listing-kept w v list p old new own st h there number others stand held =
    subst (λ (ds : List DomainName). Listing v (record { processes = slice_set list.processes p new; domains = ds })) (set-same list.domains p own there.inside)
    (listing-changed w v list p old new own own st h there number others stand held)

-- one more
pub listing-entered : (w v : Stands) (list : Listed) (new : Process) (domain : DomainName) (st : Stand) → Listing w list → stand_of w new.origin.number ≡ None → SameBut new.origin.number w v → stand_of v new.origin.number ≡ Some st → HeldIn (Some st) new domain → Listing v (entered list new domain).0
listing-entered w v list new domain st h none others stand held =
    record {
      lengths = longer list.processes list.domains h.lengths;
      held = λ q process there_domain here. held-by q process there_domain here (get-push list.processes new q process here.place) (get-push list.domains domain q there_domain here.inside);
      distinct = λ q r a b ea eb e. apart q r a b e (get-push list.processes new q a ea) (get-push list.processes new r b eb);
    }
  where
    longer : (xs : List Process) (ys : List DomainName) → length xs ≡ length ys → length (xs ++ new ∷ []) ≡ length (ys ++ domain ∷ [])
    longer [] [] e = refl
    longer [] (y ∷ ys) e = absurd (omega arith)
    longer (x ∷ xs) [] e = absurd (omega arith)
    longer (x ∷ xs) (y ∷ ys) e = ap suc (longer xs ys (omega arith))

    other : (q : ℕ) (process : Process) → slice_get list.processes q ≡ Some process → process.origin.number ≡ new.origin.number → ⊥
    other q process at e =
        let found : (own : DomainName) × (slice_get list.domains q ≡ Some own) = get-in list.processes list.domains q process h.lengths at in
        held-some (stand_of w process.origin.number) process found.0 (h.held q process found.0 (record { place = at; inside = found.1 })) (ap (stand_of w) e ∙ none)

    held-by : (q : ℕ) (process : Process) (inside : DomainName) → There (entered list new domain).0 q process inside → (slice_get list.processes q ≡ Some process) ⊎ ((q ≡ length list.processes) × (process ≡ new)) → (slice_get list.domains q ≡ Some inside) ⊎ ((q ≡ length list.domains) × (inside ≡ domain)) → HeldIn (stand_of v process.origin.number) process inside
    held-by q process inside here (inl was) (inl in_was) = subst (λ (o : Option Stand). HeldIn o process inside) (others process.origin.number (other q process was)) (h.held q process inside (record { place = was; inside = in_was }))
    held-by q process inside here (inl was) (inr last) = (let within : q < length list.processes = slice_get_within list.processes q process was in let e : q ≡ length list.domains = last.0 in let l : length list.processes ≡ length list.domains = h.lengths in absurd (omega arith))
    held-by q process inside here (inr last) (inl in_was) = (let within : q < length list.domains = slice_get_within list.domains q inside in_was in let e : q ≡ length list.processes = last.0 in let l : length list.processes ≡ length list.domains = h.lengths in absurd (omega arith))
    held-by q process inside here (inr last) (inr in_last) = rw (last.1, in_last.1, stand) held

    apart : (q r : ℕ) (a b : Process) → a.origin.number ≡ b.origin.number → (slice_get list.processes q ≡ Some a) ⊎ ((q ≡ length list.processes) × (a ≡ new)) → (slice_get list.processes r ≡ Some b) ⊎ ((r ≡ length list.processes) × (b ≡ new)) → q ≡ r
    apart q r a b e (inl x) (inl y) = h.distinct q r a b x y e
    apart q r a b e (inl x) (inr y) = absurd (other q a x (e ∙ ap (λ (o : Process). o.origin.number) y.1))
    apart q r a b e (inr x) (inl y) = absurd (other r b y (sym e ∙ ap (λ (o : Process). o.origin.number) x.1))
    apart q r a b e (inr x) (inr y) = x.0 ∙ sym y.0
