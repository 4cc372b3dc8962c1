-- Where a granted look of a clean run leads: it stays, or it leads into a domain that is live later
-- under the number that the take ends in.
use Rattle.std.proofs.Common.{◌≡◌, ◌≤◌, ℕ, zero, suc, ◌+◌, List, [], ◌∷◌, ◌++◌, length, map, Bool, true, false, true≢false, refl, sym, ap, ◌∙◌, arith}
use Rattle.std.specs.Prelude.{Option, Some, None, ◌&&◌, cond, slice_get, option_map, if◌then◌else◌}
use Rattle.std.specs.Option.{option_and_then, option_map_or}
use Rattle.std.specs.List.{position_from, list_all}
use Rattle.std.proofs.lemmas.Bool.{and_parts}
use Rattle.tm_rules.specs.Prelude.{DomainName, Grammar, can_enter, domain_at, is_clean_step, live_domain, made_new, make, new_domain, profile_of}
use Rattle.tm_rules.proofs.EqualityLaws.{same_texts}
use Rattle.tm_rules.specs.Types.{Domain, Heard, Look, MakeReply, Mode, Move, Policy, Profile, Reason, Reply, Step, Verdict}
use Rattle.tm_word.specs.Prelude.{texts_equal}
use Rattle.tm_legal.specs.Prelude.{Applied, History, Replies, State, after, apply, at, domain_after, fits_name, last_number, look_grants, made, made_number, move_to, on_policy, reply_at, step_at, steps_asked, steps_of, steps_of_line, unfit}

-- Lists

pub all-at : {A : Type 0} (t : A → Bool) (xs : List A) (n : ℕ) (x : A) → list_all t xs ≡ true → slice_get xs n ≡ Some x → t x ≡ true
all-at t [] n x all at = absurd cc
all-at t (y ∷ xs) zero x all at = let same : y ≡ x = cc in rw (← same) (and_parts (t y) (list_all t xs) all).0
all-at t (y ∷ xs) (suc n) x all at = all-at t xs n x (and_parts (t y) (list_all t xs) all).1 at

-- No transition fails

pub no-fail : (h : History) → list_all is_clean_step h ≡ true → (n d : ℕ) → step_at h n ≡ Some (Step.Fail d) → ⊥
no-fail h clean zero d at = absurd cc
no-fail h clean (suc n) d at = go (slice_get h n) refl at
  where
    go : (o : Option (Step × Reply)) → slice_get h n ≡ o → option_map (λ (pair : Step × Reply). pair.0) o ≡ Some (Step.Fail d) → ⊥
    go None e failed = absurd cc
    go (Some pair) e failed =
        let is : pair.0 ≡ Step.Fail d = cc in
        let no : is_clean_step pair ≡ false = rw is refl in
        true≢false (sym (all-at is_clean_step h n pair clean e) ∙ no)

-- A made domain is live under the number of the reply

position-push : {A : Type 0} (t : A → Bool) (i : ℕ) (xs : List A) (x : A) → position_from t i xs ≡ None → t x ≡ true → position_from t i (xs ++ x ∷ []) ≡ Some (i + length xs)
position-push t i [] x none passes = let same : i + 0 ≡ i = omega arith in rw (passes, same) refl
position-push {A} t i (y ∷ xs) x none passes = go (t y) none (λ later. position-push t (i + 1) xs x later passes)
  where
    go : (b : Bool) → cond b (Some i) (position_from t (i + 1) xs) ≡ None → (position_from t (i + 1) xs ≡ None → position_from t (i + 1) (xs ++ x ∷ []) ≡ Some (i + 1 + length xs)) → cond b (Some i) (position_from t (i + 1) (xs ++ x ∷ [])) ≡ Some (i + suc (length xs))
    go true e later = absurd cc
    go false e later = let same : i + 1 + length xs ≡ i + suc (length xs) = omega arith in later e ∙ ap (λ (n : ℕ). Some n) same

live-push : (p : Policy) (new : Domain) → new.live ≡ true → live_domain p new.name ≡ None → live_domain (record p { domains = p.domains ++ new ∷ [] }) new.name ≡ Some (length p.domains)
unfolding live_domain
live-push p new live none =
    position-push (λ (domain : Domain). domain.live && texts_equal domain.name new.name) 0 p.domains new none (rw (live, same_texts.full new.name) refl)
    ∙ (let same : 0 + length p.domains ≡ length p.domains = omega arith in ap (λ (n : ℕ). Some n) same)

make-live : (g : Grammar) (s : State) (d : ℕ) (name : DomainName) (r : Reply) (m : ℕ) → made_number (Some r) ≡ Some m → (apply g s (Step.Make d name)).reply ≡ Some r → live_domain (apply g s (Step.Make d name)).state.policy name ≡ Some m
unfolding apply make
make-live g s d name r m is = by_fit (fits_name g s d name)
  where
    IsMade : Applied → Type 0
    IsMade done = done.reply ≡ Some r → live_domain done.state.policy name ≡ Some m

    number : (reply : MakeReply) (n : ℕ) → made_number (Some (Reply.Make reply)) ≡ Some n → Some (Reply.Make reply) ≡ Some r → Some n ≡ Some m
    number reply n own e = let same : Reply.Make reply ≡ r = cc in sym own ∙ ap (λ (q : Reply). made_number (Some q)) same ∙ is

    by_live : (x : Domain) (o : Option ℕ) → live_domain s.policy name ≡ o → IsMade (on_policy s Reply.Make (Some (option_map_or (λ n. (s.policy, MakeReply.Old n)) o (made_new s.policy name x))))
    by_live x None e h = live-push s.policy (new_domain name x.profile x.groups) refl e ∙ number (MakeReply.New (length s.policy.domains)) (length s.policy.domains) refl h
    by_live x (Some n) e h = e ∙ number (MakeReply.Old n) n refl h

    by_profile : (x : Domain) (o : Option Profile) → IsMade (on_policy s Reply.Make (option_map (λ profile. option_map_or (λ n. (s.policy, MakeReply.Old n)) (live_domain s.policy name) (made_new s.policy name x)) o))
    by_profile x None h = absurd cc
    by_profile x (Some profile) h = by_live x (live_domain s.policy name) refl h

    by_domain : (o : Option Domain) → IsMade (on_policy s Reply.Make (option_and_then (λ x. option_map (λ profile. option_map_or (λ n. (s.policy, MakeReply.Old n)) (live_domain s.policy name) (made_new s.policy name x)) (profile_of s.policy x)) o))
    by_domain None h = absurd cc
    by_domain (Some x) h = by_profile x (profile_of s.policy x) h

    by_fit : (b : Bool) → (if b then on_policy s Reply.Make (make s.policy d name) else unfit s).reply ≡ Some r → live_domain (if b then on_policy s Reply.Make (make s.policy d name) else unfit s).state.policy name ≡ Some m
    by_fit true h = by_domain (domain_at s.policy d) h
    by_fit false h = absurd cc

-- the number of a Make's reply is that of the live domain of its name, right after it
pub made-live : (g : Grammar) (s : State) (h : History) → Replies g s h → (n d m : ℕ) (name : DomainName) → step_at h n ≡ Some (Step.Make d name) → made_number (reply_at h n) ≡ Some m → live_domain (at g s (steps_of h) n).policy name ≡ Some m
unfolding after
made-live g s h replies zero d m name step reply = absurd cc
made-live g s [] replies (suc n) d m name step reply = absurd cc
made-live g s ((step, r) ∷ rest) replies (suc zero) d m name is reply =
    let same : step ≡ Step.Make d name = cc in
    rw same (make-live g s d name r m reply (rw same at replies.0))
made-live g s (pair ∷ rest) replies (suc (suc n)) d m name is reply = made-live g (apply g s pair.0).state rest replies.1 (suc n) d m name is reply

-- such a step is one of the history
pub step-within : (h : History) (n : ℕ) (step : Step) → step_at h n ≡ Some step → n ≤ length h
step-within h zero step is = omega arith
step-within [] (suc n) step is = absurd cc
step-within (pair ∷ h) (suc zero) step is = omega arith
step-within (pair ∷ h) (suc (suc n)) step is = let le : suc n ≤ length h = step-within h (suc n) step is in omega arith

-- The last of the steps that a look asks for

pub last-step : (f : ℕ → Option Step) (own : List ℕ) (xs : List Step) (s : Step) → map f own ≡ map Some (xs ++ s ∷ []) → f (last_number own) ≡ Some s
last-step f [] [] s e = absurd cc
last-step f [] (x ∷ xs) s e = absurd cc
last-step f (n ∷ []) [] s e = cc
last-step f (n ∷ []) (x ∷ []) s e = absurd cc
last-step f (n ∷ []) (x ∷ y ∷ xs) s e = absurd cc
last-step f (n ∷ m ∷ ns) [] s e = absurd cc
last-step f (n ∷ m ∷ ns) (x ∷ xs) s e = last-step f (m ∷ ns) xs s (let rest : map f (m ∷ ns) ≡ map Some (xs ++ s ∷ []) = cc in rest)

-- where a granted look leads, by its move
abbrev pub leads : History → ℕ → Move → List ℕ → Option ℕ
leads h before (Move.Enter n) own = Some n
leads h before Move.Make own = made_number (reply_at h (last_number own))
leads h before Move.Stay own = Some before
leads h before Move.Fail own = Some before

leads-fields : (h : History) (before version : ℕ) (mode : Option Mode) (reason : Reason) (step : Move) (own : List ℕ) (heard : Option Heard) → (let look : Look = record { version = version; mode = mode; reason = reason; step = step; own = own; heard = heard } in look_grants look ≡ true → domain_after h before look ≡ leads h before step own)
leads-fields h before version mode reason Move.Stay own heard grants = rw grants refl
leads-fields h before version mode reason (Move.Enter n) own heard grants = rw grants refl
leads-fields h before version mode reason Move.Make own heard grants = rw grants refl
leads-fields h before version mode reason Move.Fail own heard grants = rw grants refl

pub after-leads : (h : History) (before : ℕ) (look : Look) → look_grants look ≡ true → domain_after h before look ≡ leads h before look.step look.own
after-leads h before look grants = leads-fields h before look.version look.mode look.reason look.step look.own look.heard grants

-- the process stays, or the target is live under the number that it ends in
abbrev pub Arrives : Policy → ℕ → ℕ → Option DomainName → Type 0
Arrives q before after None = after ≡ before
Arrives q before after (Some name) = live_domain q name ≡ Some after

-- what a history's Makes and Fails leave in a later policy
pub record Leaves (h : History) (p q : Policy) : Type 0 where
  pub live : (name : DomainName) (n : ℕ) → live_domain p name ≡ Some n → live_domain q name ≡ Some n
  pub makes : (n d m : ℕ) (name : DomainName) → step_at h n ≡ Some (Step.Make d name) → made_number (reply_at h n) ≡ Some m → live_domain q name ≡ Some m
  pub fails : (n d : ℕ) → step_at h n ≡ Some (Step.Fail d) → ⊥

module _ (g : Grammar) (h : History) (p q : Policy) (leaves : Leaves h p q) (domain : Domain) (d ended retry : ℕ) (v : Verdict) (own : List ℕ) where
  pub arrives : (target : Option DomainName) → v.step ≡ move_to g.is_path p domain target → v.target ≡ made v.step target → map (step_at h) own ≡ map Some (steps_asked g d retry v true) → leads h d v.step own ≡ Some ended → Arrives q d ended target
  unfolding move_to steps_asked
  arrives None step target asked leads_to = let same : Some d ≡ Some ended = (rw step at leads_to) in (let other : ended ≡ d = cc in other)
  arrives (Some name) step target asked leads_to = by_live (live_domain p name) refl step
    where
      by_live : (o : Option ℕ) → live_domain p name ≡ o → v.step ≡ option_map_or Move.Enter o (if can_enter g.is_path p domain.name name then Move.Make else Move.Fail) → live_domain q name ≡ Some ended
      by_live (Some n) e moved = let same : Some n ≡ Some ended = (rw moved at leads_to) in leaves.live name n e ∙ same
      by_live None e moved = by_right (can_enter g.is_path p domain.name name) moved
        where
          by_right : (b : Bool) → v.step ≡ (if b then Move.Make else Move.Fail) → live_domain q name ≡ Some ended
          by_right true makes =
              let named : v.target ≡ Some name = target ∙ ap (λ (m : Move). made m (Some name)) makes in
              let asks : map (step_at h) own ≡ map Some (steps_of_line g d retry v ++ Step.Make d name ∷ []) = rw (makes, named) at asked in
              leaves.makes (last_number own) d ended name (last-step (step_at h) own (steps_of_line g d retry v) (Step.Make d name) asks) (rw makes at leads_to)
          by_right false fails =
              let asks : map (step_at h) own ≡ map Some (steps_of_line g d retry v ++ Step.Fail d ∷ []) = rw fails at asked in
              absurd (leaves.fails (last_number own) d (last-step (step_at h) own (steps_of_line g d retry v) (Step.Fail d) asks))
