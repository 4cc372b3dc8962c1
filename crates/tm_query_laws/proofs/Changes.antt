-- What one step makes of the query that stands at a place.
use Rattle.std.proofs.Common.{◌≡◌, ◌⊎◌, inl, inr, ℕ, zero, suc, Bool, true, false, ◌&&◌, not, nat_lt, nat_le, List, [], ◌∷◌, ◌++◌, length, map, Option, Some, None, refl, sym, ap, subst, ◌∙◌, arith}
use Rattle.std.proofs.lemmas.Option.{slice_get_past}
use Rattle.std.specs.Prelude.{if◌then◌else◌, ◌==◌, is_some, slice_get, slice_set, unwrap_or}
use Rattle.std.specs.Option.{option_and_then, option_map_or}
use Rattle.tm_types.specs.Words.{Text}
use Rattle.tm_rules.specs.Prelude.{DomainName, Edited, Grammar, Queries, Standing, answer, answer_coded, answer_fault, apply_line, ask, attach, changed_at, closed, detach, fail, in_domain, is_manager, learn, make, put_member, with_answer}
use Rattle.tm_rules.specs.Types.{AnswerFault, Answered, EditReply, Editor, FileKind, Held, Policy, Reply, Step}
use Rattle.tm_legal.specs.Prelude.{Applied, State, apply, edit_by, edit_step, fits_entry, fits_name, on_policy, on_queries, unfit}
use Rattle.tm_query_laws.specs.Given.{Gives}

-- One place, before and after

-- it stays as it is, comes to stand held where D, or, held, gets an answer where G
abbrev pub Becomes : Type 0 → (Answered → Type 0) → Option Standing → Option Standing → Type 0
Becomes D G None None = Unit {0}
Becomes D G None (Some y) = (y.answer ≡ None) × D
Becomes D G (Some x) None = ⊥
Becomes D G (Some x) (Some y) = (y.answer ≡ x.answer) ⊎ ((x.answer ≡ None) × ((given : Answered) × (y.answer ≡ Some given) × G given))

still : (D : Type 0) (G : Answered → Type 0) (o : Option Standing) → Becomes D G o o
still D G None = tt
still D G (Some x) = inl refl

-- the answer of what stands there, if it has one
abbrev pub answer_in : Option Standing → Option Answered
answer_in o = option_and_then (λ (s : Standing). s.answer) o

pub no-answer : (a : Option Answered) (given : Answered) → a ≡ None → a ≡ Some given → ⊥
no-answer a given none some = let no : None ≡ Some given = sym none ∙ some in cc

pub same-answer : (a b : Answered) → Some a ≡ Some b → a ≡ b
same-answer a b e = cc

pub answer-stays : (D : Type 0) (G : Answered → Type 0) (o o' : Option Standing) (given : Answered) → Becomes D G o o' → answer_in o ≡ Some given → answer_in o' ≡ Some given
answer-stays D G None o' given b is = absurd cc
answer-stays D G (Some x) None given b is = absurd b
answer-stays D G (Some x) (Some y) given (inl same) is = same ∙ is
answer-stays D G (Some x) (Some y) given (inr (held, gave)) is = absurd (no-answer x.answer given held is)

pub query-stays : (D : Type 0) (G : Answered → Type 0) (o o' : Option Standing) → Becomes D G o o' → is_some o ≡ true → is_some o' ≡ true
query-stays D G None o' b is = absurd cc
query-stays D G (Some x) None b is = absurd b
query-stays D G (Some x) (Some y) b is = refl

-- held, with a cause
abbrev pub HeldIn : Option Standing → Type 0
HeldIn o = (x : Standing) × (o ≡ Some x) × (x.answer ≡ None)

pub answer-came : (D : Type 0) (G : Answered → Type 0) (o o' : Option Standing) (given : Answered) → Becomes D G o o' → answer_in o ≡ None → answer_in o' ≡ Some given → HeldIn o × G given
answer-came D G None None given b none is = absurd cc
answer-came D G None (Some y) given (held, d) none is = absurd (no-answer y.answer given held is)
answer-came D G (Some x) None given b none is = absurd b
answer-came D G (Some x) (Some y) given (inl same) none is = absurd (no-answer x.answer given none (sym same ∙ is))
answer-came D G (Some x) (Some y) given (inr (held, (a, now, gave))) none is =
    ((x, refl, held), subst G (same-answer a given (sym now ∙ is)) gave)

pub query-came : (D : Type 0) (G : Answered → Type 0) (o o' : Option Standing) → Becomes D G o o' → o ≡ None → is_some o' ≡ true → HeldIn o' × D
query-came D G None None b none is = absurd cc
query-came D G None (Some y) (held, d) none is = ((y, refl, held), d)
query-came D G (Some x) o' b none is = absurd cc

-- Lists of queries

answered : (D : Type 0) (G : Answered → Type 0) (given : Answered) (xs : List Standing) (m n : ℕ) (z : Standing) → slice_get xs m ≡ Some z → z.answer ≡ None → (n ≡ m → G given)
    → Becomes D G (slice_get xs n) (slice_get (changed_at m (λ (s : Standing). record s { answer = Some given }) xs) n)
answered D G given [] m n z there held gives = absurd cc
answered D G given (x ∷ xs) zero zero z there held gives =
    inr (ap (λ (s : Standing). s.answer) (let same : x ≡ z = cc in same) ∙ held, (given, refl, gives refl))
answered D G given (x ∷ xs) zero (suc n) z there held gives = still D G (slice_get xs n)
answered D G given (x ∷ xs) (suc m) zero z there held gives = inl refl
answered D G given (x ∷ xs) (suc m) (suc n) z there held gives = answered D G given xs m n z there held (λ e. gives (ap suc e))

closing : (D : Type 0) (G : Answered → Type 0) → G Answered.Detached → (x : Standing) → Becomes D G (Some x) (Some (closed x))
closing D G gives x = go x.answer refl
  where
    go : (a : Option Answered) → x.answer ≡ a
        → ((if is_some a then a else Some Answered.Detached) ≡ a) ⊎ ((a ≡ None) × ((given : Answered) × ((if is_some a then a else Some Answered.Detached) ≡ Some given) × G given))
    go None e = inr (refl, (Answered.Detached, refl, gives))
    go (Some a) e = inl refl

all-closed : (D : Type 0) (G : Answered → Type 0) → G Answered.Detached → (xs : List Standing) (n : ℕ) → Becomes D G (slice_get xs n) (slice_get (map closed xs) n)
all-closed D G gives [] n = tt
all-closed D G gives (x ∷ xs) zero = closing D G gives x
all-closed D G gives (x ∷ xs) (suc n) = all-closed D G gives xs n

asked : (D : Type 0) (G : Answered → Type 0) (new : Standing) (xs : List Standing) (n : ℕ) → new.answer ≡ None → (n ≡ length xs → D) → Becomes D G (slice_get xs n) (slice_get (xs ++ new ∷ []) n)
asked D G new [] zero held draws = (held, draws refl)
asked D G new [] (suc n) held draws = tt
asked D G new (x ∷ xs) zero held draws = inl refl
asked D G new (x ∷ xs) (suc n) held draws = asked D G new xs n held (λ e. draws (ap suc e))

-- Steps

-- an Ask that is replied that serial
abbrev pub Draws : Step → Applied → ℕ → Type 0
Draws step done serial = (domain : ℕ) × (retry : ℕ) × (line : Text) × (step ≡ Step.Ask domain retry line) × (done.reply ≡ Some (Reply.Ask (Held.Serial serial)))

abbrev pub Moves : State → Step → ℕ → Applied → Type 0
Moves s step n done = Becomes (Draws step done (suc n)) (λ given. Gives (suc n) given step) (slice_get s.queries.all n) (slice_get done.state.queries.all n)

code-gives : (serial code : ℕ) (given : Answered) → answer_coded code ≡ Some given → Gives serial given (Step.Answer serial code)
code-gives serial code Answered.Yes is = (code, refl, is)
code-gives serial code Answered.No is = (code, refl, is)
code-gives serial code Answered.Retry is = (code, refl, is)
code-gives serial code Answered.Detached is = absurd (never (code == 1) (code == 2) (code == 3) is)
  where
    never : (a b c : Bool) → (if a then Some Answered.Yes else if b then Some Answered.No else if c then Some Answered.Retry else None) ≡ Some Answered.Detached → ⊥
    never true b c e = cc
    never false true c e = cc
    never false false true e = cc
    never false false false e = cc

module _ (g : Grammar) (s : State) (n : ℕ) where
  stays : (step : Step) (done : Applied) → done.state.queries.all ≡ s.queries.all → Moves s step n done
  stays step done same =
      subst (λ (all : List Standing). Becomes (Draws step done (suc n)) (λ given. Gives (suc n) given step) (slice_get s.queries.all n) (slice_get all n)) (sym same)
      (still (Draws step done (suc n)) (λ given. Gives (suc n) given step) (slice_get s.queries.all n))

  policy-same : {R : Type 0} (reply : R → Reply) (o : Option (Policy × R)) → (on_policy s reply o).state.queries.all ≡ s.queries.all
  policy-same reply None = refl
  policy-same reply (Some done) = refl

  test-same : (b : Bool) (done : Applied) → done.state.queries.all ≡ s.queries.all → (if b then done else unfit s).state.queries.all ≡ s.queries.all
  test-same true done same = same
  test-same false done same = refl

  edit-same : (e : ℕ) (file : FileKind) (line : Text) → (edit_by g s e file line).state.queries.all ≡ s.queries.all
  unfolding edit_step
  edit-same zero file line = refl
  edit-same (suc e) file line = by_editor (slice_get s.editors e)
    where
      done : Edited
      done = apply_line g s.policy file (unwrap_or (slice_get s.cursors e) None) line

      by_manager : (b : Bool) → (if b then (let a : Applied = record { state = s; reply = Some (Reply.Edit EditReply.NotManager) } in a) else (let a : Applied = record { state = record s { policy = done.policy; cursors = slice_set s.cursors e done.cursor }; reply = Some (Reply.Edit done.reply) } in a)).state.queries.all ≡ s.queries.all
      by_manager true = refl
      by_manager false = refl

      by_editor : (o : Option Editor) → (option_map_or (λ editor. edit_step g s e file line editor (unwrap_or (slice_get s.cursors e) None)) o (unfit s)).state.queries.all ≡ s.queries.all
      by_editor None = refl
      by_editor (Some editor) = by_manager (not (is_manager s.policy editor))

  ask-moves : (d retry : ℕ) (line : Text) → Moves s (Step.Ask d retry line) n (apply g s (Step.Ask d retry line))
  unfolding apply ask
  ask-moves d retry line = by_name (in_domain s.policy d (λ domain profile. domain.name))
    where
      new : Text → Standing
      new name = record { query = record { serial = suc (length s.queries.all); retry = retry; domain = name; line = line }; answer = None }

      held : Text → Queries × Held
      held name = (record s.queries { all = s.queries.all ++ new name ∷ [] }, Held.Serial (suc (length s.queries.all)))

      by_desk : (name : Text) (b : Bool) → Moves s (Step.Ask d retry line) n (on_queries s Reply.Ask (if not b then (s.queries, Held.Nobody) else held name))
      by_desk name false = stays (Step.Ask d retry line) (on_queries s Reply.Ask (s.queries, Held.Nobody)) refl
      by_desk name true =
          asked (Draws (Step.Ask d retry line) (on_queries s Reply.Ask (held name)) (suc n)) (λ given. Gives (suc n) given (Step.Ask d retry line)) (new name) s.queries.all n refl
          (λ e. (d, retry, line, refl, ap (λ (k : ℕ). Some (Reply.Ask (Held.Serial (suc k)))) (sym e)))

      by_name : (o : Option DomainName) → Moves s (Step.Ask d retry line) n (option_map_or (λ name. on_queries s Reply.Ask (ask s.queries name line retry)) o (unfit s))
      by_name None = stays (Step.Ask d retry line) (unfit s) refl
      by_name (Some name) = by_desk name s.queries.attached

  answer-moves : (serial code : ℕ) → Moves s (Step.Answer serial code) n (apply g s (Step.Answer serial code))
  unfolding apply answer
  answer-moves zero code = stays (Step.Answer zero code) (on_queries s Reply.Answer (s.queries, Some AnswerFault.NoQuery)) refl
  answer-moves (suc m) code = by_found (slice_get s.queries.all m) refl
    where
      done : Option AnswerFault → Option Answered → Applied
      done fault given = on_queries s Reply.Answer (option_map_or (λ f. (s.queries, Some f)) fault (with_answer s.queries (suc m) given, None))

      After : Option AnswerFault → Option Answered → Type 0
      After fault given = Moves s (Step.Answer (suc m) code) n (done fault given)

      refused : (fault : AnswerFault) (given : Option Answered) → After (Some fault) given
      refused fault given = stays (Step.Answer (suc m) code) (done (Some fault) given) refl

      by_code : (given : Option Answered) → answer_coded code ≡ given → (x : Standing) → slice_get s.queries.all m ≡ Some x → x.answer ≡ None → After (if is_some given then None else Some AnswerFault.BadAnswer) given
      by_code None is x there held = refused AnswerFault.BadAnswer None
      by_code (Some given) is x there held =
          answered (Draws (Step.Answer (suc m) code) (done None (Some given)) (suc n)) (λ a. Gives (suc n) a (Step.Answer (suc m) code)) given s.queries.all m n x there held
          (λ e. subst (λ (k : ℕ). Gives (suc k) given (Step.Answer (suc m) code)) (sym e) (code-gives (suc m) code given is))

      by_answer : (a : Option Answered) (x : Standing) → slice_get s.queries.all m ≡ Some x → x.answer ≡ a
          → After (if is_some a then Some AnswerFault.Answered else if is_some (answer_coded code) then None else Some AnswerFault.BadAnswer) (answer_coded code)
      by_answer None x there is = by_code (answer_coded code) refl x there is
      by_answer (Some a) x there is = refused AnswerFault.Answered (answer_coded code)

      by_found : (o : Option Standing) → slice_get s.queries.all m ≡ o → After (answer_fault o code) (answer_coded code)
      by_found None e = refused AnswerFault.NoQuery (answer_coded code)
      by_found (Some x) e = by_answer x.answer x e refl

  detach-moves : Moves s Step.Detach n (apply g s Step.Detach)
  unfolding apply detach
  detach-moves = go s.queries.attached
    where
      left : Queries × Bool
      left = (record { attached = false; all = map closed s.queries.all }, true)

      go : (b : Bool) → Moves s Step.Detach n (on_queries s Reply.Detach (if b then left else (s.queries, false)))
      go true = all-closed (Draws Step.Detach (on_queries s Reply.Detach left) (suc n)) (λ given. Gives (suc n) given Step.Detach) refl s.queries.all n
      go false = stays Step.Detach (on_queries s Reply.Detach (s.queries, false)) refl

  -- every step
  pub step-moves : (step : Step) → Moves s step n (apply g s step)
  unfolding apply attach
  step-moves (Step.Learn d entry) =
      stays (Step.Learn d entry) (apply g s (Step.Learn d entry))
      (test-same (fits_entry g entry) (on_policy s Reply.Learn (learn s.policy d entry)) (policy-same Reply.Learn (learn s.policy d entry)))
  step-moves (Step.Make d name) =
      stays (Step.Make d name) (apply g s (Step.Make d name))
      (test-same (fits_name g s d name) (on_policy s Reply.Make (make s.policy d name)) (policy-same Reply.Make (make s.policy d name)))
  step-moves (Step.Fail d) = stays (Step.Fail d) (apply g s (Step.Fail d)) (policy-same Reply.Fail (fail s.policy d))
  step-moves (Step.Ask d retry line) = ask-moves d retry line
  step-moves (Step.Answer serial code) = answer-moves serial code
  step-moves Step.Attach = stays Step.Attach (apply g s Step.Attach) refl
  step-moves Step.Detach = detach-moves
  step-moves (Step.Edit e file line) = stays (Step.Edit e file line) (apply g s (Step.Edit e file line)) (edit-same e file line)
  step-moves (Step.End t) =
      stays (Step.End t) (apply g s (Step.End t))
      (test-same (nat_lt 0 t && nat_le t s.trees) (let done : Applied = record { state = record s { ended = put_member t s.ended }; reply = Some Reply.End } in done) refl)

-- An Ask that is replied a serial

pushed : (xs : List Standing) (new : Standing) → slice_get (xs ++ new ∷ []) (length xs) ≡ Some new
pushed [] new = refl
pushed (x ∷ xs) new = pushed xs new

module _ (g : Grammar) (s : State) where
  -- the serial is the next one, and a query is held after all others
  abbrev IsPushed : ℕ → Applied → Type 0
  IsPushed serial done = (x : Standing) × (serial ≡ suc (length s.queries.all)) × (done.state.queries.all ≡ s.queries.all ++ x ∷ []) × (x.answer ≡ None)

  serial-drawn : (serial d retry : ℕ) (line : Text) → (apply g s (Step.Ask d retry line)).reply ≡ Some (Reply.Ask (Held.Serial serial)) → IsPushed serial (apply g s (Step.Ask d retry line))
  unfolding apply ask
  serial-drawn serial d retry line is = by_name (in_domain s.policy d (λ domain profile. domain.name)) is
    where
      new : Text → Standing
      new name = record { query = record { serial = suc (length s.queries.all); retry = retry; domain = name; line = line }; answer = None }

      held : Text → Queries × Held
      held name = (record s.queries { all = s.queries.all ++ new name ∷ [] }, Held.Serial (suc (length s.queries.all)))

      After : Applied → Type 0
      After done = done.reply ≡ Some (Reply.Ask (Held.Serial serial)) → IsPushed serial done

      by_desk : (name : Text) (b : Bool) → After (on_queries s Reply.Ask (if not b then (s.queries, Held.Nobody) else held name))
      by_desk name false e = absurd cc
      by_desk name true e = (new name, (let same : serial ≡ suc (length s.queries.all) = cc in same), refl, refl)

      by_name : (o : Option DomainName) → After (option_map_or (λ name. on_queries s Reply.Ask (ask s.queries name line retry)) o (unfit s))
      by_name None e = absurd cc
      by_name (Some name) e = by_desk name s.queries.attached e

  pub no-serial : (d retry : ℕ) (line : Text) → (apply g s (Step.Ask d retry line)).reply ≡ Some (Reply.Ask (Held.Serial zero)) → ⊥
  no-serial d retry line is = let found = serial-drawn zero d retry line is in let no : zero ≡ suc (length s.queries.all) = found.1 in omega (arith, no)

  -- so nothing stood at its place, and then a query is held there
  pub ask-draws : (n d retry : ℕ) (line : Text) → (apply g s (Step.Ask d retry line)).reply ≡ Some (Reply.Ask (Held.Serial (suc n)))
      → (slice_get s.queries.all n ≡ None) × HeldIn (slice_get (apply g s (Step.Ask d retry line)).state.queries.all n)
  ask-draws n d retry line is =
      let found = serial-drawn (suc n) d retry line is in
      let last : n ≡ length s.queries.all = (let same : suc n ≡ suc (length s.queries.all) = found.1 in omega (arith, same)) in
      let there : slice_get (s.queries.all ++ found.0 ∷ []) n ≡ Some found.0 = ap (λ (k : ℕ). slice_get (s.queries.all ++ found.0 ∷ []) k) last ∙ pushed s.queries.all found.0 in
      (slice_get_past s.queries.all n (omega (arith, last)), (found.0, ap (λ (all : List Standing). slice_get all n) found.2 ∙ there, found.3))
