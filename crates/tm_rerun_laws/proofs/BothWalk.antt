-- Both runs walk through the same trace: as long as the rerun has seen version 0 alone, each
-- process is in the domain that it was in.
use Rattle.std.proofs.Common.{◌≡◌, ◌≤◌, ◌<◌, max, ℕ, zero, suc, List, [], ◌∷◌, ◌++◌, length, map, take, drop, Bool, true, false, refl, sym, ap, ◌∙◌, subst, arith}
use Rattle.std.specs.Prelude.{Option, Some, None, ◌==◌, if◌then◌else◌, IfSome, flat_map}
use Rattle.std.specs.List.{AllByRecursion}
use Rattle.tm_rules.specs.Prelude.{Grammar, Trace}
use Rattle.tm_rules.specs.Types.{Look, Mode, Move, Policy, Reason, Take, Verdict}
use Rattle.tm_legal.specs.Prelude.{Case, EndsWith, History, LookHolds, LooksRise, OwnSteps, Scene, Situation, Situations, Subject, after, after_take, alone, grants_with, heard_version, is_repeated, last_look, look_grants, raised, retry_written, seen, step_at, steps_asked, subject_of, verdict, with_situation}
use Rattle.tm_legal.proofs.NoStep.{Silent}
use Rattle.tm_rerun_laws.proofs.Lands.{after-leads, leads}
use Rattle.tm_rerun_laws.proofs.Again.{Lands, IsAgain}
use Rattle.tm_rerun_laws.proofs.VerdictAgain.{Again}
use Rattle.tm_rerun_laws.proofs.CalmLooks.{last-is, last-has}
use Rattle.tm_rerun_laws.proofs.Lists.{All-to, All-pairs}

-- Lists

-- two lists, element by element
abbrev pub Pairs : {A : Type 0} → (A → A → Type 0) → List A → List A → Type 0
Pairs R [] [] = Unit {0}
Pairs R [] (y ∷ ys) = ⊥
Pairs R (x ∷ xs) [] = ⊥
Pairs R (x ∷ xs) (y ∷ ys) = R x y × Pairs R xs ys

pub Pairs-join : {A : Type 0} (R : A → A → Type 0) (n : ℕ) (xs ys : List A) → Pairs R (take n xs) (take n ys) → Pairs R (drop n xs) (drop n ys) → Pairs R xs ys
Pairs-join R zero xs ys h k = k
Pairs-join R (suc n) [] [] h k = tt
Pairs-join R (suc n) [] (y ∷ ys) h k = absurd h
Pairs-join R (suc n) (x ∷ xs) [] h k = absurd h
Pairs-join R (suc n) (x ∷ xs) (y ∷ ys) h k = (h.0, Pairs-join R n xs ys h.1 k)

pub Pairs-second : {A : Type 0} (R : A → A → Type 0) (P : A → Type 0) (xs ys : List A) → ((x y : A) → R x y → P y) → Pairs R xs ys → AllByRecursion P ys
Pairs-second R P [] [] f h = tt
Pairs-second R P [] (y ∷ ys) f h = absurd h
Pairs-second R P (x ∷ xs) [] f h = absurd h
Pairs-second R P (x ∷ xs) (y ∷ ys) f h = (f x y h.0, Pairs-second R P xs ys f h.1)

-- Floors

raised-above : (floor : ℕ) (ns : List ℕ) → floor ≤ raised floor ns
raised-above floor [] = omega arith
raised-above floor (n ∷ ns) = let le : max floor n ≤ raised (max floor n) ns = raised-above (max floor n) ns in omega arith

raised-append : (floor : ℕ) (xs ys : List ℕ) → raised floor (xs ++ ys) ≡ raised (raised floor xs) ys
raised-append floor [] ys = refl
raised-append floor (x ∷ xs) ys = raised-append (max floor x) xs ys

-- looks that raise the floor no higher than 0 are at version 0
versions-none : (floor : ℕ) (looks : List Look) → raised floor (flat_map seen looks) ≡ 0 → AllByRecursion (λ (look : Look). look.version ≡ 0) looks
versions-none floor [] h = tt
versions-none floor (look ∷ looks) h =
    let both : raised (raised floor (seen look)) (flat_map seen looks) ≡ 0 = sym (raised-append floor (seen look) (flat_map seen looks)) ∙ h in
    let low : raised floor (seen look) ≤ raised (raised floor (seen look)) (flat_map seen looks) = raised-above (raised floor (seen look)) (flat_map seen looks) in
    (first floor look (omega arith), versions-none (raised floor (seen look)) looks both)
  where
    first : (floor : ℕ) (look : Look) → raised floor (seen look) ≡ 0 → look.version ≡ 0
    first floor look e =
        let above : max floor look.version ≤ raised (max floor look.version) (look.own ++ heard_version look.heard) = raised-above (max floor look.version) (look.own ++ heard_version look.heard) in omega (arith, e)

-- each look is above the floor, and there
bounds-of : (h : History) (looks : List Look) (low floor : ℕ) → low ≤ floor → LooksRise h floor looks → AllByRecursion (λ (look : Look). (low ≤ look.version) × (look.version ≤ length h)) looks
bounds-of h [] low floor le rises = tt
bounds-of h (look ∷ looks) low floor le rises =
    let more : floor ≤ raised floor (seen look) = raised-above floor (seen look) in
    ((omega (arith, rises.0), rises.1), bounds-of h looks low (raised floor (seen look)) (omega arith) rises.2)

map-none : {A B : Type 0} (f : A → B) (xs : List A) → map f xs ≡ [] → xs ≡ []
map-none f [] e = refl
map-none f (x ∷ xs) e = absurd cc

-- where the two runs lead
landed : (h : History) (before ended : ℕ) (e : ℕ) (move : Move) (own : List ℕ) → leads h before move own ≡ Some e → Lands move before ended → e ≡ ended
landed h before ended e Move.Stay own led lands = let same : before ≡ e = cc in sym same ∙ sym lands
landed h before ended e (Move.Enter n) own led lands = let same : n ≡ e = cc in sym same ∙ sym lands
landed h before ended e Move.Make own led lands = absurd lands
landed h before ended e Move.Fail own led lands = absurd lands

-- Processes

-- the same process, and as long as the rerun has seen version 0 alone in the same domain
pub record Agree (first second : Situation) : Type 0 where
  pub process : first.process ≡ second.process
  pub domain : second.floor ≡ 0 → second.domain ≡ first.domain

-- of every process
abbrev pub AllAgree : Situations → Situations → Type 0
AllAgree first second = (pid : ℕ) → Agree (first pid) (second pid)

pub AllAgree-with : (first second : Situations) (pid : ℕ) (a b : Situation) → Agree a b → AllAgree first second → AllAgree (with_situation first pid a) (with_situation second pid b)
AllAgree-with first second pid a b one all other = go (other == pid)
  where
    go : (t : Bool) → Agree (if t then a else first other) (if t then b else second other)
    go true = one
    go false = all other

-- Takes

-- the same domains, granted, by looks that make no step
pub record SameTake (first second : Take) : Type 0 where
  pub before : second.before ≡ first.before
  pub ended : second.after ≡ first.after
  pub granted : second.granted ≡ true
  pub repeated : AllByRecursion (λ (look : Look). is_repeated look ≡ true) second.looks

-- a take of the rerun asks for no step at version 0; and if there is no other, it is the same
pub record TakeAgain (h : History) (first second : Take) : Type 0 where
  pub silent : AllByRecursion Silent second.looks
  pub same : length h ≡ 0 → SameTake first second

-- a case of the first run is granted by the policy q
pub record FirstCase (g : Grammar) (q : Policy) (c : Case) : Type 0 where
  pub again : Again g.is_path q c.now.process c.request c.taken.before c.taken.after
  pub before : c.now.domain ≡ Some c.taken.before

-- a case of the rerun is legal
pub record SecondCase (scene : Scene) (h : History) (c : Case) : Type 0 where
  pub some : 0 < length c.taken.looks
  pub before : c.now.domain ≡ Some c.taken.before
  pub rises : LooksRise h c.now.floor c.taken.looks
  pub holds : AllByRecursion (LookHolds scene h (subject_of c)) c.taken.looks
  pub own : AllByRecursion (OwnSteps scene h (subject_of c)) c.taken.looks
  pub ends : IfSome (last_look c.taken.looks) (EndsWith scene h (subject_of c) c.taken)

-- a look of the rerun
record LookAgain (look : Look) (before ended : ℕ) : Type 0 where
  pub repeated : is_repeated look ≡ true
  pub grants : look_grants look ≡ true
  pub own : look.own ≡ []
  pub lands : Lands look.step before ended

-- a look by what it shows
abbrev seen_as : Option Mode → Reason → Move → Look
seen_as mode reason step = record { version = 0; mode = mode; reason = reason; step = step; own = []; heard = None }

module _ (g : Grammar) (q : Policy) (trace : Trace) (h : History) where
  look-again : (s : Subject) (ended : ℕ) → Again g.is_path q s.process s.request s.domain ended → (look : Look) → look.version ≡ 0 → LookHolds (alone g q trace) h s look → OwnSteps (alone g q trace) h s look → LookAgain look s.domain ended
  unfolding after
  look-again s ended again look start (v, is, shows) own =
      let opened : verdict g.is_path q false s.domain s.process s.request ≡ Some v = rw start at is in
      let both : Some again.v ≡ Some v = sym again.is ∙ opened in
      let same : again.v ≡ v = cc in
      let so : IsAgain v s.domain ended = subst (λ (u : Verdict). IsAgain u s.domain ended) same again.again in
      let asked : map (step_at h) look.own ≡ map Some (steps_asked g s.domain (retry_written h look) v (look_grants look)) = rw is at own.asked in
      record {
        repeated = ap (λ (m : Option Mode). is_repeated (seen_as m look.reason look.step)) shows.mode ∙ ap (λ (r : Reason). is_repeated (seen_as v.mode r look.step)) shows.reason ∙ ap (λ (m : Move). is_repeated (seen_as v.mode v.reason m)) shows.move ∙ so.repeated;
        grants = ap (λ (r : Reason). grants_with r look.heard) shows.reason ∙ so.grants look.heard;
        own = map-none (step_at h) look.own (asked ∙ ap (map Some) (so.asks_nothing g s.domain (retry_written h look) (look_grants look)));
        lands = subst (λ (m : Move). Lands m s.domain ended) (sym shows.move) so.lands;
      }

  module _ (c1 c2 : Case) (agree : Agree c1.now c2.now) (request : c1.request ≡ c2.request) (one : FirstCase g q c1) (two : SecondCase (alone g q trace) h c2) where
    -- as long as the rerun has seen version 0 alone
    same_before : c2.now.floor ≡ 0 → c2.taken.before ≡ c1.taken.before
    same_before low = let both : Some c2.taken.before ≡ Some c1.taken.before = sym two.before ∙ agree.domain low ∙ one.before in cc

    again-here : c2.now.floor ≡ 0 → Again g.is_path q c2.now.process c2.request c2.taken.before c1.taken.after
    again-here low = rw (same_before low, ← request, ← agree.process) one.again

    bounds : AllByRecursion (λ (look : Look). (c2.now.floor ≤ look.version) × (look.version ≤ length h)) c2.taken.looks
    bounds = bounds-of h c2.taken.looks c2.now.floor c2.now.floor (omega arith) two.rises

    -- what is known of each look
    abbrev Known : Look → Type 0
    Known look = ((c2.now.floor ≤ look.version) × (look.version ≤ length h)) × (LookHolds (alone g q trace) h (subject_of c2) look × OwnSteps (alone g q trace) h (subject_of c2) look)

    known : AllByRecursion Known c2.taken.looks
    known = All-pairs _ _ c2.taken.looks bounds (All-pairs _ _ c2.taken.looks two.holds two.own)

    look-here : (look : Look) → Known look → look.version ≡ 0 → LookAgain look c2.taken.before c1.taken.after
    look-here look k start = look-again (subject_of c2) c1.taken.after (again-here (omega (arith, k.0.0))) look start k.1.0 k.1.1

    ended-so : (look : Look) → last_look c2.taken.looks ≡ Some look → look.version ≡ 0 → (c2.taken.after ≡ c1.taken.after) × (c2.taken.granted ≡ true)
    ended-so look is_last start =
        let la : LookAgain look c2.taken.before c1.taken.after = look-here look (last-has Known c2.taken.looks look is_last known) start in
        let ends : EndsWith (alone g q trace) h (subject_of c2) c2.taken look = rw is_last at two.ends in
        (landed h c2.taken.before c1.taken.after c2.taken.after look.step look.own (sym (after-leads h c2.taken.before look la.grants) ∙ ends.domain) la.lands, ends.granted ∙ la.grants)

    pub take-again : TakeAgain h c1.taken c2.taken
    take-again =
        record {
          silent = All-to Known Silent c2.taken.looks (λ look k. record { rises = k.1.1.rising; at_start = λ start. (look-here look k start).own }) known;
          same = λ none.
              let (look, is_last) = last-is c2.taken.looks two.some in
              let k : Known look = last-has Known c2.taken.looks look is_last known in
              let ended = ended-so look is_last (omega (arith, k.0.1)) in
              record {
                before = same_before (omega (arith, k.0.0, k.0.1));
                ended = ended.0;
                granted = ended.1;
                repeated = All-to Known (λ (l : Look). is_repeated l ≡ true) c2.taken.looks (λ l kl. (look-here l kl (omega (arith, kl.0.1))).repeated) known;
              };
        }

    pub agree-after : Agree (after_take c1.now c1.taken) (after_take c2.now c2.taken)
    agree-after =
        record {
          process = agree.process;
          domain = λ low.
              let (look, is_last) = last-is c2.taken.looks two.some in
              let start : look.version ≡ 0 = last-has (λ (l : Look). l.version ≡ 0) c2.taken.looks look is_last (versions-none c2.now.floor c2.taken.looks low) in
              ap (λ (n : ℕ). Some n) (ended-so look is_last start).0;
        }
