-- Which trees are awake: all others rest.
use Rattle.std.proofs.Common.{◌≡◌, ◌≤◌, ◌<◌, ℕ, zero, suc, ◌+◌, List, [], ◌∷◌, ◌++◌, length, take, get_or, map, Bool, true, false, true≢false, refl, sym, ap, ◌∙◌, subst, arith}
use Rattle.std.specs.Prelude.{Option, Some, None, option_map, is_some, is_none, if◌then◌else◌, ◌==◌, ◌||◌, ◌&&◌, nat_lt, nat_le}
use Rattle.std.specs.Option.{option_and_then, option_map_or}
use Rattle.std.specs.List.{AllByRecursion}
use Rattle.std.specs.Ordering.{nat_cmp}
use Rattle.std.specs.BTreeMap.{get}
use Rattle.std.specs.List.Sorted.{IsStrictlySortedBy}
use Rattle.std.proofs.lemmas.List.{take-map, get_or-map}
use Rattle.std.proofs.lemmas.Bool.{eqb-true, eq-eqb, ltb-true, leb-true, lt-ltb, le-leb}
use Rattle.tm_rules.specs.Types.{Book, Start, Turn}
use Rattle.tm_rules.specs.Prelude.{Trace}
use Rattle.tm_audit.specs.Tomoyo.{tomoyo_grammar}
use Rattle.tm_legal.specs.Prelude.{Player, Scene, Settled, event, numbers_to, player_event, settle, supervisor_step, tree_event, turns}
use Rattle.tm_machine.specs.Machine.{Course}
use Rattle.tm_core.specs.Scenes.{scene_of, IsReached, Answers}
use Rattle.tm_core.specs.Rounds.{HasPlayed, one_round}
use Rattle.tm_core.specs.declared.awake.Awake.{Awake}
use Rattle.tm_core.specs.Resting.{awaited_by, Rests, is_awake, tree_of, is_tree, wakes, may_lie, LiesDown, OthersRest}
use Rattle.tm_core.proofs.Leaving.{Led, StaysOn, answered_by, nothing-is}
use Rattle.tm_core.proofs.RoundLaws.{none-played, one-played}
use Rattle.tm_core.proofs.PassOver.{IsNoDesk, turns-rest, desk-rests-on, event-rests, is_among, same-among, later-among, trees-played, played-both}

-- Truth values

or-false : (a b : Bool) → (a || b) ≡ false → (a ≡ false) × (b ≡ false)
or-false true b h = absurd cc
or-false false b h = (refl, h)

and-true : (a b : Bool) → (a && b) ≡ true → (a ≡ true) × (b ≡ true)
and-true true b h = (refl, h)
and-true false b h = absurd cc

if-false : (c a : Bool) → (if c then false else a) ≡ true → a ≡ true
if-false true a h = absurd cc
if-false false a h = h

none-is : {A : Type 0} (o : Option A) → is_none o ≡ true → o ≡ None
none-is None h = refl
none-is (Some x) h = absurd cc

tree-there : (trees t : ℕ) → is_tree trees t ≡ true → (0 < t) × (t ≤ trees)
tree-there trees t is = let both = and-true (nat_lt 0 t) (nat_le t trees) is in (ltb-true 0 t both.0, leb-true t trees both.1)

there-tree : (trees t : ℕ) → 0 < t → t ≤ trees → is_tree trees t ≡ true
there-tree trees t some within = rw (lt-ltb 0 t some, le-leb t trees within) refl

-- At first every tree is awake

pub all-awake : (start : Start) (player : Player) (awake : Awake) → ((t : ℕ) → is_awake awake t ≡ is_tree start.trees t) → ((serial : ℕ) → tree_of awake serial ≡ None) → OthersRest start player awake
all-awake start player awake all none =
    record {
      rest = λ t some within not. absurd (true≢false (sym (there-tree start.trees t some within) ∙ sym (all t) ∙ not));
      awake_there = λ t is. tree-there start.trees t (sym (all t) ∙ is);
      found_there = λ serial t is. absurd (let no : None ≡ Some t = sym (none serial) ∙ is in cc);
    }

-- A tree that can't move lies down

pub lies-down : (start later : Start) (player next : Player) (number : ℕ) (serial : Option ℕ) (old new : Awake) → later ≡ start → next ≡ player → tree_event tomoyo_grammar player start.desk number ≡ None → 0 < number → number ≤ start.trees
    → serial ≡ awaited_by next number → LiesDown number serial old new → OthersRest start player old → OthersRest later next new
lies-down start later player next number serial old new same_start same still some within waits lies others =
    rw (same_start, same)
    (record {
      rest = rest;
      awake_there = λ t is. others.awake_there t (if-false (may_lie old serial && number == t) (is_awake old t) (sym (lies.awake t) ∙ is));
      found_there = λ k t is. found (may_lie old serial && option_map_or (λ own. own == k) serial false) k t (sym (lies.found k) ∙ is);
    })
  where
    found : (b : Bool) (k t : ℕ) → (if b then Some number else tree_of old k) ≡ Some t → (0 < t) × (t ≤ start.trees)
    found true k t is = let own : number ≡ t = cc in subst (λ n. (0 < n) × (n ≤ start.trees)) own (some, within)
    found false k t is = others.found_there k t is

    -- a tree that is awake no more
    lain : (t : ℕ) → (may_lie old serial && number == t) ≡ true → Rests tomoyo_grammar start.desk player (tree_of new) t
    lain t is =
        let both = and-true (may_lie old serial) (number == t) is in
        let own : number ≡ t = eqb-true number t both.1 in
        subst (Rests tomoyo_grammar start.desk player (tree_of new)) own
        (record {
          still = still;
          found = λ k waited.
              let serial_is : serial ≡ Some k = waits ∙ ap (λ p. awaited_by p number) same ∙ waited in
              lies.found k ∙ rw (both.0, serial_is, eq-eqb k k refl) refl;
        })

    -- one that wasn't
    lay : (t : ℕ) → Rests tomoyo_grammar start.desk player (tree_of old) t → Rests tomoyo_grammar start.desk player (tree_of new) t
    lay t rests =
        record {
          still = rests.still;
          found = λ k waited. lies.found k ∙ kept k (rests.found k waited) serial refl;
        }
      where
        kept : (k : ℕ) → tree_of old k ≡ Some t → (o : Option ℕ) → serial ≡ o → (if may_lie old o && option_map_or (λ own. own == k) o false then Some number else tree_of old k) ≡ Some t
        kept k is None e = is
        kept k is (Some own) e = by_own (own == k) refl (is_none (tree_of old own)) refl
          where
            by_own : (b : Bool) → (own == k) ≡ b → (c : Bool) → is_none (tree_of old own) ≡ c → (if c && b then Some number else tree_of old k) ≡ Some t
            by_own true e true none = absurd (let no : None ≡ Some t = sym (none-is (tree_of old own) none) ∙ ap (tree_of old) (eqb-true own k e) ∙ is in cc)
            by_own true e false none = is
            by_own false e true none = is
            by_own false e false none = is

    rest : (t : ℕ) → 0 < t → t ≤ start.trees → is_awake new t ≡ false → Rests tomoyo_grammar start.desk player (tree_of new) t
    rest t lt le not = go (may_lie old serial && number == t) refl (sym (lies.awake t) ∙ not)
      where
        go : (b : Bool) → (may_lie old serial && number == t) ≡ b → (if b then false else is_awake old t) ≡ false → Rests tomoyo_grammar start.desk player (tree_of new) t
        go true e h = lain t e
        go false e h = lay t (others.rest t lt le h)

-- Turns of trees and of editors

desk-is : (desk : Bool) (book : Book) → is_some (if desk then Some book else None) ≡ desk
desk-is true book = refl
desk-is false book = refl

to-scene : (start : Start) (trace : Trace) (book : Book) (player : Player) (found : ℕ → Option ℕ) (t : ℕ) → Rests tomoyo_grammar start.desk player found t → Rests tomoyo_grammar (is_some (scene_of start trace book).book) player found t
to-scene start trace book player found t rests = subst (λ d. Rests tomoyo_grammar d player found t) (sym (desk-is start.desk book)) rests

from-scene : (start : Start) (trace : Trace) (book : Book) (player : Player) (found : ℕ → Option ℕ) (t : ℕ) → Rests tomoyo_grammar (is_some (scene_of start trace book).book) player found t → Rests tomoyo_grammar start.desk player found t
from-scene start trace book player found t rests = subst (λ d. Rests tomoyo_grammar d player found t) (desk-is start.desk book) rests

pub led-of : (trace : Trace) (book : Book) (course : Course) (player : Player) → IsReached trace book course player → Led (scene_of course.start trace book) player
led-of trace book course player h = record { can = h.can; schedule = h.schedule; led = h.led }

-- each tree that rests does so after it
keeps : (start later : Start) (player next : Player) (awake : Awake) → later ≡ start → ((t : ℕ) → Rests tomoyo_grammar start.desk player (tree_of awake) t → Rests tomoyo_grammar start.desk next (tree_of awake) t) → OthersRest start player awake → OthersRest later next awake
keeps start later player next awake same f others =
    rw same (record { rest = λ t lt le not. f t (others.rest t lt le not); awake_there = others.awake_there; found_there = others.found_there })

pub others-on-tree : (trace : Trace) (book : Book) (start later : Start) (player next : Player) (number : ℕ) (awake : Awake) → Led (scene_of start trace book) player → later ≡ start → event (scene_of start trace book) player (Turn.Tree number) ≡ Some next
    → OthersRest start player awake → OthersRest later next awake
others-on-tree trace book start later player next number awake led same is others =
    keeps start later player next awake same
    (λ t rests. from-scene start trace book next (tree_of awake) t (event-rests (scene_of start trace book) player (tree_of awake) t led (to-scene start trace book player (tree_of awake) t rests) (Turn.Tree number) next tt is)) others

pub others-on-turns : (trace : Trace) (book : Book) (start later : Start) (player next : Player) (list : List Turn) (awake : Awake) → Led (scene_of start trace book) player → later ≡ start → next ≡ turns (scene_of start trace book) player list → AllByRecursion IsNoDesk list
    → OthersRest start player awake → OthersRest later next awake
others-on-turns trace book start later player next list awake led same is no_desk others =
    keeps start later player next awake same
    (λ t rests. from-scene start trace book next (tree_of awake) t (subst (λ (q : Player). Rests tomoyo_grammar (is_some (scene_of start trace book).book) q (tree_of awake) t) (sym is) (turns-rest (scene_of start trace book) player (tree_of awake) t list led no_desk (to-scene start trace book player (tree_of awake) t rests)))) others

pub editors-no-desk : (numbers : List ℕ) → AllByRecursion IsNoDesk (map Turn.Editor numbers)
editors-no-desk [] = tt
editors-no-desk (number ∷ numbers) = (tt, editors-no-desk numbers)

-- The supervisor's turn

abbrev SupervisorHas : Player → Bool → Turn → Player → Type 0
SupervisorHas player desk who next = option_and_then (λ step. option_map (λ (s : Settled). s.player) (settle tomoyo_grammar player step)) (supervisor_step tomoyo_grammar player desk who) ≡ Some next

module _ (trace : Trace) (book : Book) (start : Start) (player next : Player) (old : Awake) (t : ℕ) (led : Led (scene_of start trace book) player) (some : 0 < t) (within : t ≤ start.trees) where
  desk-turned : (who : Turn) → StaysOn who → ((serial : ℕ) → answered_by who ≡ Some serial → tree_of old serial ≡ Some t → ⊥) → SupervisorHas player start.desk who next → Rests tomoyo_grammar start.desk player (tree_of old) t → Rests tomoyo_grammar start.desk next (tree_of old) t
  desk-turned who stays unheard is rests =
      from-scene start trace book next (tree_of old) t
      (desk-rests-on (scene_of start trace book) player next who (tree_of old) t led stays unheard (subst (λ d. SupervisorHas player d who next) (sym (desk-is start.desk book)) is) (to-scene start trace book player (tree_of old) t rests))

  other-turned : (who : Turn) → IsNoDesk who → event (scene_of start trace book) player who ≡ Some next → Rests tomoyo_grammar start.desk player (tree_of old) t → Rests tomoyo_grammar start.desk next (tree_of old) t
  other-turned who no_desk is rests =
      from-scene start trace book next (tree_of old) t (event-rests (scene_of start trace book) player (tree_of old) t led (to-scene start trace book player (tree_of old) t rests) who next no_desk is)

  after-turn : (who : Turn) → player_event tomoyo_grammar player start.desk who ≡ Some next → wakes who start.trees old t ≡ false → Rests tomoyo_grammar start.desk player (tree_of old) t → Rests tomoyo_grammar start.desk next (tree_of old) t
  unfolding event player_event supervisor_step
  after-turn (Turn.Tree k) is not rests = other-turned (Turn.Tree k) tt (subst (λ d. player_event tomoyo_grammar player d (Turn.Tree k) ≡ Some next) (sym (desk-is start.desk book)) is) rests
  after-turn (Turn.Editor e) is not rests = other-turned (Turn.Editor e) tt (subst (λ d. player_event tomoyo_grammar player d (Turn.Editor e) ≡ Some next) (sym (desk-is start.desk book)) is) rests
  after-turn Turn.Desk is not rests = nothing-is next (Rests tomoyo_grammar start.desk next (tree_of old) t) is
  after-turn Turn.Attach is not rests = desk-turned Turn.Attach tt (λ serial heard found. absurd cc) is rests
  after-turn (Turn.Answer serial code) is not rests = desk-turned (Turn.Answer serial code) tt unheard is rests
    where
      unheard : (k : ℕ) → Some serial ≡ Some k → tree_of old k ≡ Some t → ⊥
      unheard k heard found =
          let own : serial ≡ k = cc in
          let woken : option_map_or (λ n. n == t) (tree_of old serial) false ≡ true = ap (λ n. option_map_or (λ m. m == t) (tree_of old n) false) own ∙ ap (λ (o : Option ℕ). option_map_or (λ m. m == t) o false) found ∙ eq-eqb t t refl in
          true≢false (sym woken ∙ not)
  after-turn Turn.Detach is not rests = absurd (true≢false (sym (there-tree start.trees t some within) ∙ not))

pub others-on-desk : (trace : Trace) (book : Book) (start later : Start) (player next : Player) (who : Turn) (old new : Awake) → Led (scene_of start trace book) player → later ≡ start → player_event tomoyo_grammar player start.desk who ≡ Some next
    → ((t : ℕ) → is_awake new t ≡ (is_awake old t || wakes who start.trees old t)) → new.waiting ≡ old.waiting → OthersRest start player old → OthersRest later next new
others-on-desk trace book start later player next who old new led same is woken kept others =
    rw same
    (record {
      rest = λ t lt le not.
          let both = or-false (is_awake old t) (wakes who start.trees old t) (sym (woken t) ∙ not) in
          subst (λ w. Rests tomoyo_grammar start.desk next (get nat_cmp w) t) (sym kept) (after-turn trace book start player next old t led lt le who is both.1 (others.rest t lt le both.0));
      awake_there = λ t awake. there t (is_awake old t) refl who refl (sym (woken t) ∙ awake);
      found_there = λ serial t found. others.found_there serial t (subst (λ w. get nat_cmp w serial ≡ Some t) kept found);
    })
  where
    by_serial : (serial t : ℕ) (o : Option ℕ) → tree_of old serial ≡ o → option_map_or (λ n. n == t) o false ≡ true → (0 < t) × (t ≤ start.trees)
    by_serial serial t None e h = absurd cc
    by_serial serial t (Some n) e h = subst (λ m. (0 < m) × (m ≤ start.trees)) (eqb-true n t h) (others.found_there serial n e)

    by_turn : (w : Turn) (t : ℕ) → wakes w start.trees old t ≡ true → (0 < t) × (t ≤ start.trees)
    by_turn (Turn.Answer serial code) t h = by_serial serial t (tree_of old serial) refl h
    by_turn Turn.Detach t h = tree-there start.trees t h
    by_turn (Turn.Tree k) t h = absurd cc
    by_turn (Turn.Editor e) t h = absurd cc
    by_turn Turn.Desk t h = absurd cc
    by_turn Turn.Attach t h = absurd cc

    there : (t : ℕ) (b : Bool) → is_awake old t ≡ b → (w : Turn) → who ≡ w → (b || wakes w start.trees old t) ≡ true → (0 < t) × (t ≤ start.trees)
    there t true e w same h = others.awake_there t e
    there t false e w same h = by_turn w t h

-- One round

map-length : {A B : Type 0} (f : A → B) (xs : List A) → length (map f xs) ≡ length xs
map-length f [] = refl
map-length f (x ∷ xs) = ap suc (map-length f xs)

pub tree-played : (trace : Trace) (book : Book) (course : Course) (start : Start) (old now next : Player) (numbers : List ℕ) (i d : ℕ) (moved m : Bool) → course.start ≡ start → i < length numbers → IsReached trace book course now
    → HasPlayed (scene_of start trace book) old now (map Turn.Tree (take i numbers)) moved → Answers m (event (scene_of course.start trace book) now (Turn.Tree (get_or numbers i d))) next now
    → HasPlayed (scene_of start trace book) old next (map Turn.Tree (take (i + 1) numbers)) (if m then true else moved)
tree-played trace book course start old now next numbers i d moved m same within reached played is =
    subst (λ (list : List Turn). HasPlayed (scene_of start trace book) old next list (if m then true else moved)) (take-map Turn.Tree (i + 1) numbers)
    (one-played trace book course start old now next (map Turn.Tree numbers) i (Turn.Tree d) moved m same (let same_length = map-length Turn.Tree numbers in omega (arith, within, same_length)) reached
    (subst (λ (list : List Turn). HasPlayed (scene_of start trace book) old now list moved) (sym (take-map Turn.Tree i numbers)) played)
    (subst (λ (who : Turn). Answers m (event (scene_of course.start trace book) now who) next now) (sym (get_or-map Turn.Tree numbers i d (Turn.Tree d) within)) is))

pub all-trees-played : (trace : Trace) (book : Book) (start : Start) (old now : Player) (awake : Awake) (numbers : List ℕ) (moved : Bool) → Led (scene_of start trace book) old → numbers ≡ awake.trees.keys → IsStrictlySortedBy nat_cmp numbers → OthersRest start old awake
    → HasPlayed (scene_of start trace book) old now (map Turn.Tree numbers) moved → HasPlayed (scene_of start trace book) old now (map Turn.Tree (numbers_to start.trees)) moved
all-trees-played trace book start old now awake numbers moved led are sorted others played =
    trees-played (scene_of start trace book) (tree_of awake) numbers start.trees old now moved led sorted
    (λ t is. others.awake_there t (subst (λ (keys : List ℕ). is_among keys t ≡ true) are is))
    (λ t lt le not. to-scene start trace book old (tree_of awake) t (others.rest t lt (omega (arith, le)) (subst (λ (keys : List ℕ). is_among keys t ≡ false) are not)))
    played

pub desk-played : (trace : Trace) (book : Book) (course : Course) (start : Start) (now next : Player) (m : Bool) → course.start ≡ start → IsReached trace book course now → Answers m (event (scene_of course.start trace book) now Turn.Desk) next now → HasPlayed (scene_of start trace book) now next (Turn.Desk ∷ []) m
desk-played trace book course start now next m same reached is =
    subst (HasPlayed (scene_of start trace book) now next (Turn.Desk ∷ [])) (as-is m)
    (one-played trace book course start now now next (Turn.Desk ∷ []) 0 Turn.Desk false m same (omega arith) reached (none-played (scene_of start trace book) now (Turn.Desk ∷ [])) is)
  where
    as-is : (m : Bool) → (if m then true else false) ≡ m
    as-is true = refl
    as-is false = refl

pub round-played : (scene : Scene) (old first second now : Player) (editors trees : ℕ) (m n k all : Bool) → HasPlayed scene old first (map Turn.Editor (numbers_to editors)) m → HasPlayed scene first second (map Turn.Tree (numbers_to trees)) n
    → HasPlayed scene second now (Turn.Desk ∷ []) k → all ≡ ((m || n) || k) → HasPlayed scene old now (one_round editors trees) all
round-played scene old first second now editors trees m n k all edited went had is =
    subst (HasPlayed scene old now (one_round editors trees)) (sym is)
    (played-both scene old second now (map Turn.Editor (numbers_to editors) ++ map Turn.Tree (numbers_to trees)) (Turn.Desk ∷ []) (m || n) k (played-both scene old first second (map Turn.Editor (numbers_to editors)) (map Turn.Tree (numbers_to trees)) m n edited went) had)

pub no-tree-played : (scene : Scene) (player : Player) (numbers : List ℕ) → HasPlayed scene player player (map Turn.Tree (take 0 numbers)) false
no-tree-played scene player numbers = none-played scene player []

-- a tree that had been awake at first is a tree of the play
pub number-there : (start : Start) (player : Player) (awake : Awake) (numbers : List ℕ) (i d : ℕ) → OthersRest start player awake → numbers ≡ awake.trees.keys → i < length numbers → (0 < get_or numbers i d) × (get_or numbers i d ≤ start.trees)
number-there start player awake numbers i d others are within =
    others.awake_there (get_or numbers i d) (subst (λ (keys : List ℕ). is_among keys (get_or numbers i d) ≡ true) are (among numbers i within))
  where
    among : (ks : List ℕ) (i : ℕ) → i < length ks → is_among ks (get_or ks i d) ≡ true
    among [] i lt = absurd (omega (arith, lt))
    among (k ∷ ks) zero lt = same-among k ks
    among (k ∷ ks) (suc i) lt = later-among k (get_or ks i d) ks (among ks i (omega (arith, lt)))

-- editors, trees and the desk
pub round-of : (trace : Trace) (book : Book) (course first second : Course) (old edited went now : Player) (m n k all : Bool) → first.start ≡ course.start → second.start ≡ first.start → HasPlayed (scene_of course.start trace book) old edited (map Turn.Editor (numbers_to (length course.start.editors))) m
    → HasPlayed (scene_of first.start trace book) edited went (map Turn.Tree (numbers_to first.start.trees)) n → IsReached trace book second went → Answers k (event (scene_of second.start trace book) went Turn.Desk) now went → all ≡ ((m || n) || k)
    → HasPlayed (scene_of course.start trace book) old now (one_round (length course.start.editors) course.start.trees) all
round-of trace book course first second old edited went now m n k all same again editors trees reached desk is =
    round-played (scene_of course.start trace book) old edited went now (length course.start.editors) course.start.trees m n k all editors
    (subst (λ (start : Start). HasPlayed (scene_of start trace book) edited went (map Turn.Tree (numbers_to start.trees)) n) same trees)
    (desk-played trace book second course.start went now k (again ∙ same) reached desk) is

pub or-true : (b : Bool) → true ≡ (b || true)
or-true true = refl
or-true false = refl

pub or-none : (b : Bool) → b ≡ (b || false)
or-none true = refl
or-none false = refl

-- what editors leave
pub others-edited : (trace : Trace) (book : Book) (course later : Course) (player next : Player) (turns : List Turn) (numbers : List ℕ) (moved : Bool) (awake : Awake) → IsReached trace book course player → later.start ≡ course.start → turns ≡ map Turn.Editor numbers
    → HasPlayed (scene_of course.start trace book) player next turns moved → OthersRest course.start player awake → OthersRest later.start next awake
others-edited trace book course later player next turns numbers moved awake reached same are played others =
    others-on-turns trace book course.start later.start player next turns awake (led-of trace book course player reached) same played.led (subst (AllByRecursion IsNoDesk) (sym are) (editors-no-desk numbers)) others

-- nothing has changed
pub others-same : (start later : Start) (player next : Player) (awake : Awake) → later ≡ start → next ≡ player → OthersRest start player awake → OthersRest later next awake
others-same start later player next awake same_start same others = rw (same_start, same) others
