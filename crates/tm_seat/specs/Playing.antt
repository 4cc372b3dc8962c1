-- Takes, trees and editors on their way from a seat, in every scene with its opening.
use Rattle.std.specs.Prelude.{◌≡◌, ⊤, ◌≤◌, ℕ, List, ◌∷◌, [], ◌++◌, length, map, true, Option, Some}
use Rattle.std.specs.List.{list_all, AllByRecursion}
use Rattle.tm_rules.specs.Types.{Book, Item, Look, Made, Maker, Request, Start, Take, Tree}
use Rattle.tm_rules.specs.Prelude.{DomainName, Trace, item_is_request, live_domain}
use Rattle.tm_take.specs.Tomoyo.{tomoyo_grammar}
use Rattle.tm_legal.specs.Prelude.{DomainIn, InProgress, IsLegalTake, Situation, Situations, own_numbers, raised}
use Rattle.tm_made.specs.Made.{history_made}
use Rattle.tm_joint.specs.UnderWay.{own_so_far}
use Rattle.tm_joint.specs.AtLists.{UnderWayAt, WalkedAt}
use Rattle.tm_seat.specs.Seats.{scene_of, state_of, FitsFrom, Begins, MadeBy}

-- Takes

-- what a take is for: where its process stands, in which domain, and what it asks; and what was
-- known and made when it began
pub record Errand : Type 0 where
  pub now : Situation
  pub domain : ℕ
  pub request : Request
  pub known : List Made
  pub before : List ℕ

-- a take on its way, by what its seat knows and has made: it is under way in every scene with that
-- opening and from every floor that was known when it began
pub record IsPlaying (start : Start) (errand : Errand) (list : List Made) (own : List ℕ) (b : InProgress) : Type 0 where
  pub fitted : FitsFrom start list
  pub begins : Begins errand.known list
  pub under_way : (trace : Trace) (book : Option Book) (floor : ℕ) → length trace ≡ start.trees
      → floor ≤ length errand.known → UnderWayAt (scene_of start trace book) list floor b
  pub made : own ≡ errand.before ++ own_so_far b
  pub makers : MadeBy (Maker.Process errand.now.process.pid ∷ []) errand.known errand.before list own
  pub now : b.now ≡ errand.now
  pub domain : b.before ≡ errand.domain
  pub request : b.request ≡ errand.request

-- one event more of it, whatever it is for
abbrev pub PlaysOn : Start → List Made → List ℕ → InProgress → List Made → List ℕ → InProgress → Type 0
PlaysOn start old before b new own next =
    (errand : Errand) → IsPlaying start errand old before b → IsPlaying start errand new own next

-- a take is legal for its request in every scene with that opening, wherever its tree stands, from
-- every floor that was known when it began
abbrev pub TakeIsLegal : Start → List Made → List Made → Situation → Request → Take → Type 0
TakeIsLegal start known list now request take =
    (trace : Trace) (book : Option Book) (t : ℕ) (walked : Situation) → length trace ≡ start.trees
    → walked.process ≡ now.process → walked.domain ≡ now.domain → walked.floor ≤ length known
    → IsLegalTake (scene_of start trace book) (history_made (scene_of start trace book) list)
    (record { tree = t; now = walked; request = request; taken = take })

-- none of its looks is older than that version
abbrev pub LooksSince : ℕ → Take → Type 0
LooksSince version take = AllByRecursion (λ (look : Look). version ≤ look.version) take.looks

-- a take that has ended, by what its seat knows and has made then
pub record HasEnded (start : Start) (errand : Errand) (list : List Made) (own : List ℕ) (take : Take) : Type 0 where
  pub fitted : FitsFrom start list
  pub legal : TakeIsLegal start errand.known list errand.now errand.request take
  pub there : DomainIn (state_of start list).policy take.after
  pub made : own ≡ errand.before ++ own_numbers (take ∷ [])
  pub makers : MadeBy (Maker.Process errand.now.process.pid ∷ []) errand.known errand.before list own
  pub fresh : LooksSince (length errand.known) take
  pub pid : take.pid ≡ errand.now.process.pid

-- each of these is no older than the floor, which each raises by the versions that it has seen
abbrev pub Rises : {A : Type 0} → (ℕ → A → Type 0) → (A → List ℕ) → ℕ → List A → Type 0
Rises Since sees floor [] = ⊤
Rises Since sees floor (first ∷ rest) = Since floor first × Rises Since sees (raised floor (sees first)) rest

-- Trees

-- what a tree is: its records, and the live domain that it starts in; and what was known and made
-- when it began
pub record Walk : Type 0 where
  pub records : List Item
  pub home : ℕ
  pub known : List Made
  pub before : List ℕ

-- the makers of these takes' steps
abbrev pub makers_of : List Take → List Maker
makers_of takes = map (λ (k : Take). Maker.Process k.pid) takes

-- every tree with these records whose name's live domain is that one
abbrev pub OfTrees : Start → List Item → ℕ → (Trace → Option Book → ℕ → Tree → Type 0) → Type 0
OfTrees start records home P =
    (trace : Trace) (book : Option Book) (t : ℕ) (tree : Tree) → length trace ≡ start.trees
    → tree.records ≡ records → live_domain start.policy tree.start ≡ Some home → P trace book t tree

-- a tree on its way before these lines, by what its seat knows and has made
pub record IsPlayingTree (start : Start) (walk : Walk) (list : List Made) (own : List ℕ) (at : Situations)
    (left : List Item) (takes : List Take) : Type 0 where
  pub fitted : FitsFrom start list
  pub begins : Begins walk.known list
  pub starts : (name : DomainName) × (live_domain start.policy name ≡ Some walk.home)
  pub walked : OfTrees start walk.records walk.home
      (λ trace book t tree. WalkedAt (scene_of start trace book) list t tree at left takes)
  pub made : own ≡ walk.before ++ own_numbers takes
  pub makers : MadeBy (makers_of takes) walk.known walk.before list own
  pub fresh : AllByRecursion (LooksSince (length walk.known)) takes
  pub asked : list_all (item_is_request tomoyo_grammar.is_path) left ≡ true

-- one line more of it, whatever tree it is
abbrev pub TreePlaysOn : Start → List Made → List ℕ → Situations → List Item → List Take → List Made → List ℕ
    → Situations → List Item → List Take → Type 0
TreePlaysOn start old before at lines takes new own later left more =
    (walk : Walk) → IsPlayingTree start walk old before at lines takes
    → IsPlayingTree start walk new own later left more
