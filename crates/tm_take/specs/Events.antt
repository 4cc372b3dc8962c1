-- What the calls of this crate are of a tree's event.
use Rattle.std.specs.Prelude.{◌≡◌, ℕ, suc, Bool, List, [], length, Option, Some, None, slice_get}
use Rattle.tm_rules.specs.Types.{Answered, Look, Request, Step, Verdict}
use Rattle.tm_rules.specs.Prelude.{answer_of, audit_text}
use Rattle.tm_legal.specs.Prelude.{InProgress, Player, Settled, Situation, Stage, Way, after_answer, after_step, end_tree, going_on, look_at, on_way, settle, tree_event, verdict}
use Rattle.tm_grammar.specs.Tomoyo.{tomoyo_grammar}
use Rattle.tm_take.specs.declared.requests.PendingLook.{PendingLook}
use Rattle.tm_take.specs.Situations.{situation_of}
use Rattle.tm_take.specs.Taking.{rest_of, begun_with, TakesOut, LooksAgain}
use Rattle.tm_take.specs.Ways.{IsPassed, PassesTo}

-- a look at the newest version begins a take with the verdict and the audit text of the newest
-- policy
abbrev pub LooksWith : Type 0
LooksWith =
    (player : Player) (now : Situation) (d : ℕ) (request : Request) (retry : ℕ) (looked : List Look)
    (v : Verdict)
    → now.domain ≡ Some d
    → verdict tomoyo_grammar.is_path player.state.policy player.state.queries.attached d
    now.process request ≡ Some v
    → look_at tomoyo_grammar player now request retry looked
    ≡ Some (begun_with tomoyo_grammar (length player.steps) now d request retry looked v
    (audit_text tomoyo_grammar player.state.policy d now.process request v))

-- an idle tree passes to its next request, looks, and goes on
abbrev pub BeginsWith : Type 0
BeginsWith =
    (player : Player) (desk : Bool) (t : ℕ) (way later : Way) (pid : ℕ) (request : Request)
    (begun : InProgress)
    → slice_get player.ways t ≡ Some way → way.begun ≡ None → PassesTo pid request way later
    → look_at tomoyo_grammar player (later.at pid) request 0 [] ≡ Some begun
    → tree_event tomoyo_grammar player desk (suc t)
    ≡ Some (on_way tomoyo_grammar player t (going_on tomoyo_grammar later begun))

-- an idle tree without a request ends
abbrev pub EndsWhenPassed : Type 0
EndsWhenPassed =
    (player : Player) (desk : Bool) (t : ℕ) (way later : Way)
    → slice_get player.ways t ≡ Some way → way.begun ≡ None → IsPassed way later
    → tree_event tomoyo_grammar player desk (suc t) ≡ end_tree tomoyo_grammar player desk t

-- a take that owes a step makes it, and goes on
abbrev pub MakesOwn : Type 0
MakesOwn =
    (player : Player) (desk : Bool) (t : ℕ) (way : Way) (begun left : InProgress) (step : Step)
    (settled : Settled)
    → slice_get player.ways t ≡ Some way → way.begun ≡ Some begun → TakesOut begun step left
    → settle tomoyo_grammar player step ≡ Some settled
    → tree_event tomoyo_grammar player desk (suc t)
    ≡ Some (on_way tomoyo_grammar settled.player t (going_on tomoyo_grammar way
    (after_step tomoyo_grammar left (rest_of left.stage) settled.number settled.reply)))

-- a take that waits for an answer takes it, and goes on
abbrev pub Hears : Type 0
Hears =
    (player : Player) (desk : Bool) (t : ℕ) (way : Way) (begun : InProgress) (serial : ℕ)
    (answer : Answered)
    → slice_get player.ways t ≡ Some way → way.begun ≡ Some begun
    → begun.stage ≡ Stage.Waiting serial → answer_of player.state.queries serial ≡ Some answer
    → tree_event tomoyo_grammar player desk (suc t)
    ≡ Some (on_way tomoyo_grammar player t (going_on tomoyo_grammar way
    (after_answer tomoyo_grammar begun (length player.steps) answer)))

-- without an answer it can't move
abbrev pub WaitsOn : Type 0
WaitsOn =
    (player : Player) (desk : Bool) (t : ℕ) (way : Way) (begun : InProgress) (serial : ℕ)
    → slice_get player.ways t ≡ Some way → way.begun ≡ Some begun
    → begun.stage ≡ Stage.Waiting serial → answer_of player.state.queries serial ≡ None
    → tree_event tomoyo_grammar player desk (suc t) ≡ None

-- a take that is to look again looks, and goes on
abbrev pub LooksOnceMore : Type 0
LooksOnceMore =
    (player : Player) (desk : Bool) (t : ℕ) (way : Way) (begun after : InProgress)
    (next : PendingLook)
    → slice_get player.ways t ≡ Some way → way.begun ≡ Some begun → begun.stage ≡ Stage.Looking
    → LooksAgain begun next
    → look_at tomoyo_grammar player (situation_of next.now) next.request next.retry next.looked
    ≡ Some after
    → tree_event tomoyo_grammar player desk (suc t)
    ≡ Some (on_way tomoyo_grammar player t (going_on tomoyo_grammar way after))

-- a take goes on alike, whatever the tree has in progress
abbrev pub GoesOnAlike : Type 0
GoesOnAlike =
    (way : Way) (was : Option InProgress) (begun : InProgress)
    → going_on tomoyo_grammar (record way { begun = was }) begun ≡ going_on tomoyo_grammar way begun
