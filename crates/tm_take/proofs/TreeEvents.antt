-- A tree's event, by what its take waits for.
use Rattle.std.proofs.Common.{◌≡◌, ℕ, suc, Bool, List, [], ◌∷◌, refl, sym, ap, ◌∙◌, subst, ◌++◌}
use Rattle.std.specs.Prelude.{Option, Some, None, slice_get}
use Rattle.tm_rules.specs.Types.{Item, Request, Step}
use Rattle.tm_rules.specs.Prelude.{Grammar}
use Rattle.tm_legal.specs.Prelude.{InProgress, Player, Settled, Situations, Stage, Way, after_step, end_tree, first_look, going_on, look_at, on_way, passed, settle, stage_event, tree_event}
use Rattle.tm_grammar.specs.Tomoyo.{tomoyo_grammar}
use Rattle.tm_take.specs.Taking.{rest_of}
use Rattle.tm_take.specs.Events.{LooksWith, BeginsWith, EndsWhenPassed, MakesOwn, Hears, WaitsOn, LooksOnceMore, GoesOnAlike}

pub looks_with : LooksWith
unfolding look_at
looks_with player now d request retry looked v domain judged = rw (domain, judged) refl

-- the event of an idle tree is its first look, and else that of its take
idle : (g : Grammar) (player : Player) (desk : Bool) (t : ℕ) (way : Way) → slice_get player.ways t ≡ Some way → way.begun ≡ None → tree_event g player desk (suc t) ≡ first_look g player desk t way (passed g way.at way.items)
unfolding tree_event
idle g player desk t way there none = rw there (rw none refl)

busy : (g : Grammar) (player : Player) (desk : Bool) (t : ℕ) (way : Way) (begun : InProgress) (stage : Stage) → slice_get player.ways t ≡ Some way → way.begun ≡ Some begun → begun.stage ≡ stage → tree_event g player desk (suc t) ≡ stage_event g player t way begun stage
unfolding tree_event stage_event
busy g player desk t way begun stage there some is = rw there (rw some (ap (stage_event g player t way begun) is))

-- the first look, by where the passing leads
first_at : (g : Grammar) (player : Player) (desk : Bool) (t : ℕ) (way : Way) (at : Situations) (items : List Item) (pid : ℕ) (request : Request) (begun : InProgress) → look_at g player (at pid) request 0 [] ≡ Some begun → first_look g player desk t way (at, Item.Do pid request ∷ items) ≡ Some (on_way g player t (going_on g (record way { at = at; items = items }) begun))
unfolding first_look
first_at g player desk t way at items pid request begun looks = rw looks refl

first_none : (g : Grammar) (player : Player) (desk : Bool) (t : ℕ) (way : Way) (next : Situations × List Item) → next.1 ≡ [] → first_look g player desk t way next ≡ end_tree g player desk t
unfolding first_look
first_none g player desk t way next none = rw none refl

pub begins_with : BeginsWith
begins_with player desk t way later pid request begun there none passes looks =
    idle tomoyo_grammar player desk t way there none
    ∙ ap (first_look tomoyo_grammar player desk t way) passes.passes
    ∙ first_at tomoyo_grammar player desk t way later.at later.items pid request begun looks
    ∙ ap (λ (w : Way). Some (on_way tomoyo_grammar player t (going_on tomoyo_grammar w begun))) (sym passes.same)

pub ends_when_passed : EndsWhenPassed
ends_when_passed player desk t way later there none past =
    idle tomoyo_grammar player desk t way there none ∙ first_none tomoyo_grammar player desk t way (passed tomoyo_grammar way.at way.items) past.past

-- the events of a take
own_event : (g : Grammar) (player : Player) (t : ℕ) (way : Way) (begun : InProgress) (step : Step) (rest : List Step) (settled : Settled) → settle g player step ≡ Some settled → stage_event g player t way begun (Stage.Owing (step ∷ rest)) ≡ Some (on_way g settled.player t (going_on g way (after_step g begun rest settled.number settled.reply)))
unfolding stage_event
own_event g player t way begun step rest settled made = rw made refl

after_left : (g : Grammar) (begun left : InProgress) (rest : List Step) (settled : Settled) → left ≡ record begun { stage = Stage.Owing rest } → after_step g begun rest settled.number settled.reply ≡ after_step g left (rest_of left.stage) settled.number settled.reply
after_left g begun left rest settled is = subst (λ (b : InProgress). after_step g begun rest settled.number settled.reply ≡ after_step g b (rest_of b.stage) settled.number settled.reply) (sym is) refl

pub makes_own : MakesOwn
makes_own player desk t way begun left step settled there some out made =
    busy tomoyo_grammar player desk t way begun (Stage.Owing (step ∷ out.rest)) there some out.owing
    ∙ own_event tomoyo_grammar player t way begun step out.rest settled made
    ∙ ap (λ (b : InProgress). Some (on_way tomoyo_grammar settled.player t (going_on tomoyo_grammar way b))) (after_left tomoyo_grammar begun left out.rest settled out.is_left)

pub hears : Hears
unfolding stage_event
hears player desk t way begun serial answer there some waiting has = busy tomoyo_grammar player desk t way begun (Stage.Waiting serial) there some waiting ∙ rw has refl

pub waits_on : WaitsOn
unfolding stage_event
waits_on player desk t way begun serial there some waiting none = busy tomoyo_grammar player desk t way begun (Stage.Waiting serial) there some waiting ∙ rw none refl

again_event : (g : Grammar) (player : Player) (t : ℕ) (way : Way) (begun after : InProgress) → look_at g player begun.now begun.request (suc begun.retry) (begun.looked ++ begun.look ∷ []) ≡ Some after → stage_event g player t way begun Stage.Looking ≡ Some (on_way g player t (going_on g way after))
unfolding stage_event
again_event g player t way begun after looks = rw looks refl

pub looks_once_more : LooksOnceMore
looks_once_more player desk t way begun after next there some looking again looks =
    busy tomoyo_grammar player desk t way begun Stage.Looking there some looking
    ∙ again_event tomoyo_grammar player t way begun after (rw (again.now, again.request, again.retry, again.looked) at looks)

alike : (g : Grammar) (way : Way) (was : Option InProgress) (begun : InProgress) (stage : Stage) → begun.stage ≡ stage → going_on g (record way { begun = was }) begun ≡ going_on g way begun
alike g way was begun (Stage.Owing []) is = rw is refl
alike g way was begun (Stage.Owing (step ∷ rest)) is = rw is refl
alike g way was begun (Stage.Waiting serial) is = rw is refl
alike g way was begun Stage.Looking is = rw is refl

pub goes_on_alike : GoesOnAlike
goes_on_alike way was begun = alike tomoyo_grammar way was begun begun.stage refl
