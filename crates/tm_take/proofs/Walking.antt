-- Steps of a tree's walk through its lines.
use Rattle.std.proofs.Common.{◌≡◌, ℕ, true, false, not, List, [], ◌∷◌, refl, sym, ap, ◌∙◌}
use Rattle.tm_word.specs.Prelude.{is_empty}
use Rattle.tm_rules.specs.Types.{Item, Request, Step}
use Rattle.tm_rules.specs.Prelude.{Grammar}
use Rattle.tm_legal.specs.Prelude.{Situations, Stage, Way, do_pids, forked, passed, with_ids, with_situation}
use Rattle.std.specs.Prelude.{Option, Some, None}
use Rattle.tm_grammar.specs.Tomoyo.{tomoyo_grammar}
use Rattle.tm_take.specs.Passing.{Passes}
use Rattle.tm_take.specs.Ways.{WayPasses}

-- one line more is passed
pub pass_more : (g : Grammar) (at later start : Situations) (items lines first : List Item) (item : Item) → lines ≡ item ∷ items → passed g later items ≡ passed g at (item ∷ items) → passed g at lines ≡ passed g start first → passed g later items ≡ passed g start first
pass_more g at later start items lines first item is one all = one ∙ ap (passed g at) (sym is) ∙ all

pub pids_more : (items lines first : List Item) (item : Item) → lines ≡ item ∷ items → do_pids (item ∷ items) ≡ do_pids items → do_pids lines ≡ do_pids first → do_pids items ≡ do_pids first
pids_more items lines first item is one all = sym one ∙ ap do_pids (sym is) ∙ all

-- the next request is met
pub pass_met : (g : Grammar) (at later start : Situations) (items lines first : List Item) (item : Item) (pid : ℕ) (request : Request) → lines ≡ item ∷ items → item ≡ Item.Do pid request → later ≡ at → passed g at lines ≡ passed g start first → passed g start first ≡ (later, Item.Do pid request ∷ items)
pass_met g at later start items lines first item pid request is met same all =
    sym all ∙ ap (passed g at) (is ∙ ap (λ i. i ∷ items) met) ∙ ap (λ l. (l, Item.Do pid request ∷ items)) (sym same)

-- without a request all lines are passed
pub all_passed : (g : Grammar) (at : Situations) (items : List Item) → do_pids items ≡ [] → (passed g at items).1 ≡ []
all_passed g at [] none = refl
all_passed g at (Item.Ids pid ids ∷ items) none = all_passed g (with_situation at pid (with_ids (at pid) ids)) items none
all_passed g at (Item.Fork pid child ∷ items) none = all_passed g (with_situation at child (forked (at pid) child)) items none
all_passed g at (Item.Do pid request ∷ items) none = absurd cc

pub no_pids : {A : Type 0} (xs : List A) → not (not (is_empty xs)) ≡ true → xs ≡ []
no_pids [] e = refl
no_pids (x ∷ xs) e = absurd cc

-- a take that owes something owes a first step
pub owes_one : (stage : Stage) (steps : List Step) → stage ≡ Stage.Owing steps → is_empty steps ≡ false → (step : Step) × (rest : List Step) × (stage ≡ Stage.Owing (step ∷ rest))
owes_one stage [] is e = absurd cc
owes_one stage (step ∷ rest) is e = (step, rest, is)

-- a tree passes on as its processes and its lines do
pub way_passes : (next : Option (ℕ × Request)) (old new : Way) → Passes next old.at old.items new.at new.items → new ≡ record old { at = new.at; items = new.items } → WayPasses next old new
way_passes None old new past same =
    record {
      none = past.none;
      past = past.past tomoyo_grammar;
      same = same ∙ ap (λ (at : Situations). record old { at = at; items = new.items }) past.same_at ∙ ap (λ (items : List Item). record old { items = items }) past.same_items;
    }
way_passes (Some next) old new passes same = record { passes = passes tomoyo_grammar; same = same }
