-- What a tree on its way stands for.
use Rattle.std.specs.Prelude.{◌≡◌, ℕ, [], ◌∷◌, Option, Some, None}
use Rattle.std.specs.Option.{option_and_then}
use Rattle.tm_take.specs.declared.ways.TreeOnWay.{TreeOnWay}
use Rattle.tm_take.specs.Situations.{situations}
use Rattle.tm_take.specs.Taking.{serial_of}
use Rattle.tm_rules.specs.Types.{Item, Request}
use Rattle.tm_legal.specs.Prelude.{Way, do_pids, passed}
use Rattle.tm_grammar.specs.Tomoyo.{tomoyo_grammar}

-- a tree on its way
unfoldable pub way_of : TreeOnWay → Way
way_of tree =
    record {
      at = situations tree.known;
      items = tree.lines;
      begun = tree.begun;
      takes = tree.takes;
    }

-- the serial of the query whose answer a tree waits for
abbrev pub awaited : Way → Option ℕ
awaited way = option_and_then (λ b. serial_of b.stage) way.begun

-- no request is left, and the tree is as before
pub record IsPassed (old new : Way) : Type 0 where
  pub none : do_pids old.items ≡ []
  pub past : (passed tomoyo_grammar old.at old.items).1 ≡ []
  pub same : new ≡ old

-- the lines before the next request are passed, and the request is taken out
pub record PassesTo (pid : ℕ) (request : Request) (old new : Way) : Type 0 where
  pub passes : passed tomoyo_grammar old.at old.items ≡ (new.at, Item.Do pid request ∷ new.items)
  pub same : new ≡ record old { at = new.at; items = new.items }

-- the way of a tree to its next request
abbrev pub WayPasses : Option (ℕ × Request) → Way → Way → Type 0
WayPasses None old new = IsPassed old new
WayPasses (Some next) old new = PassesTo next.0 next.1 old new
