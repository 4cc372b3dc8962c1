-- Lines that go to their trees.
use Rattle.std.proofs.Common.{◌≡◌, List, [], ◌∷◌, ◌++◌, refl}
use Rattle.tm_rules.specs.Types.{Tree}
use Rattle.tm_log_processes.specs.declared.forest.TraceLine.{TraceLine}
use Rattle.tm_log_processes.specs.Forests.{with_line, in_trees}

-- one line more, which is last
pub in_trees_more : (trees : List Tree) (lines : List TraceLine) (line : TraceLine) → in_trees trees (lines ++ line ∷ []) ≡ with_line (in_trees trees lines) line
in_trees_more trees [] line = refl
in_trees_more trees (first ∷ lines) line = in_trees_more (with_line trees first) lines line
