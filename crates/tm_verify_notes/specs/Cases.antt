-- The cases that the walk over a trace finds.
use Rattle.std.specs.Prelude.{ℕ}
use Rattle.tm_rules.specs.Types.{Request, Take}
use Rattle.tm_legal.specs.Prelude.{Case}
use Rattle.tm_take.specs.declared.situations.ProcessSituation.{ProcessSituation}
use Rattle.tm_take.specs.Situations.{situation_of}

-- a `do` line with its take
abbrev pub case_of : ℕ → ProcessSituation → Request → Take → Case
case_of tree now request taken = record { tree = tree; now = situation_of now; request = request; taken = taken }
