-- What the judge of a run answers.
use Rattle.std.specs.Prelude.{List, Option, MatchOption}
use Rattle.tm_rules.specs.Prelude.{Trace}
use Rattle.tm_rules.specs.Types.{Book, Editor, Policy, Run}
use Rattle.tm_core.specs.Tomoyo.{tomoyo_grammar}
use Rattle.tm_legal.specs.Prelude.{Legal, Scene}
use Rattle.tm_verify_laws.specs.declared.broken.Broken.{Broken}
use Rattle.tm_verify_laws.specs.Broken.{IsFirstBroken}

-- the scene of these
abbrev pub judged_scene : Policy → Trace → List Editor → Option Book → Scene
judged_scene opening trace editors book =
    record { grammar = tomoyo_grammar; policy = opening; trace = trace; editors = editors; book = book }

-- none where the run is legal, else the clause that it breaks first, with its place
abbrev pub IsVerified : Scene → Run → Option Broken → Type 0
IsVerified scene run broken = MatchOption broken (Legal scene run) (IsFirstBroken scene run)
