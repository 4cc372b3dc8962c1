-- What `verify` puts of a given run.
use Rattle.std.specs.Prelude.{ℕ, ◌==◌, List, [], ◌∷◌, ◌++◌, Option, Some, None, codes, decimal, if◌then◌else◌}
use Rattle.tm_word.specs.Prelude.{Text}
use Rattle.tm_verify_laws.specs.declared.broken.Broken.{Broken}
use Rattle.tm_call.specs.declared.carry.Outcome.{Outcome}

-- a clause's number as a small roman numeral
abbrev pub roman : ℕ → List ℕ
roman clause =
    if clause == 1 then codes "i"
    else if clause == 2 then codes "ii"
    else if clause == 3 then codes "iii"
    else if clause == 4 then codes "iv"
    else if clause == 5 then codes "v"
    else if clause == 6 then codes "vi"
    else if clause == 7 then codes "vii"
    else codes "viii"

-- whether the run is legal; if not, the clause that it breaks first, and where
abbrev pub verdict_text : Option Broken → Text
verdict_text None = codes "legal yes" ++ 10 ∷ []
verdict_text (Some broken) = codes "legal no " ++ roman broken.clause ++ 32 ∷ decimal broken.place ++ 10 ∷ []

-- nothing is stored, and one line is put
abbrev pub verify_outcome : Option Broken → Outcome
verify_outcome broken = record { stores = []; line = verdict_text broken }
