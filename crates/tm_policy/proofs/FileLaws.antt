-- The last line of a file.
use Rattle.std.proofs.Common.{◌≡◌, ℕ, suc, sym, ap, subst, ◌∙◌, List, [], ◌∷◌}
use Rattle.std.specs.Prelude.{Result, Ok}
use Rattle.tm_word.specs.Prelude.{Fails, Text, lines_of}
use Rattle.tm_rules.specs.Prelude.{Cursor, load_lines}
use Rattle.tm_rules.specs.Types.{FileKind, LoadFault, Policy}
use Rattle.tm_rep.specs.Tomoyo.{tomoyo_grammar}
use Rattle.tm_policy.specs.Loading.{load_cause}

-- the whole gives what the last line gives
last_line : (file : FileKind) (number : ℕ) (rest : Text) (whole : Result Policy LoadFault) (policy : Policy) (cursor : Cursor) → load_lines tomoyo_grammar file number (lines_of rest) policy cursor ≡ whole → lines_of rest ≡ rest ∷ []
    → load_lines tomoyo_grammar file number (rest ∷ []) policy cursor ≡ whole
last_line file number rest whole policy cursor goes_on only = ap (λ (lines : List Text). load_lines tomoyo_grammar file number lines policy cursor) (sym only) ∙ goes_on

-- the last line is done
pub last_done : (file : FileKind) (number : ℕ) (rest : Text) (whole : Result Policy LoadFault) (policy new : Policy) (cursor after : Cursor) → load_lines tomoyo_grammar file number (lines_of rest) policy cursor ≡ whole → lines_of rest ≡ rest ∷ []
    → ((lines : List Text) → load_lines tomoyo_grammar file number (rest ∷ lines) policy cursor ≡ load_lines tomoyo_grammar file (suc number) lines new after) → whole ≡ Ok new
unfolding load_lines
last_done file number rest whole policy new cursor after goes_on only done = sym (last_line file number rest whole policy cursor goes_on only) ∙ done []

-- the last line is the fault
pub last_fails : (file : FileKind) (number : ℕ) (rest : Text) (whole : Result Policy LoadFault) (policy : Policy) (cursor : Cursor) (fault : LoadFault) → load_lines tomoyo_grammar file number (lines_of rest) policy cursor ≡ whole → lines_of rest ≡ rest ∷ []
    → ((lines : List Text) → Fails (load_cause fault) (load_lines tomoyo_grammar file number (rest ∷ lines) policy cursor)) → Fails (load_cause fault) whole
last_fails file number rest whole policy cursor fault goes_on only fails = subst (Fails (load_cause fault)) (last_line file number rest whole policy cursor goes_on only) (fails [])
