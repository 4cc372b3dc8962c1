-- The line that a rerun adds to a summary.
use Rattle.std.specs.Prelude.{Bool, ◌∷◌, [], ◌++◌, length, decimal, codes}
use Rattle.tm_word.specs.Prelude.{Text}
use Rattle.tm_rules.specs.Types.{Run}
use Rattle.tm_rerun.specs.Summary.{yes_or_no, counts_text}

-- the line of a rerun's run, and of whether its processes are in the domains that they were in
unfoldable pub rerun_text : Run → Bool → Text
rerun_text run same =
    codes "rerun " ++ counts_text run ++ codes " steps " ++ decimal (length run.steps)
    ++ codes " same " ++ yes_or_no same ++ 10 ∷ []

-- the line of a rerun that is left out
abbrev pub no_rerun_text : Text
no_rerun_text = codes "rerun none" ++ 10 ∷ []
