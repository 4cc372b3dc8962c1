-- The line that a run is summed up by.
use Rattle.std.specs.Prelude.{ℕ, ◌-◌, Bool, true, false, List, [], ◌∷◌, ◌++◌, length, count_by, decimal, codes}
use Rattle.tm_word.specs.Prelude.{Text}
use Rattle.tm_rules.specs.Types.{Domain, LearnReply, Policy, Reply, Run, Step, Take}
use Rattle.tm_rules.specs.Prelude.{is_clean, is_plain}

-- the word of a truth value
abbrev pub yes_or_no : Bool → Text
yes_or_no true = codes "yes"
yes_or_no false = codes "no"

-- the reply of a Learn that added its line
abbrev pub is_added_reply : Reply → Bool
is_added_reply (Reply.Learn LearnReply.Added) = true
is_added_reply _ = false

-- a Learn that added its line
abbrev pub is_added : Step × Reply → Bool
is_added pair = is_added_reply pair.1

-- how many takes are granted
abbrev pub granted_count : List Take → ℕ
granted_count takes = count_by (λ (t : Take). t.granted) takes

-- how many steps are a Learn that added its line
abbrev pub learned_count : List (Step × Reply) → ℕ
learned_count steps = count_by is_added steps

-- how many domains are live
abbrev pub live_count : List Domain → ℕ
live_count domains = count_by (λ (d : Domain). d.live) domains

-- requests, granted and denied
abbrev pub counts_text : Run → Text
counts_text run =
    codes "requests " ++ decimal (length run.takes) ++ codes " granted "
    ++ decimal (granted_count run.takes) ++ codes " denied "
    ++ decimal (length run.takes - granted_count run.takes)

-- what the run did: the lines that it learned, its steps, and the live domains of its final policy
abbrev pub growth_text : Run → Policy → Text
growth_text run final =
    codes " learned " ++ decimal (learned_count run.steps) ++ codes " steps "
    ++ decimal (length run.steps) ++ codes " domains " ++ decimal (live_count final.domains)

-- whether the run is clean and its opening policy plain
abbrev pub kinds_text : Run → Policy → Text
kinds_text run opening =
    codes " clean " ++ yes_or_no (is_clean run) ++ codes " plain " ++ yes_or_no (is_plain opening)

-- the line of a run from an opening policy to a final one
unfoldable pub summary_text : Run → Policy → Policy → Text
summary_text run opening final =
    counts_text run ++ growth_text run final ++ kinds_text run opening ++ 10 ∷ []
