-- Kinds of replies and of lines.
use Rattle.std.specs.Prelude.{Bool, true, false}
use Rattle.tm_rules.specs.Types.{EditReply, PolicyLine}

-- a line was refused
abbrev pub is_refused : EditReply → Bool
is_refused EditReply.Done = false
is_refused _ = true

-- a line of the profile file, or one of the exception file
abbrev pub is_setting : PolicyLine → Bool
is_setting (PolicyLine.Profile line) = true
is_setting (PolicyLine.Exception line) = true
is_setting _ = false
