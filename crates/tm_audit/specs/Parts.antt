-- The parts of an audit text: where one is made, and its lines.
use Rattle.std.specs.Prelude.{◌≡◌, Bool, true, false, ◌&&◌, [], ◌∷◌, ◌++◌, Option, Some, None, if◌then◌else◌, decimal, codes}
use Rattle.std.specs.Option.{option_and_then}
use Rattle.tm_word.specs.Prelude.{Text}
use Rattle.tm_rules.specs.Types.{Domain, Mode, Proc, Reason, Request, Verdict, function_of, mode_text}
use Rattle.tm_rules.specs.Prelude.{Grammar, granted_text, ids_text, is_logged, logs_of, reason_text}
use Rattle.tm_change_domains.specs.Standing.{Standing}
use Rattle.tm_grammar.specs.Printing.{request_text, attributes_text}

-- a grammar that prints requests and their attributes as a trace does
pub record PrintsRequests (g : Grammar) : Type 0 where
  pub request : (r : Request) → g.print_request r ≡ request_text r
  pub attributes : (r : Request) → g.print_attributes r ≡ attributes_text r

-- none is made in mode disabled
abbrev pub is_audited : Mode → Bool
is_audited Mode.Disabled = false
is_audited _ = true

-- the mode of an audit text, where one is made: where the log of its reason says so
unfoldable pub logged : Standing → Request → Verdict → Option Mode
logged s request verdict =
    option_and_then
    (λ function. option_and_then (λ mode. if is_audited mode && is_logged s.namespace s.domain
    (logs_of s.profile function) verdict.reason then Some mode else None) verdict.mode)
    (function_of request.args request.perm)

-- the header without the attributes
abbrev pub header : Domain → Mode → Proc → Reason → Text
header domain mode process reason =
    codes "profile=" ++ decimal domain.profile ++ codes " mode=" ++ mode_text mode
    ++ codes " granted=" ++ granted_text reason ++ codes " verdict=" ++ reason_text reason
    ++ ids_text process

-- the header with the attributes, the domain, the request's line, an empty line
abbrev pub lines : Domain → Mode → Proc → Request → Reason → Text
lines domain mode process request reason =
    header domain mode process reason ++ attributes_text request ++ 10 ∷ []
    ++ domain.name ++ 10 ∷ []
    ++ request_text request ++ 10 ∷ 10 ∷ []
