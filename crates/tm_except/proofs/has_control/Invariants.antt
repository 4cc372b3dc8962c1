use Rattle.std.proofs.Common.{◌≡◌, ◌==◌, ◌&&◌, drop}
use Rattle.std.specs.List.{list_any}
use Rattle.tm_rules.specs.Types.{Control}
use Rattle.tm_rules.specs.Prelude.{control_matches, kind_number}
use Rattle.tm_except.proofs.has_control.Given as goal

-- from here on it finds what the whole finds
abbrev pub invariant-loop-control : goal.invariant-loop-control
invariant-loop-control l =
    list_any (λ (control : Control). kind_number control.kind == kind_number l.kind && control_matches l.domain l.candidate control) (drop l.control-index l.controls)
    ≡ list_any (λ (control : Control). kind_number control.kind == kind_number l.kind && control_matches l.domain l.candidate control) l.controls
