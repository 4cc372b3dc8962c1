-- Loading: the lines of four files before the policy is opened, and why a policy is not loaded.
use Rattle.std.specs.Prelude.{Option, Some, None, Result}
use Rattle.tm_rules.specs.Types.{FileKind, LoadFault, Policy, PolicyFiles}
use Rattle.tm_rules.specs.Prelude.{Grammar, and_then, load_file}

-- the profile, exception, domain and manager lines, in this order, on a policy
abbrev pub all_lines : Grammar → PolicyFiles → Policy → Result Policy LoadFault
all_lines g files policy =
    and_then (load_file g FileKind.Profile files.profile policy)
    (λ with_profiles. and_then (load_file g FileKind.Exception files.exception with_profiles)
    (λ with_exceptions. and_then (load_file g FileKind.Domain files.domain with_exceptions)
    (load_file g FileKind.Manager files.manager)))

-- a fault that the files have; want of memory is none of them
abbrev pub load_cause : LoadFault → Option LoadFault
load_cause LoadFault.NoMemory = None
load_cause (LoadFault.Line file number reply) = Some (LoadFault.Line file number reply)
load_cause (LoadFault.UndefinedProfile place) = Some (LoadFault.UndefinedProfile place)
