-- Loading is doing all lines, and then opening.
use Rattle.std.proofs.Common.{◌≡◌, refl}
use Rattle.std.specs.Prelude.{Result, Ok, Err}
use Rattle.tm_rules.specs.Types.{FileKind, LoadFault, Policy, PolicyFiles}
use Rattle.tm_rules.specs.Prelude.{Grammar, and_then, load, load_file, new_policy, open_policy}
use Rattle.tm_policy.specs.Loading.{all_lines}

-- what follows in two steps follows in one
and-then-twice : (read : Result Policy LoadFault) (next last : Policy → Result Policy LoadFault) → and_then read (λ policy. and_then (next policy) last) ≡ and_then (and_then read next) last
and-then-twice (Ok policy) next last = refl
and-then-twice (Err fault) next last = refl

pub load_in_two : (g : Grammar) (files : PolicyFiles) → load g files ≡ and_then (all_lines g files new_policy) open_policy
unfolding load
load_in_two g files = by_profile (load_file g FileKind.Profile files.profile new_policy)
  where
    by_domain : (read : Result Policy LoadFault) → and_then read (λ p. and_then (load_file g FileKind.Manager files.manager p) open_policy) ≡ and_then (and_then read (load_file g FileKind.Manager files.manager)) open_policy
    by_domain read = and-then-twice read (load_file g FileKind.Manager files.manager) open_policy

    by_exception : (read : Result Policy LoadFault) → and_then read (λ e. and_then (load_file g FileKind.Domain files.domain e) (λ p. and_then (load_file g FileKind.Manager files.manager p) open_policy))
        ≡ and_then (and_then read (λ e. and_then (load_file g FileKind.Domain files.domain e) (load_file g FileKind.Manager files.manager))) open_policy
    by_exception (Ok e) = by_domain (load_file g FileKind.Domain files.domain e)
    by_exception (Err fault) = refl

    by_profile : (read : Result Policy LoadFault) → and_then read (λ r. and_then (load_file g FileKind.Exception files.exception r) (λ e. and_then (load_file g FileKind.Domain files.domain e) (λ p. and_then (load_file g FileKind.Manager files.manager p) open_policy)))
        ≡ and_then (and_then read (λ r. and_then (load_file g FileKind.Exception files.exception r) (λ e. and_then (load_file g FileKind.Domain files.domain e) (load_file g FileKind.Manager files.manager)))) open_policy
    by_profile (Ok r) = by_exception (load_file g FileKind.Exception files.exception r)
    by_profile (Err fault) = refl
