use Rattle.std.proofs.Common.{◌≡◌, ℕ, List, sym, ap, ◌∙◌, rules}
use Rattle.std.specs.Prelude.{Some, None, unwrap_or}
use Rattle.tm_rules.specs.Types.{Namespace, Profile}
use Rattle.tm_rules.specs.Prelude.{at_key, new_profile, put_key}
use Rattle.tm_change_namespaces.specs.Effects.{number_of, profile_after}
use Rattle.tm_change_namespaces.proofs.Effects.{numbered_line, plain_line}
use Rattle.tm_change_namespaces.proofs.Outcomes.{done_so}
use Rattle.tm_change_namespaces.proofs.profiles.ProfileEffectChange.change.Goals as goal

pub returns-in-Some-clause-done : goal.returns-in-Some-clause-done
returns-in-Some-clause-done c =
    let found : number_of c.args.self ≡ Some c.in-Some.number = sym c.number_of.ensures ∙ c.in-Some.is in
    done_so c.on_profile.result
    (λ (h : c.on_profile.new.profiles ≡ put_key c.in-Some.number (profile_after c.args.self (unwrap_or (at_key c.args.namespace.now.profiles c.in-Some.number) new_profile)) c.args.namespace.now.profiles).
    ap (λ (ps : List (ℕ × Profile)). let ns : Namespace = record c.args.namespace.now { profiles = ps } in ns) h ∙ numbered_line c.args.self c.args.namespace.now c.in-Some.number found)
    c.on_profile.ensures.done

pub returns-in-None-clause-done : goal.returns-in-None-clause-done
returns-in-None-clause-done c =
    let found : number_of c.args.self ≡ None = search rules in
    plain_line c.args.self c.args.namespace.now found
