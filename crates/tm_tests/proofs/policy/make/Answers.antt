use Rattle.std.proofs.Common.{rules, ◌≡◌, ℕ, refl}
use Rattle.std.specs.Prelude.{Some, IsSome}
use Rattle.tm_rules.specs.Prelude.{DomainName, domain_at, make, profile_of}
use Rattle.tm_rules.specs.Types.{Domain, Policy, Profile}
use Rattle.tm_tests.proofs.policy.make.Goals as goal

makes-there : (policy : Policy) (d : ℕ) (name : DomainName) (domain : Domain) (profile : Profile) → domain_at policy d ≡ Some domain → profile_of policy domain ≡ Some profile → IsSome (make policy d name)
unfolding make
makes-there policy d name domain profile there has = rw (there, has) refl

pub apply_make-requires-clause-there : goal.apply_make-requires-clause-there
apply_make-requires-clause-there c =
    let there : domain_at c.args.policy.now 0 ≡ Some c.in-Some.domain.now = search rules in
    let has : profile_of c.args.policy.now c.in-Some.domain.now ≡ Some c.in-Some-profile_of._profile.now = search rules in
    makes-there c.args.policy.now 0 c.in_ok-name.name c.in-Some.domain.now c.in-Some-profile_of._profile.now there has
