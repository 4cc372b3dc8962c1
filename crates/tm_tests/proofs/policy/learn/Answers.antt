use Rattle.std.proofs.Common.{rules, ◌≡◌, ℕ, refl}
use Rattle.std.specs.Prelude.{Some, IsSome}
use Rattle.tm_rules.specs.Types.{Domain, Entry, Policy, Profile}
use Rattle.tm_rules.specs.Prelude.{domain_at, learn, profile_of}
use Rattle.tm_tests.proofs.policy.learn.Goals as goal

learns-there : (policy : Policy) (d : ℕ) (line : Entry) (domain : Domain) (profile : Profile) → domain_at policy d ≡ Some domain → profile_of policy domain ≡ Some profile → IsSome (learn policy d line)
unfolding learn
learns-there policy d line domain profile there has = rw (there, has) refl

pub apply_learn-requires-clause-there : goal.apply_learn-requires-clause-there
apply_learn-requires-clause-there c =
    let there : domain_at c.args.policy.now 0 ≡ Some c.in-Some.domain.now = search rules in
    let has : profile_of c.args.policy.now c.in-Some.domain.now ≡ Some c.in-Some-profile_of._profile.now = search rules in
    learns-there c.args.policy.now 0 c.args.line.now c.in-Some.domain.now c.in-Some-profile_of._profile.now there has
