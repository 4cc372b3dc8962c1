use Rattle.std.proofs.Common.{◌≡◌, ℕ, List, [], ◌∷◌, ◌++◌, length, sym, ap, ◌∙◌, rules}
use Rattle.std.specs.Prelude.{Some, None}
use Rattle.std.specs.Option.{option_copied}
use Rattle.tm_rules.specs.Types.{Domain, MakeReply, Policy}
use Rattle.tm_rules.specs.Prelude.{domain_at, live_domain, new_domain}
use Rattle.tm_change_domains.proofs.MakeLaws.{made, made_old, made_last}
use Rattle.tm_change_domains.proofs.making.make_known.Goals as goal

-- the policy with these domains, and the number of the last one
abbrev with_last : Policy → List Domain → ℕ → Policy × MakeReply
with_last policy domains n = (record policy { domains = domains }, MakeReply.New n)

pub unreachable-requires : goal.unreachable-requires
unreachable-requires c =
    let there = made c.args.policy.now c.args.domain c.args.name c.requires.there in
    let none = sym c.domain_at.ensures ∙ ap option_copied c.in-None.is in
    let both = sym there.at ∙ none in
    cc

pub returns-in-Some-clause-done : goal.returns-in-Some-clause-done
returns-in-Some-clause-done c = made_old c.args.policy.now c.args.domain c.args.name c.in-Some.place c.requires.there (sym c.requires.home ∙ c.in-Some.is)

pub returns-clause-done : goal.returns-clause-done
returns-clause-done c =
    let home : live_domain c.args.policy.now c.args.name ≡ None = search rules in
    let at : domain_at c.args.policy.now c.args.domain ≡ Some c.in-Some-domain_at.from.now = search rules in
    let pushed : c.push.new.self ≡ c.args.policy.now.domains ++ new_domain c.args.name c.in-Some-domain_at.from.now.profile c.in-Some-domain_at.from.now.groups ∷ [] = search rules in
    let placed : c.len-place.result ≡ length c.args.policy.now.domains = search rules in
    made_last c.args.policy.now c.args.domain c.args.name c.in-Some-domain_at.from.now c.requires.there home at
    ∙ ap (λ (domains : List Domain). Some (with_last c.args.policy.now domains (length c.args.policy.now.domains))) (sym pushed)
    ∙ ap (λ (n : ℕ). Some (with_last c.args.policy.now c.push.new.self n)) (sym placed)
