use Rattle.std.proofs.Common.{◌≡◌, ℕ, suc, ◌-◌, ◌≤◌, ◌+◌, true, false, Some, None, sym, ap, ◌∙◌, arith, rules}
use Rattle.std.specs.Prelude.{unwrap_or}
use Rattle.tm_rules.specs.Prelude.{has_permission}
use Rattle.tm_change_domains.proofs.Places.{first_place, place_from, place_here, place_later, no_place, place_is}
use Rattle.tm_change_domains.proofs.learning.permission_place.Goals as goal

pub returns-then-has_permission : goal.returns-then-has_permission
returns-then-has_permission c =
    let bits : ℕ = c.args.entry.now.perms.bits in
    let place : ℕ = c.loop-place.place in
    let less : 16 - place ≡ suc (16 - (place + 1)) = omega (arith, c.loop-place-test.true) in
    let here : has_permission bits place ≡ true = search rules in
    let found : first_place bits ≡ Some place = sym c.loop-place.invariant.1 ∙ ap (place_from bits place) less ∙ place_here bits place (16 - (place + 1)) here in
    sym (place_is c.args.entry.now ∙ ap (λ o. unwrap_or o 0) found)

pub loop-place-preserved : goal.loop-place-preserved
loop-place-preserved c =
    let bits : ℕ = c.args.entry.now.perms.bits in
    let place : ℕ = c.loop-place.place in
    let less : 16 - place ≡ suc (16 - (place + 1)) = omega (arith, c.loop-place-test.true) in
    let here : has_permission bits place ≡ false = search rules in
    let next : place + 1 ≤ 16 = omega (arith, c.loop-place-test.true) in
    let moved : place_from bits place (16 - place) ≡ place_from bits (place + 1) (16 - (place + 1)) = ap (place_from bits place) less ∙ place_later bits place (16 - (place + 1)) here in
    (next, sym moved ∙ c.loop-place.invariant.1)

pub returns : goal.returns
returns c =
    let bits : ℕ = c.args.entry.now.perms.bits in
    let place : ℕ = c.loop-place.place in
    let none : 16 - place ≡ 0 = omega (arith, c.loop-place-test.false) in
    let found : first_place bits ≡ None = sym c.loop-place.invariant.1 ∙ ap (place_from bits place) none ∙ no_place bits place in
    sym (place_is c.args.entry.now ∙ ap (λ o. unwrap_or o 0) found)
