-- What is below a number, by the highest of them.
use Rattle.std.proofs.Common.{◌≡◌, ◌<◌, ℕ, nat_lt, max, List, [], ◌∷◌, subst, arith}
use Rattle.std.specs.Prelude.{Option, Some}
use Rattle.std.specs.Bool.{IsTrue}
use Rattle.std.specs.List.{AllByRecursion}
use Rattle.std.proofs.lemmas.Bool.{ltb-true}
use Rattle.tm_rules.specs.Types.{Take}
use Rattle.tm_legal.specs.Prelude.{raised}
use Rattle.tm_joint.specs.Played.{seen_by}
use Rattle.tm_steal_rows.specs.Gathering.{StandsAbove}

raised-below : (floor n : ℕ) (versions : List ℕ) → raised floor versions < n → (floor < n) × AllByRecursion (λ version. version < n) versions
raised-below floor n [] lt = (lt, tt)
raised-below floor n (version ∷ versions) lt =
    let rest = raised-below (max floor version) n versions lt in
    let high = rest.0 in
    (omega (arith, high), (omega (arith, high), rest.1))

pub end-above : (end : Option ℕ) (number highest : ℕ) (takes : List Take) → end ≡ Some number → highest ≡ raised 0 (seen_by takes) → IsTrue (nat_lt highest number) → StandsAbove end takes
end-above end number highest takes is high below =
    rw is ((raised-below 0 number (seen_by takes) (subst (λ n. n < number) high (ltb-true highest number below))).1)
