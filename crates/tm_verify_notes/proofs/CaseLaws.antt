-- One tree more of the cases of a trace.
use Rattle.std.proofs.Common.{◌≡◌, ◌≤◌, ◌+◌, ℕ, zero, suc, List, [], ◌∷◌, ◌++◌, length, take, drop, refl, ap, ◌∙◌, arith}
use Rattle.std.specs.Prelude.{Option}
use Rattle.std.proofs.lemmas.List.{append_assoc}
use Rattle.tm_rules.specs.Prelude.{Trace, live_domain}
use Rattle.tm_rules.specs.Types.{Policy, Take, Tree}
use Rattle.tm_legal.specs.Prelude.{Case, at_start, cases_from, do_pids, tree_cases}
use Rattle.tm_take.specs.Situations.{first_situation}

-- what a front and a rest are where it takes all
pub take_over : {A : Type 0} (n : ℕ) (xs : List A) → length xs ≤ n → take n xs ≡ xs
take_over zero [] h = refl
take_over (suc n) [] h = refl
take_over zero (x ∷ xs) h = absurd (omega (arith, h))
take_over (suc n) (x ∷ xs) h = ap (λ ys. x ∷ ys) (take_over n xs (omega (arith, h)))

pub drop_over : {A : Type 0} (n : ℕ) (xs : List A) → length xs ≤ n → drop n xs ≡ []
drop_over zero [] h = refl
drop_over (suc n) [] h = refl
drop_over zero (x ∷ xs) h = absurd (omega (arith, h))
drop_over (suc n) (x ∷ xs) h = drop_over n xs (omega (arith, h))

-- one tree more
pub next_tree : (policy : Policy) (number next : ℕ) (home : Option ℕ) (tree : Tree) (trees : Trace) (takes rest : List Take) (out new whole : List Case) → next ≡ number + 1 → home ≡ live_domain policy tree.start
    → new ≡ out ++ tree_cases number (first_situation home) tree.records (take (length (do_pids tree.records)) takes) → rest ≡ drop (length (do_pids tree.records)) takes
    → out ++ cases_from number policy (tree ∷ trees) takes ≡ whole → new ++ cases_from next policy trees rest ≡ whole
unfolding cases_from
next_tree policy number next home tree trees takes rest out new whole n h pushed r before =
    let own : List Case = tree_cases number (at_start policy tree) tree.records (take (length (do_pids tree.records)) takes) in
    let later : List Case = cases_from (suc number) policy trees (drop (length (do_pids tree.records)) takes) in
    let same : next ≡ suc number = omega (arith, n) in
    let here : new ≡ out ++ own = pushed ∙ ap (λ d. out ++ tree_cases number (first_situation d) tree.records (take (length (do_pids tree.records)) takes)) h in
    ap (λ cs. cs ++ cases_from next policy trees rest) here
    ∙ ap (λ k. (out ++ own) ++ cases_from k policy trees rest) same
    ∙ ap (λ ts. (out ++ own) ++ cases_from (suc number) policy trees ts) r
    ∙ append_assoc out own later
    ∙ before
