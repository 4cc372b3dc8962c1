-- A look beside the verdict of its version, and what it has heard.
use Rattle.std.proofs.Common.{◌≡◌, ℕ, Bool, true, false, ◌&&◌, [], ◌∷◌, map, Some, refl}
use Rattle.std.specs.Prelude.{◌↔◌}
use Rattle.tm_rules.specs.Types.{Look, Verdict}
use Rattle.tm_take.specs.Tomoyo.{tomoyo_grammar}
use Rattle.tm_legal.specs.Prelude.{History, MakesAfterYes, RisesFrom, look_grants, retry_written, step_at, steps_asked}
use Rattle.tm_verify_laws.specs.Looks.{rises_from, is_after_answer}
use Rattle.tm_verify_laws.proofs.LookLaws.{own_order}
use Rattle.tm_verify_notes.specs.Noting.{Owns}

-- both tests decide both facts
pub both_decide : (a b : Bool) (A B : Type 0) → (a ≡ true) ↔ A → (b ≡ true) ↔ B → ((a && b) ≡ true) ↔ (A × B)
both_decide true b A B h k = (λ e. (h.0 refl, k.0 e), λ p. k.1 p.1)
both_decide false b A B h k = (λ e. absurd cc, λ p. let yes : false ≡ true = h.1 p.0 in absurd cc)

-- own steps in order
pub order_is : (look : Look) → ((rises_from look.version look.own && is_after_answer look.reason look.heard look.own) ≡ true) ↔ (RisesFrom look.version look.own × MakesAfterYes look)
order_is look =
    both_decide (rises_from look.version look.own) (is_after_answer look.reason look.heard look.own) (RisesFrom look.version look.own) (MakesAfterYes look)
    (own_order.0 look.version look.own) (own_order.1 look.reason look.heard look.own)

-- own steps: those that are asked for, in order
pub owns_is : (a b : Bool) (history : History) (before : ℕ) (look : Look) (v : Verdict)
    → (a ≡ true) ↔ (map (step_at history) look.own ≡ map Some (steps_asked tomoyo_grammar before (retry_written history look) v (look_grants look)))
    → (b ≡ true) ↔ (RisesFrom look.version look.own × MakesAfterYes look) → ((a && b) ≡ true) ↔ Owns history before look v
owns_is a b history before look v h k =
    let two = both_decide a b _ (RisesFrom look.version look.own × MakesAfterYes look) h k in
    (λ e. let p = two.0 e in record { asked = p.0; rising = p.1.0; after_yes = p.1.1 }, λ o. two.1 (o.asked, (o.rising, o.after_yes)))
