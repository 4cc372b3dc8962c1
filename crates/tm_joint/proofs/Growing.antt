-- What a history keeps while anybody's steps are added to it.
use Rattle.std.proofs.Common.{◌≡◌, List, [], ◌∷◌, ◌++◌, refl, ap, ◌∙◌}
use Rattle.std.proofs.lemmas.List.{map-append}
use Rattle.tm_rules.specs.Types.{Policy, Reply, Step}
use Rattle.tm_rules.specs.Prelude.{Grammar, IsGrammar, Standing}
use Rattle.tm_legal.specs.Prelude.{History, IsOpened, Replies, Scene, State, after, apply, newest, opening_of, steps_of}
use Rattle.tm_legal.proofs.Kept.{Sound, Keeps, Keeps-refl}
use Rattle.tm_legal.proofs.Walks.{StandingKeeps, Onward}
use Rattle.tm_legal.proofs.Onward.{Standing-refl, fitting-onward}
use Rattle.tm_legal.proofs.Opened.{step_keeps_opened, steps_keep_opened}
use Rattle.tm_joint.specs.UnderWay.{IsReplied}
use Rattle.tm_legal.proofs.Plays.{after-append}
use Rattle.tm_made.proofs.Telling.{replies-rest}

-- a later state has each domain with its name and its profile, and each query with its serial
pub record Grown (s s' : State) : Type 0 where
  pub keeps : Keeps s.policy s'.policy
  pub standing : StandingKeeps s.queries.all s'.queries.all

Keeps-trans : (p q r : Policy) → Keeps p q → Keeps q r → Keeps p r
Keeps-trans p q r a b =
    record { domains = λ d x at. let y = a.domains d x at in let z = b.domains d y.0 y.1 in (z.0, z.1, z.2 ∙ y.2, λ has. z.3 (y.3 has)) }

Standing-trans : (xs ys zs : List Standing) → StandingKeeps xs ys → StandingKeeps ys zs → StandingKeeps xs zs
Standing-trans xs ys zs a b n x at = let y = a n x at in let z = b n y.0 y.1 in (z.0, z.1, z.2 ∙ y.2)

pub sound-of : (p : Policy) → IsOpened p → Sound p
sound-of p h = record { opened = h.opened; profiles = h.profiles; aggregators = h.aggregators }

-- along any steps that fit
pub steps-grow : (g : Grammar) (s : State) (more : History) → IsGrammar g → IsOpened s.policy → Replies g s more → Grown s (after g s (steps_of more))
unfolding after
steps-grow g s [] grammar opened replies = record { keeps = Keeps-refl s.policy; standing = Standing-refl s.queries.all }
steps-grow g s (pair ∷ more) grammar opened replies =
    let next : State = (apply g s pair.0).state in
    let on : Onward pair.0 s next = fitting-onward g s pair.0 grammar (sound-of s.policy opened) (rw replies.0 refl) in
    let later = steps-grow g next more grammar (step_keeps_opened g s pair.0 grammar opened) replies.1 in
    record {
      keeps = Keeps-trans s.policy next.policy (after g next (steps_of more)).policy on.evolves.keeps later.keeps;
      standing = Standing-trans s.queries.all next.queries.all (after g next (steps_of more)).queries.all on.standing later.standing;
    }

module _ (scene : Scene) where
  pub newest-append : (history more : History) → newest scene (history ++ more) ≡ after scene.grammar (newest scene history) (steps_of more)
  newest-append history more =
      ap (after scene.grammar (opening_of scene)) (map-append (λ (pair : Step × Reply). pair.0) history more) ∙ after-append scene.grammar (opening_of scene) (steps_of history) (steps_of more)

  pub newest-push : (history : History) (step : Step) (r : Reply) → newest scene (history ++ (step, r) ∷ []) ≡ (apply scene.grammar (newest scene history) step).state
  unfolding after
  newest-push history step r = newest-append history ((step, r) ∷ [])

module _ (scene : Scene) (grammar : IsGrammar scene.grammar) (opened : IsOpened scene.policy) where
  pub opened-now : (history : History) → IsOpened (newest scene history).policy
  opened-now history = steps_keep_opened scene.grammar (opening_of scene) (steps_of history) grammar opened

  pub sound-now : (history : History) → Sound (newest scene history).policy
  sound-now history = sound-of (newest scene history).policy (opened-now history)

  -- from a history to a longer one
  pub history-grows : (history more : History) → IsReplied scene (history ++ more) → Grown (newest scene history) (newest scene (history ++ more))
  history-grows history more replied =
      rw (newest-append scene history more)
      (steps-grow scene.grammar (newest scene history) more grammar (opened-now history) (replies-rest scene.grammar (opening_of scene) history more replied))
