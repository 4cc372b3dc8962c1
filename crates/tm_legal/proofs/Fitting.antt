-- What a take waits for needs: the step that it owes next fits, and the look that it is to take
-- again is judged.
use Rattle.std.proofs.Common.{◌≡◌, ℕ, [], ◌∷◌, true, refl, sym, subst, inl, inr}
use Rattle.std.specs.Prelude.{Option, Some, IsSome, ◌⊎◌}
use Rattle.tm_word.specs.Prelude.{Text}
use Rattle.tm_rules.specs.Types.{Request, Step}
use Rattle.tm_rules.specs.Prelude.{Grammar, IsGrammar, is_request}
use Rattle.tm_legal.specs.Prelude.{DomainIn, History, InProgress, IsJudged, Scene, Settles, Situation, Stage, StageFits, StageHolds, State, ToAsk, apply, verdict}
use Rattle.tm_legal.proofs.Kept.{Sound, ready-fits}
use Rattle.tm_legal.proofs.Asked.{judged}

some-is : {A : Type 0} (o : Option A) (x : A) → o ≡ Some x → IsSome o
some-is o x e = subst IsSome (sym e) refl

ask-fits : (g : Grammar) (s : State) (d retry : ℕ) (text : Text) → DomainIn s.policy d → IsSome (apply g s (Step.Ask d retry text)).reply
unfolding apply
ask-fits g s d retry text h = rw (h.there, h.profiled) refl

pub is-judged : (g : Grammar) (s : State) (now : Situation) (d : ℕ) (request : Request) → IsGrammar g → Sound s.policy → DomainIn s.policy d → now.domain ≡ Some d → is_request g.is_path request ≡ true → IsJudged g s now request
is-judged g s now d request grammar sound there in_ asked =
    let (v, is, lawful) = judged g s.policy s.queries.attached d now.process request grammar sound there asked in
    rw in_ (some-is (verdict g.is_path s.policy s.queries.attached d now.process request) v is)

-- what a take waits for needs
pub stage-fits : (scene : Scene) (history : History) (s : State) → IsGrammar scene.grammar → Sound s.policy → (b : InProgress) (stage : Stage) → DomainIn s.policy b.before → b.now.domain ≡ Some b.before → is_request scene.grammar.is_path b.request ≡ true → StageHolds scene history s b stage → StageFits scene.grammar s b stage
stage-fits scene history s grammar sound b (Stage.Owing []) there in_ asked h = tt
stage-fits scene history s grammar sound b (Stage.Owing (step ∷ rest)) there in_ asked h = by_need h.1
  where
    by_need : (Settles scene history s.policy b (step ∷ rest) ⊎ ToAsk scene b (step ∷ rest)) → IsSome (apply scene.grammar s step).reply
    by_need (inl settles) =
        let fits = ready-fits scene.grammar s step sound settles.ready.0 in
        some-is (apply scene.grammar s step).reply fits.reply fits.replied
    by_need (inr asks) =
        let same : step ≡ Step.Ask b.before b.retry asks.text = (let is = asks.is in cc) in
        subst (λ (owed : Step). IsSome (apply scene.grammar s owed).reply) (sym same) (ask-fits scene.grammar s b.before b.retry asks.text there)
stage-fits scene history s grammar sound b (Stage.Waiting serial) there in_ asked h = tt
stage-fits scene history s grammar sound b Stage.Looking there in_ asked h = is-judged scene.grammar s b.now b.before b.request grammar sound there in_ asked
