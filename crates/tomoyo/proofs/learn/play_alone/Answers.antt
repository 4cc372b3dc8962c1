use Rattle.std.proofs.Common.{sym, subst}
use Rattle.tm_rules.specs.Prelude.{IsFew}
use Rattle.tm_gen_laws.specs.CallInputLoaded.{Loaded}
use Rattle.tm_trace.specs.Written.{IsTrace}
use Rattle.tomoyo.proofs.Rerunning.{alone-so, can-alone}
use Rattle.tomoyo.proofs.learn.play_alone.Goals as goal

pub play_by-requires-clause-playable : goal.play_by-requires-clause-playable
play_by-requires-clause-playable g c =
    let is = c.nobody_else-loaded.ensures in
    record {
      few = subst (λ (l : Loaded). IsFew l.policy) (sym is) c.requires.few;
      can = can-alone c.args.policy c.args.trace c.nobody_else-loaded.result is c.requires.can;
      written = subst (λ (l : Loaded). IsTrace l.trace) (sym is) c.requires.written;
    }

pub returns : goal.returns
returns g c = alone-so c.args.how c.args.policy c.args.trace c.nobody_else-loaded.result c.in_ok-run.run' c.in_ok-run.last c.nobody_else-loaded.ensures c.in_ok-run.ensures.plays
