use Rattle.std.proofs.Common.{refl, sym, subst}
use Rattle.std.specs.Prelude.{IsSome}
use Rattle.tm_policy.proofs.LearnLaws.{learns_there}
use Rattle.tm_indexed.proofs.learning.learn.Goals as goal

pub look-looked-requires-clause-there : goal.look-looked-requires-clause-there
look-looked-requires-clause-there c =
    let there = learns_there c.args.policy.now c.args.number c.args.line.now c.requires.there in
    subst IsSome (sym there.1) refl
