use Rattle.std.proofs.Common.{subst}
use Rattle.std.specs.Prelude.{IsSome}
use Rattle.std.proofs.lemmas.Result.{IfOk-weaker}
use Rattle.tm_rules.specs.Types.{Start}
use Rattle.tm_machine.specs.Tomoyo.{tomoyo_grammar}
use Rattle.tm_legal.specs.Prelude.{apply}
use Rattle.tm_publish.specs.Words.{known}
use Rattle.tm_seat.specs.Seats.{state_of, FitsFrom, IsMade}
use Rattle.tm_replay.specs.Seats.{home_of}
use Rattle.tm_replay.proofs.Passes.{home-is, home-there, knows-fit, fits-on, is-made}
use Rattle.tm_replay.proofs.moves.settle_at.Goals as goal

pub settle-settled-requires : goal.settle-settled-requires
settle-settled-requires g c =
    let old = known c.args.pass.now in
    let made = c.args.made in
    record {
      fits = λ p ys on.
          fits-on p old ys made (on.begins old c.seen.ensures.known)
          (subst (λ (start : Start). IsSome (apply tomoyo_grammar (state_of start old) made.step).reply) (home-is c.args.pass.now p on.opened) c.requires.fits);
    }

pub returns-clause-fitted : goal.returns-clause-fitted
returns-clause-fitted g c =
    IfOk-weaker c.settle-settled.result _ (λ _. FitsFrom (home_of c.settle-settled.new.pass) (known c.settle-settled.new.pass))
    (λ settled done. knows-fit c.args.pass.now c.settle-settled.new.pass c.settle-settled.ensures.opening done.fitting)
    c.settle-settled.ensures.settled

pub returns-clause-settled : goal.returns-clause-settled
returns-clause-settled g c =
    IfOk-weaker c.settle-settled.result _ (λ settled. IsMade (home_of c.args.pass.now) (known c.args.pass.now) c.args.made (known c.settle-settled.new.pass) settled.reply)
    (λ settled done.
    is-made (home_of c.args.pass.now) (known c.args.pass.now) done.before (known c.settle-settled.new.pass) c.args.made settled.number settled.reply (done.begins (known c.args.pass.now) c.seen.ensures.known) done.knows done.numbered c.requires.fits (done.replied (home_of c.args.pass.now) (home-there c.args.pass.now)))
    c.settle-settled.ensures.settled
