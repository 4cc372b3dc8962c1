use Rattle.std.proofs.Common.{rules, ◌≡◌, ◌↔◌, true, Some, IfOk, sym, subst}
use Rattle.std.specs.Prelude.{Option}
use Rattle.tm_rules.specs.Types.{Held, Reply}
use Rattle.tm_legal.specs.Prelude.{Hears, reply_at}
use Rattle.tm_verify_notes.specs.Given.{scene_of, history_of}
use Rattle.tm_verify.proofs.judging.hears_ask.Goals as goal

pub returns-in-Some-Ask-Serial : goal.returns-in-Some-Ask-Serial
returns-in-Some-Ask-Serial g c =
    let reply : reply_at (history_of c.args.given.now) c.args.number ≡ Some (Reply.Ask (Held.Serial c.in-Some-Ask-Serial.serial)) = search rules in
    subst (λ (o : Option Reply). IfOk c.hears_serial.result (λ hears. (hears ≡ true) ↔ Hears (scene_of c.args.given.now) (history_of c.args.given.now) c.args.number o c.args.heard)) (sym reply) c.hears_serial.ensures
