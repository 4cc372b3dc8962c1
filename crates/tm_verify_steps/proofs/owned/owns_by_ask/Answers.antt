use Rattle.std.proofs.Common.{rules, ◌∙◌, ap}
use Rattle.tm_rules.specs.Types.{Entry}
use Rattle.tm_word.specs.Prelude.{joined}
use Rattle.tm_take.specs.Entries.{entry_words}
use Rattle.tm_verify_steps.proofs.OwnLaws.{ask_owned}
use Rattle.tm_verify_steps.proofs.owned.owns_by_ask.Goals as goal

pub returns-in_ok-text-in-Some : goal.returns-in_ok-text-in-Some
returns-in_ok-text-in-Some c =
    let printed = c.in_ok-text-in-Some.ensures ∙ ap (λ (entry : Entry). joined (entry_words entry)) c.get.ensures in
    ask_owned c.args.steps.now c.args.before c.args.retry c.args.own.now c.args.verdict.now c.args.granted c.owns_ask.result c.in-Some.line c.in_ok-text-in-Some.text c.requires (search rules) printed c.owns_ask.ensures
