use Rattle.std.proofs.Common.{Some, sym, ◌∙◌, ap}
use Rattle.tm_grammar.specs.Tomoyo.{tomoyo_grammar}
use Rattle.tm_change_domains.specs.Standing.{Standing}
use Rattle.tm_audit.specs.Parts.{lines}
use Rattle.tm_audit.proofs.AuditLaws.{audit_made, audit_none, audit_some}
use Rattle.tm_audit.proofs.PrintsSo.{prints_so}
use Rattle.tm_audit.proofs.audit_in.Goals as goal

pub returns-in_err-text-in-Some-clause-none : goal.returns-in_err-text-in-Some-clause-none
returns-in_err-text-in-Some-clause-none c policy stands none = absurd (audit_some tomoyo_grammar policy c.args.process.now c.args.request.now c.args.verdict.now c.args.standing.now stands _ c.in-Some.ensures none)

pub returns-in_ok-text-in-Some-clause-none : goal.returns-in_ok-text-in-Some-clause-none
returns-in_ok-text-in-Some-clause-none c policy stands none = absurd (audit_some tomoyo_grammar policy c.args.process.now c.args.request.now c.args.verdict.now c.args.standing.now stands _ c.in-Some.ensures none)

pub returns-in-None-clause-exact : goal.returns-in-None-clause-exact
returns-in-None-clause-exact c policy stands = sym (audit_none tomoyo_grammar policy c.args.process.now c.args.request.now c.args.verdict.now c.args.standing.now stands c.in-None.ensures)

pub returns-in_ok-text-in-Some-clause-exact : goal.returns-in_ok-text-in-Some-clause-exact
returns-in_ok-text-in-Some-clause-exact c policy stands =
    ap (λ t. Some t)
    (c.in_ok-text-in-Some.ensures
    ∙ ap (λ (s : Standing). lines s.domain c.in-Some.mode c.args.process.now c.args.request.now c.args.verdict.now.reason) c.standing.view_is)
    ∙ sym (audit_made tomoyo_grammar policy c.args.process.now c.args.request.now c.args.verdict.now c.args.standing.now stands _ c.in-Some.ensures prints_so)
