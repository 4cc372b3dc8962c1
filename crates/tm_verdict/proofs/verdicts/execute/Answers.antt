use Rattle.std.proofs.Common.{◌≡◌, true, false, not, ◌&&◌, ◌||◌, sym, ap, ◌∙◌}
use Rattle.tm_domain.specs.Names.{is_path}
use Rattle.tm_rules.specs.Prelude.{line_of}
use Rattle.tm_legal.specs.Prelude.{is_enforcing}
use Rattle.tm_verdict.specs.declared.targets.BareVerdict.{BareVerdict}
use Rattle.tm_verdict.specs.Bare.{completed}
use Rattle.tm_verdict.proofs.VerdictLaws.{execute_barred, execute_goes}
use Rattle.tm_verdict.proofs.verdicts.execute.Goals as goal

pub returns-then-is_barred : goal.returns-then-is_barred
returns-then-is_barred g c =
    let way = c.in_ok-way.way in
    let barred : (not way.ready && (way.strict || is_enforcing c.args.mode)) ≡ true = sym c.is_barred.ensures ∙ c.if-is_barred.true in
    ap (λ (s : BareVerdict). completed s (line_of c.args.access.now.namespace.now c.args.access.now.request.now)) c.denied.ensures
    ∙ execute_barred is_path (g.R.Rep.policy c.args.rep.now) c.args.access.now.domain.now c.args.access.now.attached c.args.access.now.namespace.now c.args.mode c.args.access.now.found c.args.access.now.request.now way c.in_ok-way.ensures barred

pub returns : goal.returns
returns g c =
    let way = c.in_ok-way.way in
    let free : (not way.ready && (way.strict || is_enforcing c.args.mode)) ≡ false = sym c.is_barred.ensures ∙ c.if-is_barred.false in
    c.by_mode.ensures (line_of c.args.access.now.namespace.now c.args.access.now.request.now)
    ∙ execute_goes is_path (g.R.Rep.policy c.args.rep.now) c.args.access.now.domain.now c.args.access.now.attached c.args.access.now.namespace.now c.args.mode c.args.access.now.found c.args.access.now.request.now way c.in_ok-way.ensures free
