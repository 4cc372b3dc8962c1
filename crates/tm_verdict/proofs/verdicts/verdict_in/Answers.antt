use Rattle.std.proofs.Common.{◌≡◌, ap, sym, subst, ◌∙◌}
use Rattle.std.specs.Prelude.{option_map}
use Rattle.tm_rules.specs.Types.{Policy}
use Rattle.tm_domain.specs.Names.{is_path}
use Rattle.tm_rules.specs.Prelude.{first, found_of}
use Rattle.tm_rep.specs.Standing.{Standing, StandsIn}
use Rattle.tm_legal.specs.Prelude.{verdict}
use Rattle.tm_verdict.specs.Bare.{with_line_of}
use Rattle.tm_verdict.proofs.VerdictLaws.{by_standing, if_ok}
use Rattle.tm_verdict.proofs.verdicts.verdict_in.Goals as goal

pub returns : goal.returns
returns g c =
    let policy : Policy = g.R.Rep.policy c.args.rep.now in
    let within : Standing =
    record {
      number = c.standing.inside.number;
      domain = c.standing.inside.domain.now;
      place = c.standing.inside.place;
      namespace = c.standing.inside.namespace.now;
      profile = c.standing.inside.profile.now;
    } in
    let stands : StandsIn policy within = subst (StandsIn policy) (sym c.standing.view_is) c.requires.standing in
    let sees : c.search_in-found.result ≡ option_map found_of (first within.namespace within.domain c.args.process.now c.args.request.now) =
    c.search_in-found.ensures ∙ ap (λ (s : Standing). option_map found_of (first s.namespace s.domain c.args.process.now c.args.request.now)) (sym c.standing.view_is) in
    let judged : option_map (with_line_of within.namespace c.args.request.now) c.in_ok-bare.bare ≡ verdict is_path policy c.args.attached within.number c.args.process.now c.args.request.now =
    by_standing is_path policy c.args.attached c.args.process.now c.args.request.now within c.search_in-found.result (option_map (with_line_of within.namespace c.args.request.now) c.in_ok-bare.bare) stands sees
    (λ process own granting. c.in_ok-bare.ensures process own (granting ∙ sym c.found_entry.ensures)) in
    if_ok _ _ c.finished.result (λ v made. made ∙ judged ∙ ap (λ (s : Standing). verdict is_path policy c.args.attached s.number c.args.process.now c.args.request.now) c.standing.view_is) c.finished.ensures
