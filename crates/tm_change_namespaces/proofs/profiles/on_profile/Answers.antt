use Rattle.std.proofs.Common.{◌≡◌, refl, sym, subst, ap, ◌∙◌}
use Rattle.std.specs.Prelude.{Option, Some, IsSome, unwrap_or}
use Rattle.tm_rules.specs.Types.{Profile}
use Rattle.tm_rules.specs.Prelude.{at_key, new_profile, put_key}
use Rattle.tm_change_namespaces.specs.Effects.{profile_after}
use Rattle.tm_change_namespaces.proofs.Outcomes.{done_so, kept_so}
use Rattle.tm_change_namespaces.proofs.MapLaws.{put_again, put_back}
use Rattle.tm_change_namespaces.proofs.profiles.on_profile.Goals as goal

pub returns-in-Some-clause-done : goal.returns-in-Some-clause-done
returns-in-Some-clause-done c =
    let there : Some c.in-Some.profile ≡ at_key c.args.profiles.now c.args.number = sym c.in-Some.is ∙ c.replace.ensures.old in
    let first : c.replace.new.self ≡ put_key c.args.number c.new_profile.result c.args.profiles.now = c.replace.ensures.written (subst IsSome (sym c.in-Some.is) refl) in
    let second : c.replace-in-Some.new.self ≡ put_key c.args.number c.change_profile-outcome.new.profile c.args.profiles.now =
    put_again c.args.number c.new_profile.result c.change_profile-outcome.new.profile c.args.profiles.now c.replace.new.self c.replace-in-Some.new.self c.replace-in-Some.result first c.replace-in-Some.ensures.old c.replace-in-Some.ensures.written in
    done_so c.change_profile-outcome.result
    (λ (h : c.change_profile-outcome.new.profile ≡ profile_after c.args.effect c.in-Some.profile).
    second
    ∙ ap (λ (p : Profile). put_key c.args.number p c.args.profiles.now) (h ∙ ap (λ (o : Option Profile). profile_after c.args.effect (unwrap_or o new_profile)) there))
    c.change_profile-outcome.ensures.done

pub returns-in-Some-clause-kept : goal.returns-in-Some-clause-kept
returns-in-Some-clause-kept c =
    let there : Some c.in-Some.profile ≡ at_key c.args.profiles.now c.args.number = sym c.in-Some.is ∙ c.replace.ensures.old in
    let first : c.replace.new.self ≡ put_key c.args.number c.new_profile.result c.args.profiles.now = c.replace.ensures.written (subst IsSome (sym c.in-Some.is) refl) in
    let second : c.replace-in-Some.new.self ≡ put_key c.args.number c.change_profile-outcome.new.profile c.args.profiles.now =
    put_again c.args.number c.new_profile.result c.change_profile-outcome.new.profile c.args.profiles.now c.replace.new.self c.replace-in-Some.new.self c.replace-in-Some.result first c.replace-in-Some.ensures.old c.replace-in-Some.ensures.written in
    kept_so c.change_profile-outcome.result
    (λ (h : c.change_profile-outcome.new.profile ≡ c.in-Some.profile).
    second ∙ ap (λ (p : Profile). put_key c.args.number p c.args.profiles.now) h ∙ put_back c.args.number c.in-Some.profile c.args.profiles.now c.replace.ensures.rising (sym there))
    c.change_profile-outcome.ensures.kept
