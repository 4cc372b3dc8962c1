use Rattle.std.proofs.Common.{sym, ap, ◌∙◌}
use Rattle.tm_rules.specs.Prelude.{DomainName}
use Rattle.tm_index.specs.Index.{told, telling, noting_domain}
use Rattle.tm_indexed.proofs.MakeLaws.{make_new}
use Rattle.tm_indexed.proofs.making.make_new.Goals as goal

pub returns-in-Ok-clause-index : goal.returns-in-Ok-clause-index
returns-in-Ok-clause-index c =
    c.in_ok-note_domain.ensures.done ∙ ap (noting_domain c.in_ok-key.key c.len-place.result) c.requires.index ∙ ap (λ (name : DomainName). noting_domain name c.len-place.result (telling c.args.policy.now)) c.in_ok-key.ensures
    ∙ ap (λ n. noting_domain c.args.name n (telling c.args.policy.now)) c.len-place.ensures
    ∙ make_new c.args.policy.now c.make_known.new.policy c.args.number c.args.name c.in-Ok.reply c.requires.none c.in-Ok.ensures.done

pub returns-clause-index : goal.returns-clause-index
returns-clause-index c =
    c.take_domain.ensures (told c.args.index.now) c.len-place.result c.in_ok-note_domain.ensures.done ∙ c.requires.index ∙ ap telling (sym c.in-Err.ensures.kept)
