use Rattle.std.proofs.Common.{sym, ap, ◌∙◌}
use Rattle.tm_rules.specs.Prelude.{DomainName}
use Rattle.tm_index.specs.Index.{told, telling, noting_domain}
use Rattle.tm_indexed.proofs.LineLaws.{choose_new, choose_refused}
use Rattle.tm_indexed.proofs.choosing.choose_new.Goals as goal
use Rattle.tm_indexed.proofs.choosing.choose_new.Goals.{then-is_refused, else-is_refused}

pub returns-in-Ok : goal.returns-in-Ok
returns-in-Ok c =
    record {
      done = c.in-Ok.ensures.done;
      kept = tt;
      few = c.in-Ok.ensures.few c.requires.few;
      index = elim c.if-is_refused.branch [
        | then-is_refused w ↦
            ap told w.index-is ∙ w.take_domain.ensures (told c.args.index.now) c.len-place.result c.in_ok-note_domain.ensures.done ∙ c.requires.index
            ∙ choose_refused c.args.policy.now c.choose_known.new.policy c.args.cursor.now c.choose_known.new.cursor c.in-Ok.reply c.args.name c.requires.none c.in-Ok.ensures.done (sym c.is_refused.ensures ∙ w.if-is_refused.true)
        | else-is_refused w ↦
            ap told w.index-is ∙ c.in_ok-note_domain.ensures.done ∙ ap (noting_domain c.in_ok-key.key c.len-place.result) c.requires.index ∙ ap (λ (name : DomainName). noting_domain name c.len-place.result (telling c.args.policy.now)) c.in_ok-key.ensures
            ∙ ap (λ n. noting_domain c.args.name n (telling c.args.policy.now)) c.len-place.ensures
            ∙ choose_new c.args.policy.now c.choose_known.new.policy c.args.cursor.now c.choose_known.new.cursor c.in-Ok.reply c.args.name c.requires.none c.in-Ok.ensures.done (sym c.is_refused.ensures ∙ w.if-is_refused.false)
      ];
    }

pub returns-clause-index : goal.returns-clause-index
returns-clause-index c =
    c.take_domain-in-Err.ensures (told c.args.index.now) c.len-place.result c.in_ok-note_domain.ensures.done ∙ c.requires.index ∙ ap telling (sym c.in-Err.ensures.kept.0)
