use Rattle.std.proofs.Common.{sym, ap, subst, refl, ◌∙◌}
use Rattle.std.specs.Prelude.{IsSome}
use Rattle.tm_rules.specs.Types.{Domain}
use Rattle.tm_rules.specs.Prelude.{count, deleting}
use Rattle.tm_index.specs.Index.{counting_in}
use Rattle.tm_indexed.specs.Gone.{closing_if}
use Rattle.tm_indexed.proofs.LineLaws.{chosen-there}
use Rattle.tm_indexed.proofs.RemoveLaws.{removed-is, refused-is, removed_told, after_there}
use Rattle.tm_indexed.proofs.removing.remove_known.Goals as goal

pub note_left-requires-clause-there : goal.note_left-requires-clause-there
note_left-requires-clause-there c =
    let domain = c.requires.known.domain in
    let after : Domain = record domain { entries = deleting c.args.line.now domain.entries } in
    let there = chosen-there c.args.policy.now c.args.cursor c.args.number domain c.requires.known.there in
    let made =
    removed-is c.args.policy.now c.remove_acl-reply.new.policy c.args.cursor c.args.cursor c.remove_acl-reply.result c.args.number domain c.args.line.now c.requires.known.there c.remove_acl-reply.ensures.done
    (sym c.is_refused.ensures ∙ c.if-is_refused.false) in
    subst IsSome (sym (after_there c.args.policy.now c.remove_acl-reply.new.policy c.args.number domain after there made)) refl

pub returns-then-is_refused-clause-index : goal.returns-then-is_refused-clause-index
returns-then-is_refused-clause-index c =
    c.requires.index
    ∙ refused-is c.args.policy.now c.remove_acl-reply.new.policy c.args.cursor c.args.cursor c.remove_acl-reply.result c.args.number c.requires.known.domain c.args.line.now c.requires.known.there c.remove_acl-reply.ensures.done
    (sym c.is_refused.ensures ∙ c.if-is_refused.true)

pub returns-clause-index : goal.returns-clause-index
returns-clause-index c =
    let domain = c.requires.known.domain in
    let after : Domain = record domain { entries = deleting c.args.line.now domain.entries } in
    let there = chosen-there c.args.policy.now c.args.cursor c.args.number domain c.requires.known.there in
    let made =
    removed-is c.args.policy.now c.remove_acl-reply.new.policy c.args.cursor c.args.cursor c.remove_acl-reply.result c.args.number domain c.args.line.now c.requires.known.there c.remove_acl-reply.ensures.done
    (sym c.is_refused.ensures ∙ c.if-is_refused.false) in
    c.note_left.ensures after (after_there c.args.policy.now c.remove_acl-reply.new.policy c.args.number domain after there made)
    ∙ ap (λ t. counting_in c.args.number (count after) (closing_if c.args.number c.args.gone t)) c.requires.index
    ∙ removed_told c.args.policy.now c.remove_acl-reply.new.policy c.args.number c.args.gone domain c.args.line.now there made c.requires.known.leaves
