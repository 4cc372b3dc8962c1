use Rattle.std.proofs.Common.{sym, ap, ◌∙◌}
use Rattle.std.specs.Prelude.{Some}
use Rattle.tm_rules.specs.Types.{LearnReply}
use Rattle.tm_policy.proofs.LearnLaws.{learns_there}
use Rattle.tm_index.specs.declared.label.Label.{Label}
use Rattle.tm_index.specs.Labels.{label_of}
use Rattle.tm_index.specs.Index.{telling, noting_in, counting_in}
use Rattle.tm_indexed.proofs.ChangeLaws.{learned_new, learned_not}
use Rattle.tm_indexed.proofs.learning.learn_new.Goals as goal

pub returns-in-Ok-Added-default-clause-index : goal.returns-in-Ok-Added-default-clause-index
returns-in-Ok-Added-default-clause-index c =
    let there = learns_there c.args.policy.now c.args.number c.args.line.now c.requires.there in
    let looked = c.requires.looked there.0 there.1 in
    c.count_in.ensures
    ∙ ap (counting_in c.args.number c.in-Ok-Added-default.permissions)
    (c.in_ok-note_in.ensures.done ∙ ap (noting_in c.args.number c.args.label.now c.args.looked.length) c.requires.index ∙ ap (λ (l : Label). noting_in c.args.number l c.args.looked.length (telling c.args.policy.now)) c.requires.label
    ∙ ap (λ n. noting_in c.args.number (label_of c.args.line.now) n (telling c.args.policy.now)) looked.entries)
    ∙ learned_new c.args.policy.now c.args.number c.args.line.now there.0 there.1 c.learn_known.new.policy c.in-Ok-Added-default.permissions
    (c.in-Ok-Added-default.ensures.done ∙ ap (λ r. Some (c.learn_known.new.policy, r)) c.in-Ok-Added-default.field-0-0-is) c.in-Ok-Added-default.ensures.counts (sym looked.at ∙ c.requires.new)

pub returns-in-Ok-Quota-default-clause-index : goal.returns-in-Ok-Quota-default-clause-index
returns-in-Ok-Quota-default-clause-index c =
    let there = learns_there c.args.policy.now c.args.number c.args.line.now c.requires.there in
    c.take_last_in.ensures (telling c.args.policy.now) c.args.looked.length (c.in_ok-note_in.ensures.done ∙ ap (noting_in c.args.number c.args.label.now c.args.looked.length) c.requires.index)
    ∙ learned_not c.args.policy.now c.args.number c.args.line.now there.0 there.1 c.learn_known.new.policy LearnReply.Quota
    (c.in-Ok-Quota-default.ensures.done ∙ ap (λ r. Some (c.learn_known.new.policy, r)) c.in-Ok-Quota-default.field-0-0-is) (λ h. cc)

pub returns-in-Ok-There-default-clause-index : goal.returns-in-Ok-There-default-clause-index
returns-in-Ok-There-default-clause-index c =
    let there = learns_there c.args.policy.now c.args.number c.args.line.now c.requires.there in
    c.take_last_in-in-Ok-There-default.ensures (telling c.args.policy.now) c.args.looked.length (c.in_ok-note_in.ensures.done ∙ ap (noting_in c.args.number c.args.label.now c.args.looked.length) c.requires.index)
    ∙ learned_not c.args.policy.now c.args.number c.args.line.now there.0 there.1 c.learn_known.new.policy LearnReply.There
    (c.in-Ok-There-default.ensures.done ∙ ap (λ r. Some (c.learn_known.new.policy, r)) c.in-Ok-There-default.field-0-0-is) (λ h. cc)

pub returns-in-Ok-Mode-default-clause-index : goal.returns-in-Ok-Mode-default-clause-index
returns-in-Ok-Mode-default-clause-index c =
    let there = learns_there c.args.policy.now c.args.number c.args.line.now c.requires.there in
    c.take_last_in-in-Ok-Mode-default.ensures (telling c.args.policy.now) c.args.looked.length (c.in_ok-note_in.ensures.done ∙ ap (noting_in c.args.number c.args.label.now c.args.looked.length) c.requires.index)
    ∙ learned_not c.args.policy.now c.args.number c.args.line.now there.0 there.1 c.learn_known.new.policy LearnReply.Mode
    (c.in-Ok-Mode-default.ensures.done ∙ ap (λ r. Some (c.learn_known.new.policy, r)) c.in-Ok-Mode-default.field-0-0-is) (λ h. cc)
