use Rattle.std.proofs.Common.{ℕ, [], sym, ap, ◌∙◌}
use Rattle.tm_index.specs.Listing.{Listed, listing}
use Rattle.tm_index.specs.Index.{told}
use Rattle.tm_index.specs.Groups.{noting_lists}
use Rattle.tm_indexed.proofs.SettingLaws.{setting_told}
use Rattle.tm_indexed.proofs.settings.edit_setting.Goals as goal

abbrev no_groups : ℕ → Listed
no_groups number = listing []

pub returns-then-len-before-clause-index : goal.returns-then-len-before-clause-index
returns-then-len-before-clause-index c =
    let grows = setting_told c.args.policy.now c.apply_read.new.policy c.args.cursor.now c.apply_read.new.cursor c.in-Ok-apply_read.reply c.args.line c.requires.setting c.in-Ok-apply_read.ensures.done in
    c.take_namespace.ensures (told c.args.index.now) no_groups c.in-Ok.ensures.done ∙ c.requires.index
    ∙ grows.stays (sym c.len.ensures ∙ c.if-len-before.true ∙ c.len-before.ensures)

pub returns-else-len-before-clause-index : goal.returns-else-len-before-clause-index
returns-else-len-before-clause-index c =
    let grows = setting_told c.args.policy.now c.apply_read.new.policy c.args.cursor.now c.apply_read.new.cursor c.in-Ok-apply_read.reply c.args.line c.requires.setting c.in-Ok-apply_read.ensures.done in
    c.in-Ok.ensures.done ∙ ap (noting_lists no_groups) c.requires.index ∙ grows.comes (λ same. c.if-len-before.false (c.len.ensures ∙ same ∙ sym c.len-before.ensures))
