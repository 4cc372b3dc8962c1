use Rattle.std.proofs.Common.{sym, ap, ◌∙◌}
use Rattle.tm_index.specs.Stems.{short_stem}
use Rattle.tm_index.proofs.KeptLaws.{stem_kept}
use Rattle.tm_index.proofs.stems.pattern_stem.Goals as goal

pub returns-in_ok-from_bytes-in-Ok : goal.returns-in_ok-from_bytes-in-Ok
returns-in_ok-from_bytes-in-Ok c = c.short_stem.ensures ∙ ap short_stem (c.in_ok-from_bytes-in-Ok.ensures ∙ c.bytes.ensures) ∙ sym (stem_kept c.args.pattern.now c.in-Ok.name.now c.in-Ok.ensures.name)
