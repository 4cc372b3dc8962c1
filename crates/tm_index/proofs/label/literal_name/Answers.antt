use Rattle.std.proofs.Common.{sym, ap, subst, ◌∙◌}
use Rattle.std.specs.Prelude.{Some}
use Rattle.tm_word.specs.Prelude.{IsNoLiteral}
use Rattle.tm_index.proofs.KeptLaws.{name_kept, no_name_kept}
use Rattle.tm_index.proofs.label.literal_name.Goals as goal

pub returns-in_ok-from_bytes-in-Ok : goal.returns-in_ok-from_bytes-in-Ok
returns-in_ok-from_bytes-in-Ok c = ap Some (c.in_ok-from_bytes-in-Ok.ensures ∙ c.bytes.ensures) ∙ sym (name_kept c.args.pattern.now c.in-Ok.name.now c.in-Ok.ensures.name)

pub returns-in-Err : goal.returns-in-Err
returns-in-Err c = sym (no_name_kept c.args.pattern.now (subst IsNoLiteral c.in-Err.ensures.components c.in-Err.ensures.no_literal))
