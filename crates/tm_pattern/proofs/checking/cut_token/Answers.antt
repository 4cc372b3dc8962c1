use Rattle.std.proofs.Common.{refl}
use Rattle.tm_pattern.proofs.CheckLaws.{cut_slice}
use Rattle.tm_pattern.proofs.checking.cut_token.Goals as goal

pub returns-in-len1-up : goal.returns-in-len1-up
returns-in-len1-up c = cut_slice c.args.text.now _ c.min-taken.result c.token_at-sized.result c.in-len1-up.len_at_least refl c.token_at-sized.ensures c.min-taken.ensures
