use Rattle.std.proofs.Common.{rules, ◌≡◌, ◌∙◌, ◌∷◌, sym}
use Rattle.tm_line.proofs.DomainLaws.{parts_spaced}
use Rattle.tm_line.proofs.printing.domain_spaced.Goals as goal

pub returns : goal.returns
returns c = let pushed : c.extend_from_slice.new.self.items ≡ 32 ∷ c.args.name.now = search rules in pushed ∙ sym (parts_spaced c.args.name.now)
