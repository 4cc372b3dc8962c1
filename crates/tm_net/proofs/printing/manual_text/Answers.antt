use Rattle.std.proofs.Common.{rules, ◌≡◌, ◌∙◌, ◌++◌, ◌∷◌, sym, ap}
use Rattle.std.specs.Prelude.{codes}
use Rattle.tm_line.specs.Lines.{spaced}
use Rattle.tm_line.specs.DomainWords.{domain_parts}
use Rattle.tm_line.proofs.JoinLaws.{joined_is}
use Rattle.tm_net.specs.NetLines.{net_words}
use Rattle.tm_net.proofs.printing.manual_text.Goals as goal

pub returns : goal.returns
unfolding net_words
returns c =
    let parts = domain_parts c.args.domain.now in
    let pushed : c.print_domain.new.out.items ≡ codes "task manual_domain_transition" ++ spaced parts = search rules in
    pushed ∙ ap (λ text. codes "task" ++ 32 ∷ text) (sym (joined_is (codes "manual_domain_transition") parts))
