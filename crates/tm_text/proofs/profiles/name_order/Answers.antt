use Rattle.tm_text.proofs.OrderLaws.{names_kept, names_ordered}
use Rattle.tm_text.proofs.profiles.name_order.Goals as goal

pub returns : goal.returns
returns c = record {
  kept = names_kept;
  ordered = names_ordered;
}
