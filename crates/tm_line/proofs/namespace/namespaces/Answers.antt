use Rattle.tm_line.proofs.NamespaceLaws.{named, opens_is, kernel_is, found_is}
use Rattle.tm_line.proofs.namespace.namespaces.Goals as goal

pub returns : goal.returns
returns c = record {
  named = named;
  front = opens_is;
  kernel = kernel_is;
  found = found_is;
}
