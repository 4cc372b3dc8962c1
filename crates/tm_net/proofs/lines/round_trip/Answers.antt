use Rattle.tm_net.proofs.NetLaws.{net_again, net_right, net_normal}
use Rattle.tm_net.proofs.NetRest.{net_rest}
use Rattle.tm_net.proofs.NetText.{net_are, net_text}
use Rattle.tm_net.proofs.lines.round_trip.Goals as goal

pub returns : goal.returns
returns c = record {
  written = λ a bits h more k. net_again a bits more h k;
  read = λ words rest a p e. net_right words (a, p, rest) e;
  left = net_rest;
  words = net_are;
  text = net_text;
  normal = λ words rest a p e more h. net_normal words more a p rest e h;
}
