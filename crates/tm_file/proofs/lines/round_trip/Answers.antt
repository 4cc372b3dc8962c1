use Rattle.tm_file.proofs.FileLaws.{file_again, file_right, file_normal}
use Rattle.tm_file.proofs.FileRest.{file_rest}
use Rattle.tm_file.proofs.FileText.{file_are, file_text}
use Rattle.tm_file.proofs.lines.round_trip.Goals as goal

pub returns : goal.returns
returns c = record {
  written = λ a bits h more k. file_again a bits more h k;
  read = λ words rest a p e. file_right words (a, p, rest) e;
  left = file_rest;
  words = file_are;
  text = file_text;
  normal = λ words rest a p e more h. file_normal words more a p rest e h;
}
