use Rattle.tm_word.proofs.Spelled.{read_again, read_found, word_read}
use Rattle.tm_word.proofs.spelling.round_trip.Goals as goal

pub returns : goal.returns
returns c = record { again = read_again; found = read_found; spelled = word_read }
