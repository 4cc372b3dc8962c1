-- The keyword of a line.
use Rattle.std.proofs.Common.{◌≡◌, true, List, ◌∷◌, codes, refl}
use Rattle.tm_word.specs.Prelude.{Text, texts_equal}
use Rattle.tm_word.proofs.TextLaws.{texts_sound}
use Rattle.tm_trace.specs.Trees.{Trees}
use Rattle.tm_trace.specs.Reading.{do_line, line_at}

-- a line that begins with `do` begins with no other keyword
pub do_first : (trees : Trees) (word : Text) (words : List Text) → texts_equal word (codes "do") ≡ true → line_at trees (word ∷ words) ≡ do_line trees trees.last words
unfolding line_at
do_first trees word words e = rw (texts_sound word (codes "do") e) refl
