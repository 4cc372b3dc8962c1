-- No copy, and one copy more.
use Rattle.std.proofs.Common.{◌≡◌, ℕ, ◌+◌, ◌++◌, refl, sym, ap, ◌∙◌, add-one, append-nil}
use Rattle.std.proofs.lemmas.List.{append_assoc}
use Rattle.tm_word.specs.Prelude.{Text}
use Rattle.tm_rows.specs.declared.row.Piece.{Piece}
use Rattle.tm_rows.specs.Pieces.{copy_text, copies_text}

pub no_copy : (piece : Piece) (out : Text) → out ≡ out ++ copies_text piece 0
unfolding copies_text
no_copy piece out = sym (append-nil out)

next_copy : (piece : Piece) (copies : ℕ) → copies_text piece (copies + 1) ≡ copies_text piece copies ++ copy_text piece (copies + 1)
unfolding copies_text
next_copy piece copies = rw add-one refl

pub one_copy_more : (piece : Piece) (copies : ℕ) (out some all : Text) → some ≡ out ++ copies_text piece copies → all ≡ some ++ copy_text piece (copies + 1)
    → all ≡ out ++ copies_text piece (copies + 1)
one_copy_more piece copies out some all so_far appended =
    appended
    ∙ ap (λ t. t ++ copy_text piece (copies + 1)) so_far
    ∙ append_assoc out (copies_text piece copies) (copy_text piece (copies + 1))
    ∙ ap (λ t. out ++ t) (sym (next_copy piece copies))
