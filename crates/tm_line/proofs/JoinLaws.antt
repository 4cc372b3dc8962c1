-- Joined words.
use Rattle.std.proofs.Common.{◌≡◌, List, [], ◌∷◌, ◌++◌, refl, sym, ap, ◌∙◌, append_assoc}
use Rattle.std.proofs.lemmas.List.{append-nil}
use Rattle.tm_word.specs.Prelude.{Text, joined}
use Rattle.tm_line.specs.Lines.{spaced}

-- the first word, and each other one after a space
pub joined_is : (word : Text) (words : List Text) → joined (word ∷ words) ≡ word ++ spaced words
joined_is word [] = sym (append-nil word)
joined_is word (next ∷ words) = ap (λ text. word ++ 32 ∷ text) (joined_is next words)

-- three words and others
pub joined_three : (a b c : Text) (words : List Text) → joined (a ∷ b ∷ c ∷ words) ≡ a ++ 32 ∷ (b ++ 32 ∷ (c ++ spaced words))
joined_three a b c words = ap (λ text. a ++ 32 ∷ (b ++ 32 ∷ text)) (joined_is c words)

-- three words that were appended one after another, and then others
pub pushed_three : (a b c : Text) (words : List Text) → ((a ++ 32 ∷ b) ++ 32 ∷ c) ++ spaced words ≡ joined (a ∷ b ∷ c ∷ words)
pushed_three a b c words =
    append_assoc (a ++ 32 ∷ b) (32 ∷ c) (spaced words) ∙ append_assoc a (32 ∷ b) (32 ∷ (c ++ spaced words)) ∙ sym (joined_three a b c words)

-- words after others: joined, and each after a space
pub joined_more : (word : Text) (words more : List Text) → joined (word ∷ (words ++ more)) ≡ joined (word ∷ words) ++ spaced more
joined_more word words more =
    joined_is word (words ++ more) ∙ ap (λ text. word ++ text) (spaced_more words more) ∙ sym (append_assoc word (spaced words) (spaced more)) ∙ ap (λ text. text ++ spaced more) (sym (joined_is word words))
  where
    spaced_more : (words more : List Text) → spaced (words ++ more) ≡ spaced words ++ spaced more
    spaced_more [] more = refl
    spaced_more (next ∷ words) more = ap (λ text. 32 ∷ (next ++ text)) (spaced_more words more) ∙ ap (λ text. 32 ∷ text) (sym (append_assoc next (spaced words) (spaced more)))
