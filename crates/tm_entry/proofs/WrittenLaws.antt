-- An entry that is printed and read again as the same one, and no other, is one that a line can
-- write.
use Rattle.std.proofs.Common.{◌≡◌, Bool, true, false, Result, Ok, refl, sym, ap, ◌∙◌}
use Rattle.std.specs.Prelude.{◌↔◌, IfOk, IsTrue}
use Rattle.std.proofs.lemmas.Result.{IfOk-weaker}
use Rattle.tm_word.specs.Prelude.{joined, words_of}
use Rattle.tm_rules.specs.Types.{Entry}
use Rattle.tm_entry.specs.Entries.{entry_of, entry_words, is_entry}
use Rattle.tm_entry.proofs.EntryLaws.{entry_again, entry_read}
use Rattle.tm_entry.proofs.EntryText.{entry_found}

again : (entry : Entry) → is_entry entry ≡ true → entry_of (words_of (joined (entry_words entry))) ≡ Ok entry
again entry h = ap entry_of (entry_found entry h) ∙ entry_again entry h

is_one : (entry : Entry) (same : Bool) → IsTrue same ↔ (entry_of (words_of (joined (entry_words entry))) ≡ Ok entry) → same ≡ is_entry entry
is_one entry true h = sym (entry_read (words_of (joined (entry_words entry))) entry (h.0 refl))
is_one entry false h = go (is_entry entry) refl
  where
    go : (b : Bool) → is_entry entry ≡ b → false ≡ is_entry entry
    go false is = sym is
    go true is = absurd (let no : IsTrue false = h.1 (again entry is) in cc)

-- Every entry that a line can write is told by whether it is read again as itself.
pub written : {E : Type 0} (entry : Entry) (r : Result Bool E)
    → IfOk r (λ same. IsTrue same ↔ (entry_of (words_of (joined (entry_words entry))) ≡ Ok entry))
    → IfOk r (λ same. same ≡ is_entry entry)
written entry r h = IfOk-weaker r _ _ (is_one entry) h
