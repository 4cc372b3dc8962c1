-- What holds of each value of a table holds of the value of a word, and of what stands for a word
-- that is none's.
use Rattle.std.proofs.Common.{◌≡◌, Bool, true, false, cond, ◌&&◌, List, [], ◌∷◌, Some, refl}
use Rattle.std.specs.List.{list_all}
use Rattle.tm_word.specs.Prelude.{Text, named, or_else, texts_equal}

pub named_or : {V : Type 0} (p : V → Bool) (table : List (Text × V)) (word : Text) (other : V) → list_all (λ row. p row.1) table ≡ true → p other ≡ true → p (or_else (named table word) other) ≡ true
named_or p [] word other all h = h
named_or p (row ∷ table) word other all h = by (texts_equal word row.0) (p row.1) refl all (named_or p table word other)
  where
    by : (t b : Bool) → p row.1 ≡ b → (b && list_all (λ row. p row.1) table) ≡ true → (list_all (λ row. p row.1) table ≡ true → p other ≡ true → p (or_else (named table word) other) ≡ true) → p (or_else (cond t (Some row.1) (named table word)) other) ≡ true
    by t false is e go = absurd cc
    by true true is e go = is
    by false true is e go = go e h
