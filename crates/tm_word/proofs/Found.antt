-- What is read has the word that was read.
use Rattle.std.proofs.Common.{◌≡◌, Bool, true, false, cond, List, [], ◌∷◌, Some, refl, ap, ◌∙◌}
use Rattle.tm_word.specs.Prelude.{Text, of_word, texts_equal}
use Rattle.tm_word.proofs.TextLaws.{texts_sound}

some_is : {V : Type 0} (x y : V) → Some x ≡ Some y → x ≡ y
some_is x y e = cc

pub found : {V : Type 0} (text : V → Text) (all : List V) (word : Text) (value : V) → of_word text all word ≡ Some value → word ≡ text value
found text [] word value e = absurd cc
found text (first ∷ more) word value e = by (texts_equal word (text first)) refl e (found text more word value)
  where
    by : (t : Bool) → texts_equal word (text first) ≡ t → cond t (Some first) (of_word text more word) ≡ Some value → (of_word text more word ≡ Some value → word ≡ text value) → word ≡ text value
    by true same e go = texts_sound word (text first) same ∙ ap text (some_is first value e)
    by false same e go = go e
