-- The search for two colons.
use Rattle.std.proofs.Common.{◌≡◌, ℕ, ◌+◌, ◌<◌, Bool, false, List, ◌∷◌, length, get_or, drop, refl, sym, ap, ◌∙◌, add-one, drop-cons}
use Rattle.tm_addr.specs.Reading.{is_gap, gap_at}

-- it goes on after a place where there are none
past : (x : ℕ) (rest : List ℕ) (place : ℕ) → is_gap (x ∷ rest) ≡ false → gap_at place (x ∷ rest) ≡ gap_at (place + 1) rest
past x rest place h = rw h refl

pub gap_past : (text : List ℕ) (place : ℕ) → place < length text → is_gap (drop place text) ≡ false → gap_at place (drop place text) ≡ gap_at (place + 1) (drop (place + 1) text)
gap_past text place h none =
    let e : drop place text ≡ get_or text place 0 ∷ drop (place + 1) text = rw add-one (drop-cons text place 0 h) in
    ap (gap_at place) e ∙ past (get_or text place 0) (drop (place + 1) text) place (sym (ap is_gap e) ∙ none)
