-- A text that is taken out of files that were fetched, and what is left of them.
use Rattle.std.proofs.Common.{suc, arith, ◌≡◌, ◌∙◌, ◌<◌, ◌+◌, ℕ, true, false, List, [], ◌∷◌, ◌++◌, length, take, drop, get_or, slice_get, refl, sym, ap, subst}
use Rattle.std.specs.Prelude.{IfSome, slice_set, if◌then◌else◌}
use Rattle.std.proofs.lemmas.Bool.{eqb-true}
use Rattle.std.proofs.lemmas.List.{drop_more, set_split, take-append-drop}
use Rattle.std.proofs.lemmas.Option.{slice_get-get_or}
use Rattle.tm_io.specs.declared.names.FileName.{FileName}
use Rattle.tm_io.specs.Names.{file_place, same_name}
use Rattle.tm_call.specs.Fetches.{Texts, content}

-- the name that stands at a place
here : (texts : Texts) (k : ℕ) (d : FileName × List ℕ) (name : FileName) → k < length texts → IfSome (slice_get texts k) (λ text. same_name text.0 name ≡ true) → same_name (get_or texts k d).0 name ≡ true
here texts k d name inside named = subst (λ o. IfSome o (λ text. same_name text.0 name ≡ true)) (slice_get-get_or texts k d inside) named

-- the bytes of the first of a name
pub taken-is : (texts : Texts) (k : ℕ) (d : FileName × List ℕ) (name : FileName) → k < length texts → IfSome (slice_get texts k) (λ text. same_name text.0 name ≡ true) → content (drop k texts) name ≡ content texts name
    → (get_or texts k d).1 ≡ content texts name
taken-is texts k d name inside named first =
    let head : content (get_or texts k d ∷ drop (k + 1) texts) name ≡ (get_or texts k d).1 = rw (here texts k d name inside named) refl in
    sym head ∙ ap (λ (rest : Texts). content rest name) (sym (drop_more texts k d inside)) ∙ first

-- another name isn't that of a file with this name
other-than : (a name other : FileName) → same_name a name ≡ true → same_name name other ≡ false → same_name a other ≡ false
other-than a name other same differs = rw (eqb-true (file_place a) (file_place name) same) differs

-- what stands before and after a file with another name
passed-over : (before : Texts) (text : FileName × List ℕ) (after : Texts) (bytes : List ℕ) (other : FileName) → same_name text.0 other ≡ false
    → content (before ++ (text.0, bytes) ∷ after) other ≡ content (before ++ text ∷ after) other
passed-over [] text after bytes other differs = rw differs refl
passed-over (t ∷ before) text after bytes other differs =
    ap (λ (found : List ℕ). if same_name t.0 other then t.1 else found) (passed-over before text after bytes other differs)

-- the bytes of every other name stay
pub others-stay : (texts : Texts) (k : ℕ) (d : FileName × List ℕ) (bytes : List ℕ) (name other : FileName) → k < length texts → IfSome (slice_get texts k) (λ text. same_name text.0 name ≡ true) → same_name name other ≡ false
    → content (slice_set texts k ((get_or texts k d).0, bytes)) other ≡ content texts other
others-stay texts k d bytes name other inside named differs =
    let text = get_or texts k d in
    let apart = other-than text.0 name other (here texts k d name inside named) differs in
    let whole : texts ≡ take k texts ++ text ∷ drop (k + 1) texts = sym (take-append-drop k texts) ∙ ap (λ (rest : Texts). take k texts ++ rest) (drop_more texts k d inside) in
    let next : suc k ≡ k + 1 = omega arith in
    ap (λ (ts : Texts). content ts other) (set_split texts k (text.0, bytes) inside)
    ∙ ap (λ (n : ℕ). content (take k texts ++ (text.0, bytes) ∷ drop n texts) other) next
    ∙ passed-over (take k texts) text (drop (k + 1) texts) bytes other apart ∙ ap (λ (ts : Texts). content ts other) (sym whole)
