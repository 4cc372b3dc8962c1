-- The lines of a printed text, and the words of each.
use Rattle.std.proofs.Common.{◌≡◌, ℕ, ◌==◌, Bool, true, false, not, List, [], ◌∷◌, ◌++◌, length, refl, sym, ap, ◌∙◌, true≢false}
use Rattle.std.specs.Prelude.{filter}
use Rattle.std.specs.List.{list_all, slice_split, onto_first}
use Rattle.std.proofs.lemmas.Bool.{ne_eqb}
use Rattle.std.proofs.lemmas.List.{append_assoc, append-nil}
use Rattle.std.proofs.lemmas.List.Splits.{slice_split-cons_no, slice_split-cons_yes}
use Rattle.tm_word.specs.Prelude.{Text, is_separator, is_solid, is_word, lines_of, words_of}
use Rattle.tm_line.proofs.Steps.{both}
use Rattle.tm_addr.proofs.Free.{Free, free_append, split_at}
use Rattle.tm_line.specs.Lines.{spaced}
use Rattle.tm_line.specs.Namespaces.{line_text}

not_true : (b : Bool) → not b ≡ true → b ≡ false
not_true true h = absurd cc
not_true false h = refl

-- Words

cut_at : (w rest : Text) → is_solid w ≡ true → slice_split is_separator (w ++ 32 ∷ rest) ≡ w ∷ slice_split is_separator rest
cut_at [] rest h = slice_split-cons_yes is_separator 32 rest refl
cut_at (b ∷ w) rest h =
    let t = both (not (is_separator b)) (is_solid w) h in
    slice_split-cons_no is_separator b (w ++ 32 ∷ rest) (not_true (is_separator b) t.0) ∙ ap (onto_first b) (cut_at w rest t.1)

uncut : (w : Text) → is_solid w ≡ true → slice_split is_separator w ≡ w ∷ []
uncut [] h = refl
uncut (b ∷ w) h =
    let t = both (not (is_separator b)) (is_solid w) h in
    slice_split-cons_no is_separator b w (not_true (is_separator b) t.0) ∙ ap (onto_first b) (uncut w t.1)

pub solid_all : (ws : List Text) → list_all is_word ws ≡ true → list_all is_solid ws ≡ true
solid_all [] h = refl
solid_all (w ∷ ws) h =
    let t = both (is_word w) (list_all is_word ws) h in
    let p = both (not (length w == 0)) (is_solid w) t.0 in
    rw p.1 (solid_all ws t.1)

pieces : (w : Text) (ws : List Text) → is_solid w ≡ true → list_all is_solid ws ≡ true → slice_split is_separator (w ++ spaced ws) ≡ w ∷ ws
pieces w [] h k = ap (slice_split is_separator) (append-nil w) ∙ uncut w h
pieces w (v ∷ vs) h k = let t = both (is_solid v) (list_all is_solid vs) k in cut_at w (v ++ spaced vs) h ∙ ap (λ (ps : List Text). w ∷ ps) (pieces v vs t.0 t.1)

kept : (ws : List Text) → list_all is_word ws ≡ true → filter (λ run. not (length run == 0)) ws ≡ ws
kept [] h = refl
kept (w ∷ ws) h =
    let t = both (is_word w) (list_all is_word ws) h in
    let p = both (not (length w == 0)) (is_solid w) t.0 in
    rw p.0 (ap (λ (xs : List Text). w ∷ xs) (kept ws t.1))

-- the words that were joined
pub words_again : (w : Text) (ws : List Text) → is_word w ≡ true → list_all is_word ws ≡ true → words_of (w ++ spaced ws) ≡ w ∷ ws
unfolding words_of
words_again w ws h k =
    let p = both (not (length w == 0)) (is_solid w) h in
    let all : list_all is_word (w ∷ ws) ≡ true = rw h k in
    ap (filter (λ (run : Text). not (length run == 0))) (pieces w ws p.1 (solid_all ws k)) ∙ kept (w ∷ ws) all

-- Lines

inner : (b : ℕ) → is_separator b ≡ false → (b == 10) ≡ false
inner b h = ne_eqb b 10 (λ e. true≢false (sym (ap is_separator e) ∙ h))

pub solid_free : (w : Text) → is_solid w ≡ true → Free 10 w
solid_free [] h = tt
solid_free (b ∷ w) h = let t = both (not (is_separator b)) (is_solid w) h in (inner b (not_true (is_separator b) t.0), solid_free w t.1)

spaced_free : (ws : List Text) → list_all is_solid ws ≡ true → Free 10 (spaced ws)
spaced_free [] h = tt
spaced_free (w ∷ ws) h = let t = both (is_solid w) (list_all is_solid ws) h in (refl, free_append 10 w (spaced ws) (solid_free w t.0) (spaced_free ws t.1))

-- a line, and what stands after it
pub line_first : (ns : Text) (ws : List Text) (rest : Text) → is_word ns ≡ true → list_all is_word ws ≡ true → lines_of (line_text ns ws ++ rest) ≡ (ns ++ spaced ws) ∷ lines_of rest
line_first ns ws rest h k =
    let p = both (not (length ns == 0)) (is_solid ns) h in
    let free = free_append 10 ns (spaced ws) (solid_free ns p.1) (spaced_free ws (solid_all ws k)) in
    let whole : line_text ns ws ++ rest ≡ (ns ++ spaced ws) ++ 10 ∷ rest =
    append_assoc ns (spaced ws ++ 10 ∷ []) rest ∙ ap (λ (t : Text). ns ++ t) (append_assoc (spaced ws) (10 ∷ []) rest) ∙ sym (append_assoc ns (spaced ws) (10 ∷ rest)) in
    ap lines_of whole ∙ split_at 10 (ns ++ spaced ws) rest refl free
