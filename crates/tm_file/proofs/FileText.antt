-- The printed words of a file line are words, and are found again in the line that joins them.
use Rattle.std.proofs.Common.{◌≡◌, ℕ, ◌==◌, true, ◌&&◌, List, [], ◌∷◌, refl, sym, subst}
use Rattle.std.specs.Prelude.{codes}
use Rattle.std.proofs.lemmas.Bool.{eqb-true}
use Rattle.std.specs.List.{list_all}
use Rattle.tm_word.specs.Prelude.{Text, is_word, joined, words_of}
use Rattle.tm_rules.specs.Types.{Args, Prefer}
use Rattle.tm_line.specs.declared.permissions.Row.{Row}
use Rattle.tm_line.specs.Permissions.{perms_spelling}
use Rattle.tm_line.specs.Printing.{name_spelling, number_spelling}
use Rattle.tm_line.specs.Written.{is_name, is_number, is_set}
use Rattle.tm_line.proofs.Steps.{both, all}
use Rattle.tm_line.proofs.WholeLaws.{words_again, name_is, number_is, perms_is, path_is, parts_are}
use Rattle.tm_file.specs.Preferences.{prefer_words, is_prefer}
use Rattle.tm_file.specs.FileLines.{file_words, is_file}

abbrev Are : List Text → Type 0
Are words = list_all is_word words ≡ true

more : (word : Text) (words : List Text) → is_word word ≡ true → Are words → Are (word ∷ words)
more word words h k = all (is_word word) (list_all is_word words) h k

listed : (row : Row) (bits : ℕ) (words : List Text) → is_set row bits ≡ true → Are words → Are (codes "file" ∷ perms_spelling row bits ∷ words)
listed row bits words h k = more (codes "file") (perms_spelling row bits ∷ words) refl (more (perms_spelling row bits) words (perms_is row bits h) k)

prefer_are : (p : Prefer) → is_prefer p ≡ true → Are (prefer_words p)
unfolding is_prefer prefer_words
prefer_are Prefer.Keep h = refl
prefer_are Prefer.Child h = refl
prefer_are Prefer.Initialize h = refl
prefer_are Prefer.Reset h = refl
prefer_are Prefer.Parent h = refl
prefer_are (Prefer.Path path) h = more path [] (path_is path h) refl
prefer_are (Prefer.Domain name) h = parts_are name h

one : (bits : ℕ) → (bits == 1) ≡ true → is_set Row.Path bits ≡ true
one bits h = subst (λ i. is_set Row.Path i ≡ true) (sym (eqb-true bits 1 h)) refl

pub file_are : (a : Args) (bits : ℕ) → is_file a bits ≡ true → list_all is_word (file_words a bits) ≡ true
unfolding is_file file_words
file_are (Args.Path n) bits h = let b = both (is_set Row.Path bits) (is_name n) h in listed Row.Path bits (name_spelling n ∷ []) b.0 (more (name_spelling n) [] (name_is n b.1) refl)
file_are (Args.Execute n p) bits h =
    let c = both (bits == 1 && is_name n) (is_prefer p) h in
    let b = both (bits == 1) (is_name n) c.0 in
    listed Row.Path bits (name_spelling n ∷ prefer_words p) (one bits b.0) (more (name_spelling n) (prefer_words p) (name_is n b.1) (prefer_are p c.1))
file_are (Args.PathNumber n i) bits h =
    let c = both (is_set Row.PathNumber bits && is_name n) (is_number i) h in
    let b = both (is_set Row.PathNumber bits) (is_name n) c.0 in
    listed Row.PathNumber bits (name_spelling n ∷ number_spelling i ∷ []) b.0 (more (name_spelling n) (number_spelling i ∷ []) (name_is n b.1) (more (number_spelling i) [] (number_is i c.1) refl))
file_are (Args.Device n mode major minor) bits h =
    let e = both (is_set Row.Device bits && is_name n && is_number mode && is_number major) (is_number minor) h in
    let d = both (is_set Row.Device bits && is_name n && is_number mode) (is_number major) e.0 in
    let c = both (is_set Row.Device bits && is_name n) (is_number mode) d.0 in
    let b = both (is_set Row.Device bits) (is_name n) c.0 in
    let last : Are (number_spelling major ∷ number_spelling minor ∷ []) = more (number_spelling major) (number_spelling minor ∷ []) (number_is major d.1) (more (number_spelling minor) [] (number_is minor e.1) refl) in
    listed Row.Device bits (name_spelling n ∷ number_spelling mode ∷ number_spelling major ∷ number_spelling minor ∷ []) b.0
    (more (name_spelling n) (number_spelling mode ∷ number_spelling major ∷ number_spelling minor ∷ []) (name_is n b.1) (more (number_spelling mode) (number_spelling major ∷ number_spelling minor ∷ []) (number_is mode c.1) last))
file_are (Args.Path2 first second) bits h =
    let c = both (is_set Row.Pair bits && is_name first) (is_name second) h in
    let b = both (is_set Row.Pair bits) (is_name first) c.0 in
    listed Row.Pair bits (name_spelling first ∷ name_spelling second ∷ []) b.0 (more (name_spelling first) (name_spelling second ∷ []) (name_is first b.1) (more (name_spelling second) [] (name_is second c.1) refl))
file_are (Args.Mount device dir type flags) bits h =
    let e = both (bits == 1 && is_name device && is_name dir && is_name type) (is_number flags) h in
    let d = both (bits == 1 && is_name device && is_name dir) (is_name type) e.0 in
    let c = both (bits == 1 && is_name device) (is_name dir) d.0 in
    let b = both (bits == 1) (is_name device) c.0 in
    let last : Are (name_spelling type ∷ number_spelling flags ∷ []) = more (name_spelling type) (number_spelling flags ∷ []) (name_is type d.1) (more (number_spelling flags) [] (number_is flags e.1) refl) in
    let names : Are (name_spelling device ∷ name_spelling dir ∷ name_spelling type ∷ number_spelling flags ∷ []) = more (name_spelling device) (name_spelling dir ∷ name_spelling type ∷ number_spelling flags ∷ []) (name_is device b.1) (more (name_spelling dir) (name_spelling type ∷ number_spelling flags ∷ []) (name_is dir c.1) last) in
    more (codes "file") (codes "mount" ∷ name_spelling device ∷ name_spelling dir ∷ name_spelling type ∷ number_spelling flags ∷ []) refl
    (more (codes "mount") (name_spelling device ∷ name_spelling dir ∷ name_spelling type ∷ number_spelling flags ∷ []) refl names)
file_are (Args.Inet kind address port) bits h = absurd cc
file_are (Args.Unix kind n) bits h = absurd cc
file_are (Args.Env p) bits h = absurd cc
file_are (Args.Manual domain) bits h = absurd cc

pub file_text : (a : Args) (bits : ℕ) → is_file a bits ≡ true → words_of (joined (file_words a bits)) ≡ file_words a bits
file_text a bits h = words_again (file_words a bits) (file_are a bits h)
