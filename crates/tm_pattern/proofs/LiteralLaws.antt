-- Literals: whom they match, that they are right, and that a spelled word is read as one.
use Rattle.std.specs.Prelude.{◌≡◌, ℕ, Bool, true, false, ◌&&◌, ◌||◌, not, List, [], ◌∷◌, map, refl, ◌==◌, nat_lt, Some, None, Ok}
use Rattle.std.proofs.Common.{sym, ap, subst, ◌∙◌}
use Rattle.std.proofs.lemmas.Bool.{eqb-true}
use Rattle.std.proofs.lemmas.List.Splits.{slice_split-cons_no, slice_split-cons_yes}
use Rattle.std.specs.List.{list_all, onto_first}
use Rattle.tm_word.specs.declared.Element.{Element}
use Rattle.tm_word.specs.Prelude.{IsNoLiteral, Pattern, Text, Word, are_bytes, components, is_literal, literal, literal_component, matches, spell, spelled_pattern, spelled_word, texts_equal, word_of}
use Rattle.tm_word.proofs.Cuts.{pieces_of}
use Rattle.tm_word.proofs.Literals.{literal-own, literal-alone, literal-spelled, literal-is_literal}
use Rattle.tm_word.proofs.Spelled.{read_again, read_found, word_read}
use Rattle.tm_word.proofs.TextLaws.{texts_sound, texts_full}
use Rattle.tm_pattern.specs.Grammar.{is_right_element, is_right_component, are_right, is_right}
use Rattle.tm_pattern.specs.Reading.{pattern_of}
use Rattle.tm_pattern.proofs.GrammarLaws.{right-read}
use Rattle.tm_pattern.proofs.LexLaws.{pattern_found}
use Rattle.tm_pattern.proofs.RightLaws.{read-right}

both : (a b : Bool) → (a && b) ≡ true → (a ≡ true) × (b ≡ true)
both true b h = (refl, h)
both false b h = absurd cc

all : (a b : Bool) → a ≡ true → b ≡ true → (a && b) ≡ true
all a b h k = rw (h, k) refl

-- ---- a literal matches the name that is equal to its own

pub literal_matches : (own name : Word) → texts_equal own name ≡ matches (literal own) name
literal_matches own name = by_test (texts_equal own name) (matches (literal own) name) refl refl
  where
    by_test : (same found : Bool) → texts_equal own name ≡ same → matches (literal own) name ≡ found → same ≡ found
    by_test true found e m = sym (literal-own own) ∙ ap (matches (literal own)) (texts_sound own name e) ∙ m
    by_test false false e m = refl
    by_test false true e m = sym e ∙ ap (texts_equal own) (literal-alone own name m) ∙ texts_full own

-- ---- a literal's pattern is right where its name is of bytes

abbrev part_byte : ℕ → Bool
part_byte b = nat_lt b 256 && not (b == 47)

to_not : (b : Bool) → b ≡ false → not b ≡ true
to_not false e = refl
to_not true e = absurd cc

bytes_right : (bs : Word) → list_all part_byte bs ≡ true → list_all is_right_element (map Element.Byte bs) ≡ true
bytes_right [] h = refl
bytes_right (b ∷ bs) h =
    let t = both (part_byte b) (list_all part_byte bs) h in
    all (part_byte b) (list_all is_right_element (map Element.Byte bs)) t.0 (bytes_right bs t.1)

component_right : (bs : Word) → list_all part_byte bs ≡ true → is_right_component (literal_component bs) ≡ true
component_right [] h = refl
component_right (b ∷ bs) h = let full : list_all is_right_element (map Element.Byte (b ∷ bs)) ≡ true = bytes_right (b ∷ bs) h in rw full refl

components_right : (p : Word) (ps : List Word) → list_all (list_all part_byte) (p ∷ ps) ≡ true → are_right (literal_component p) (map literal_component ps) ≡ true
components_right p [] h = let t = both (list_all part_byte p) true h in rw (component_right p t.0) refl
components_right p (q ∷ qs) h =
    let t = both (list_all part_byte p) (list_all (list_all part_byte) (q ∷ qs)) h in
    all (is_right_component (literal_component p)) (are_right (literal_component q) (map literal_component qs)) (component_right p t.0) (components_right q qs t.1)

onto_parts : (b : ℕ) (parts : List Word) → part_byte b ≡ true → list_all (list_all part_byte) parts ≡ true → list_all (list_all part_byte) (onto_first b parts) ≡ true
onto_parts b [] h k = rw h refl
onto_parts b (p ∷ ps) h k =
    let t = both (list_all part_byte p) (list_all (list_all part_byte) ps) k in
    all (list_all part_byte (b ∷ p)) (list_all (list_all part_byte) ps) (all (part_byte b) (list_all part_byte p) h t.0) t.1

onto_right : (b : ℕ) (w : Word) → nat_lt b 256 ≡ true → list_all (list_all part_byte) (components w) ≡ true → list_all (list_all part_byte) (components (b ∷ w)) ≡ true
onto_right b w low more = by_slash (b == 47) refl
  where
    by_slash : (t : Bool) → (b == 47) ≡ t → list_all (list_all part_byte) (components (b ∷ w)) ≡ true
    by_slash true e = ap (list_all (list_all part_byte)) (slice_split-cons_yes (λ c. c == 47) b w e) ∙ more
    by_slash false e = ap (list_all (list_all part_byte)) (slice_split-cons_no (λ c. c == 47) b w e) ∙ onto_parts b (components w) (all (nat_lt b 256) (not (b == 47)) low (to_not (b == 47) e)) more

parts_right : (w : Word) → are_bytes w ≡ true → list_all (list_all part_byte) (components w) ≡ true
parts_right [] h = refl
parts_right (b ∷ w) h = let t = both (nat_lt b 256) (are_bytes w) h in onto_right b w t.0 (parts_right w t.1)

from_parts : (parts : List Word) (first : Word) (rest : List Word) → parts ≡ first ∷ rest → list_all (list_all part_byte) parts ≡ true → is_right (map literal_component parts) ≡ true
unfolding is_right
from_parts parts first rest e h = rw e (components_right first rest (ap (list_all (list_all part_byte)) (sym e) ∙ h))

pub literal_right : (w : Word) → are_bytes w ≡ true → is_right (literal w) ≡ true
unfolding literal
literal_right w h = let p = pieces_of (λ b. b == 47) w in from_parts (components w) p.first p.rest p.are (parts_right w h)

-- ---- and only there

right_bytes : (bs : Word) → list_all is_right_element (map Element.Byte bs) ≡ true → list_all (λ b. nat_lt b 256) bs ≡ true
right_bytes [] h = refl
right_bytes (b ∷ bs) h =
    let t = both (part_byte b) (list_all is_right_element (map Element.Byte bs)) h in
    all (nat_lt b 256) (list_all (λ c. nat_lt c 256) bs) (both (nat_lt b 256) (not (b == 47)) t.0).0 (right_bytes bs t.1)

right_component : (bs : Word) → is_right_component (literal_component bs) ≡ true → are_bytes bs ≡ true
right_component [] h = refl
right_component (b ∷ bs) h = right_bytes (b ∷ bs) (full (list_all is_right_element (map Element.Byte (b ∷ bs))) h)
  where
    full : (t : Bool) → ((t || false) && true) ≡ true → t ≡ true
    full true e = refl
    full false e = absurd cc

right_components : (p : Word) (ps : List Word) → are_right (literal_component p) (map literal_component ps) ≡ true → list_all are_bytes (p ∷ ps) ≡ true
right_components p [] h = all (are_bytes p) true (right_component p (both (is_right_component (literal_component p)) true h).0) refl
right_components p (q ∷ qs) h =
    let t = both (is_right_component (literal_component p)) (are_right (literal_component q) (map literal_component qs)) h in
    all (are_bytes p) (list_all are_bytes (q ∷ qs)) (right_component p t.0) (right_components q qs t.1)

-- the parts of a name are of bytes, so the name is
onto_bytes : (b : ℕ) (parts : List Word) → list_all are_bytes (onto_first b parts) ≡ true → (nat_lt b 256 ≡ true) × (list_all are_bytes parts ≡ true)
onto_bytes b [] h = let t = both (are_bytes (b ∷ [])) true h in ((both (nat_lt b 256) true t.0).0, refl)
onto_bytes b (p ∷ ps) h =
    let t = both (are_bytes (b ∷ p)) (list_all are_bytes ps) h in
    let u = both (nat_lt b 256) (are_bytes p) t.0 in
    (u.0, all (are_bytes p) (list_all are_bytes ps) u.1 t.1)

slash_low : (b : ℕ) → (b == 47) ≡ true → nat_lt b 256 ≡ true
slash_low b e = ap (λ c. nat_lt c 256) (eqb-true b 47 e)

whole_bytes : (w : Word) → list_all are_bytes (components w) ≡ true → are_bytes w ≡ true
whole_bytes [] h = refl
whole_bytes (b ∷ w) h = by_slash (λ k. whole_bytes w k) (b == 47) refl
  where
    by_slash : (list_all are_bytes (components w) ≡ true → are_bytes w ≡ true) → (t : Bool) → (b == 47) ≡ t → are_bytes (b ∷ w) ≡ true
    by_slash rest true e = all (nat_lt b 256) (are_bytes w) (slash_low b e) (rest (sym (ap (list_all are_bytes) (slice_split-cons_yes (λ c. c == 47) b w e)) ∙ h))
    by_slash rest false e =
        let t = onto_bytes b (components w) (sym (ap (list_all are_bytes) (slice_split-cons_no (λ c. c == 47) b w e)) ∙ h) in
        all (nat_lt b 256) (are_bytes w) t.0 (rest t.1)

of_parts : (parts : List Word) (first : Word) (rest : List Word) → parts ≡ first ∷ rest → is_right (map literal_component parts) ≡ true → list_all are_bytes parts ≡ true
unfolding is_right
of_parts parts first rest e h =
    let r : are_right (literal_component first) (map literal_component rest) ≡ true = subst (λ (ps : List Word). is_right (map literal_component ps) ≡ true) e h in
    ap (list_all are_bytes) e ∙ right_components first rest r

pub literal_bytes : (w : Word) → is_right (literal w) ≡ true → are_bytes w ≡ true
unfolding literal
literal_bytes w h = let p = pieces_of (λ b. b == 47) w in whole_bytes w (of_parts (components w) p.first p.rest p.are h)

-- ---- a word's spelling is read as its literal, and no other text is

pub spelled_literal : (text : Text) (name : Word) → spelled_word text ≡ Some name → pattern_of text ≡ Ok (literal name)
spelled_literal text name e =
    let found = read_found text name (word_read text name e) in
    ap pattern_of (found.0 ∙ sym (literal-spelled name)) ∙ right-read (literal name) (literal_right name found.1)

read_some : (text : Text) (name : Word) → word_of text ≡ Ok name → spelled_word text ≡ Some name
unfolding spelled_word
read_some text name e = rw e refl

pub no_literal : (text : Text) (pattern : Pattern) → spelled_word text ≡ None → pattern_of text ≡ Ok pattern → IsNoLiteral pattern
unfolding IsNoLiteral
no_literal text pattern none e name is =
    let right = subst (λ (p : Pattern). is_right p ≡ true) is (read-right text pattern e) in
    let spelled : text ≡ spell name = pattern_found text pattern e ∙ ap spelled_pattern is ∙ literal-spelled name in
    let some = read_some text name (ap word_of spelled ∙ read_again name (literal_bytes name right)) in
    let wrong : None ≡ Some name = sym none ∙ some in
    absurd cc

-- ---- how a literal is written, and that it is one

pub literal_spelled : (name : Word) → spelled_pattern (literal name) ≡ spell name
literal_spelled = literal-spelled

pub literal_is_plain : (name : Word) → is_literal (literal name) ≡ true
literal_is_plain = literal-is_literal
