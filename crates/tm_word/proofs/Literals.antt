-- What a literal matches, how it is written, and which name it stands for.
use Rattle.std.specs.Prelude.{◌≡◌, ℕ, Bool, true, false, ◌&&◌, ◌||◌, not, List, [], ◌∷◌, ◌++◌, map, refl, if◌then◌else◌, ◌==◌}
use Rattle.std.proofs.Common.{sym, ap, ◌∙◌, eqb-true, eq-eqb}
use Rattle.std.proofs.lemmas.List.{append-nil}
use Rattle.std.proofs.lemmas.List.Splits.{slice_split-cons_yes, slice_split-cons_no, join_with_byte-slice_split}
use Rattle.std.proofs.lemmas.Grind.{flat_map-append}
use Rattle.std.specs.List.{list_any, list_all, onto_first, join_with_byte, flat_map}
use Rattle.tm_word.specs.declared.Element.{Element}
use Rattle.tm_word.specs.Prelude.{Pattern, Word, component_bytes, component_matches, components, components_match, element_bytes, ends_blank, ends_in_slash, is_byte, is_folder, is_literal, is_plain, left_by, literal, literal_component, literal_word, matches, part_matches, spell, spelled_component, spelled_part, spelled_pattern, spelling_of}

or-true : (b : Bool) → (b || false) ≡ true → b ≡ true
or-true true h = refl
or-true false h = h

same-byte : (b : ℕ) → (b == b) ≡ true
same-byte b = eq-eqb b b refl

-- bytes match themselves alone
bytes-to : (bs cs : List ℕ) → part_matches (map Element.Byte bs) cs ≡ true → cs ≡ bs
unfolding part_matches left_by
bytes-to [] [] h = refl
bytes-to [] (c ∷ cs) h = absurd cc
bytes-to (b ∷ bs) [] h = absurd cc
bytes-to (b ∷ bs) (c ∷ cs) h = go (λ k. bytes-to bs cs k) (c == b) refl h
  where
    go : (part_matches (map Element.Byte bs) cs ≡ true → cs ≡ bs) → (test : Bool) → (c == b) ≡ test → list_any (part_matches (map Element.Byte bs)) (if test then cs ∷ [] else []) ≡ true → c ∷ cs ≡ b ∷ bs
    go ih false e h = absurd cc
    go ih true e h = let rest = ih (or-true (part_matches (map Element.Byte bs) cs) h) in let head = eqb-true c b e in cc

bytes-from : (bs : List ℕ) → part_matches (map Element.Byte bs) bs ≡ true
unfolding part_matches left_by
bytes-from [] = refl
bytes-from (b ∷ bs) = rw (same-byte b, bytes-from bs) refl

and-true : (b : Bool) → (b && true) ≡ true → b ≡ true
and-true true h = refl
and-true false h = h

component-to : (bs name : List ℕ) → component_matches (literal_component bs) name ≡ true → name ≡ bs
unfolding component_matches
component-to bs name h = bytes-to bs name (and-true (part_matches (map Element.Byte bs) name) h)

component-from : (bs : List ℕ) → component_matches (literal_component bs) bs ≡ true
unfolding component_matches
component-from bs = rw (bytes-from bs) refl

-- components of bytes match themselves alone
components-to : (parts names : List Word) → components_match (map literal_component parts) names ≡ true → names ≡ parts
unfolding components_match
components-to [] [] h = refl
components-to [] (n ∷ ns) h = absurd cc
components-to (p ∷ ps) [] h = absurd cc
components-to (p ∷ ps) (n ∷ ns) h = go (λ k. components-to ps ns k) (component_matches (literal_component p) n) refl h
  where
    go : (components_match (map literal_component ps) ns ≡ true → ns ≡ ps) → (test : Bool) → component_matches (literal_component p) n ≡ test → list_any (components_match (map literal_component ps)) (if test then ns ∷ [] else []) ≡ true → n ∷ ns ≡ p ∷ ps
    go ih false e h = absurd cc
    go ih true e h = let rest = ih (or-true (components_match (map literal_component ps) ns) h) in let head = component-to p n e in cc

components-from : (parts : List Word) → components_match (map literal_component parts) parts ≡ true
unfolding components_match
components-from [] = refl
components-from (p ∷ ps) = rw (component-from p, components-from ps) refl

-- the last component of a name that ends in a slash is empty, and not its only one
folder-blank : (cs : Pattern) → is_folder cs ≡ true → ends_blank cs ≡ true
folder-blank [] h = absurd cc
folder-blank (c ∷ []) h = absurd cc
folder-blank (c ∷ d ∷ cs) h = h

folder-onto : (b : ℕ) (parts : List Word) → is_folder (map literal_component parts) ≡ true → is_folder (map literal_component (onto_first b parts)) ≡ true
folder-onto b [] h = absurd cc
folder-onto b (part ∷ parts) h = h

folder : (name : Word) → ends_in_slash name ≡ true → is_folder (map literal_component (components name)) ≡ true
folder [] h = absurd cc
folder (b ∷ []) h = rw (slice_split-cons_yes (λ c. c == 47) b [] h) refl
folder (b ∷ c ∷ bs) h = go (folder (c ∷ bs) h) (b == 47) refl
  where
    go : is_folder (map literal_component (components (c ∷ bs))) ≡ true → (test : Bool) → (b == 47) ≡ test → is_folder (map literal_component (components (b ∷ c ∷ bs))) ≡ true
    go ih true e = rw (slice_split-cons_yes (λ x. x == 47) b (c ∷ bs) e) (folder-blank (map literal_component (components (c ∷ bs))) ih)
    go ih false e = rw (slice_split-cons_no (λ x. x == 47) b (c ∷ bs) e) (folder-onto b (components (c ∷ bs)) ih)

both-left : (a b : Bool) → (a && b) ≡ true → a ≡ true
both-left true b h = refl
both-left false b h = absurd cc

unless : (a b : Bool) → (a ≡ true → b ≡ true) → (not a || b) ≡ true
unless true b h = h refl
unless false b h = refl

both-true : (a b : Bool) → a ≡ true → b ≡ true → (a && b) ≡ true
both-true a b h k = rw (h, k) refl

-- a literal matches its own name alone
pub literal-alone : (name other : Word) → matches (literal name) other ≡ true → other ≡ name
unfolding matches literal
literal-alone name other h =
    let parts = components-to (components name) (components other) (both-left (components_match (map literal_component (components name)) (components other)) (not (ends_in_slash other) || is_folder (map literal_component (components name))) h) in
    sym (join_with_byte-slice_split 47 other) ∙ ap (join_with_byte 47) parts ∙ join_with_byte-slice_split 47 name

-- and it matches that name
pub literal-own : (name : Word) → matches (literal name) name ≡ true
unfolding matches literal
literal-own name =
    both-true (components_match (map literal_component (components name)) (components name)) (not (ends_in_slash name) || is_folder (map literal_component (components name)))
    (components-from (components name)) (unless (ends_in_slash name) (is_folder (map literal_component (components name))) (folder name))

-- How it is written

bytes-spelled : (bs : List ℕ) → spelled_part (map Element.Byte bs) ≡ spell bs
bytes-spelled [] = refl
bytes-spelled (b ∷ bs) = ap (λ rest. spelling_of b ++ rest) (bytes-spelled bs)

component-spelled : (bs : List ℕ) → spelled_component (literal_component bs) ≡ spell bs
component-spelled bs = rw (append-nil, append-nil) (bytes-spelled bs)

joined-spelled : (parts : List Word) → spelled_pattern (map literal_component parts) ≡ spell (join_with_byte 47 parts)
unfolding spelled_pattern
joined-spelled [] = refl
joined-spelled (p ∷ []) = append-nil (spelled_component (literal_component p)) ∙ component-spelled p
joined-spelled (p ∷ q ∷ ps) =
    ap (λ front. front ++ (47 ∷ (spelled_component (literal_component q) ++ flat_map (λ d. 47 ∷ spelled_component d) (map literal_component ps)))) (component-spelled p)
    ∙ ap (λ rest. spell p ++ (47 ∷ rest)) (joined-spelled (q ∷ ps))
    ∙ sym (flat_map-append spelling_of p (47 ∷ join_with_byte 47 (q ∷ ps)))

-- a literal is written as its name
pub literal-spelled : (name : Word) → spelled_pattern (literal name) ≡ spell name
unfolding literal
literal-spelled name = joined-spelled (components name) ∙ ap spell (join_with_byte-slice_split 47 name)

-- Which name it stands for

bytes-back : (bs : List ℕ) → flat_map element_bytes (map Element.Byte bs) ≡ bs
bytes-back [] = refl
bytes-back (b ∷ bs) = ap (λ rest. b ∷ rest) (bytes-back bs)

parts-back : (parts : List Word) → map component_bytes (map literal_component parts) ≡ parts
parts-back [] = refl
parts-back (p ∷ ps) = rw (bytes-back p, parts-back ps) refl

-- the name of a literal is the one that it was made of
pub literal-name : (name : Word) → literal_word (literal name) ≡ name
unfolding literal literal_word
literal-name name = ap (join_with_byte 47) (parts-back (components name)) ∙ join_with_byte-slice_split 47 name

-- two names have two literals
pub literal-distinct : (name other : Word) → literal name ≡ literal other → name ≡ other
literal-distinct name other e = sym (literal-name name) ∙ ap literal_word e ∙ literal-name other

all-bytes : (bs : List ℕ) → list_all is_byte (map Element.Byte bs) ≡ true
all-bytes [] = refl
all-bytes (b ∷ bs) = all-bytes bs

all-plain : (parts : List Word) → list_all is_plain (map literal_component parts) ≡ true
all-plain [] = refl
all-plain (p ∷ ps) = rw (all-bytes p) (all-plain ps)

-- the pattern of a name's own bytes is a literal
pub literal-is_literal : (name : Word) → is_literal (literal name) ≡ true
unfolding literal is_literal
literal-is_literal name = all-plain (components name)
