-- A pattern matches only names that begin with its plain components.
use Rattle.std.proofs.Common.{◌≡◌, ℕ, zero, suc, ◌+◌, ◌<◌, ◌≤◌, arith, take, ◌==◌, Bool, true, false, ◌&&◌, ◌||◌, not, if◌then◌else◌, List, [], ◌∷◌, ◌++◌, length, map, refl, sym, ap, subst, ◌∙◌, append-nil, append_assoc}
use Rattle.std.proofs.lemmas.Bool.{and_parts, eqb-true, ltb-true}
use Rattle.std.proofs.lemmas.List.{length-append}
use Rattle.std.proofs.lemmas.List.Splits.{slice_split-cons_yes, slice_split-cons_no}
use Rattle.std.specs.List.{list_any, list_all, flat_map, join_with_byte, onto_first}
use Rattle.std.specs.Prelude.{Option, Some, None, nat_lt}
use Rattle.tm_word.specs.Prelude.{Part, Pattern, Text, Word, component_bytes, component_matches, components, components_match, element_bytes, ends_in_slash, is_byte, is_folder, is_once, is_plain, left_by, left_by_component, literal_word, matches, part_matches, texts_equal}
use Rattle.tm_rules.specs.Types.{Component, Element, Repeat}
use Rattle.tm_word.proofs.Cuts.{Pieces, pieces_of}
use Rattle.tm_rules.proofs.EqualityLaws.{same_texts}
use Rattle.tm_index.specs.Stems.{stem_room, plain_front, front_stem, pattern_stem, stems_after, name_stems}

or-true : (b : Bool) → (b || false) ≡ true → b ≡ true
or-true true h = refl
or-true false h = absurd cc

-- bytes match themselves alone
bytes-alone : (part : Part) (cs : List ℕ) → list_all is_byte part ≡ true → part_matches part cs ≡ true → cs ≡ flat_map element_bytes part
unfolding part_matches left_by
bytes-alone [] [] p h = refl
bytes-alone [] (c ∷ cs) p h = absurd cc
bytes-alone (Element.Byte b ∷ es) [] p h = absurd cc
bytes-alone (Element.Byte b ∷ es) (c ∷ cs) p h = go (λ k. bytes-alone es cs p k) (c == b) refl h
  where
    go : (part_matches es cs ≡ true → cs ≡ flat_map element_bytes es) → (test : Bool) → (c == b) ≡ test → list_any (part_matches es) (if test then cs ∷ [] else []) ≡ true → c ∷ cs ≡ b ∷ flat_map element_bytes es
    go ih false e k = absurd cc
    go ih true e k = let rest = ih (or-true (part_matches es cs) k) in let head = eqb-true c b e in cc
bytes-alone (Element.Star ∷ es) cs p h = absurd cc
bytes-alone (Element.NoDot ∷ es) cs p h = absurd cc
bytes-alone (Element.One ∷ es) cs p h = absurd cc
bytes-alone (Element.Digits ∷ es) cs p h = absurd cc
bytes-alone (Element.Digit ∷ es) cs p h = absurd cc
bytes-alone (Element.Hexes ∷ es) cs p h = absurd cc
bytes-alone (Element.Hex ∷ es) cs p h = absurd cc
bytes-alone (Element.Letters ∷ es) cs p h = absurd cc
bytes-alone (Element.Letter ∷ es) cs p h = absurd cc

first-one : (a b c : Bool) → (a && b && c) ≡ true → a ≡ true
first-one true b c h = refl
first-one false b c h = absurd cc

third-one : (a b c : Bool) → (a && b && c) ≡ true → c ≡ true
third-one true true c h = h
third-one true false c h = absurd cc
third-one false b c h = absurd cc

once : (r : Repeat) → is_once r ≡ true → r ≡ Repeat.Once
once Repeat.Once h = refl
once Repeat.OneOrMore h = absurd cc
once Repeat.ZeroOrMore h = absurd cc

-- a plain component matches its bytes alone
component-alone : (c : Component) (name : Word) → is_plain c ≡ true → component_matches c name ≡ true → name ≡ component_bytes c
unfolding component_matches
component-alone c name p h =
    bytes-alone c.first name (third-one (is_once c.repeat) (length c.minus == 0) (list_all is_byte c.first) p) (and_parts (part_matches c.first name) (not (list_any (λ part. part_matches part name) c.minus)) h).0

-- names that begin with these
pub record Begins (xs names : List Word) : Type 0 where
  pub rest : List Word
  pub are : names ≡ xs ++ rest

more-begins : (x n : Word) (xs names : List Word) → n ≡ x → Begins xs names → Begins (x ∷ xs) (n ∷ names)
more-begins x n xs names e b = record { rest = b.rest; are = let tail = b.are in cc }

plain-begins : (c : Component) (cs front : Pattern) (names : List Word) → is_plain c ≡ true → ((ns : List Word) → components_match cs ns ≡ true → Begins (map component_bytes front) ns)
    → list_any (components_match cs) (left_by_component c.repeat (component_matches c) names) ≡ true → Begins (map component_bytes (c ∷ front)) names
plain-begins c cs front names p ih h = at names (subst (λ r. list_any (components_match cs) (left_by_component r (component_matches c) names) ≡ true) (once c.repeat (first-one (is_once c.repeat) (length c.minus == 0) (list_all is_byte c.first) p)) h)
  where
    at : (ns : List Word) → list_any (components_match cs) (left_by_component Repeat.Once (component_matches c) ns) ≡ true → Begins (map component_bytes (c ∷ front)) ns
    at [] k = absurd cc
    at (n ∷ ns) k = go (component_matches c n) refl k
      where
        go : (b : Bool) → component_matches c n ≡ b → list_any (components_match cs) (if b then ns ∷ [] else []) ≡ true → Begins (map component_bytes (c ∷ front)) (n ∷ ns)
        go false e l = absurd cc
        go true e l = more-begins (component_bytes c) n (map component_bytes front) ns (component-alone c n p e) (ih ns (or-true (components_match cs ns) l))

components-begin : (p : Pattern) (names : List Word) → components_match p names ≡ true → Begins (map component_bytes (plain_front p)) names
unfolding components_match
components-begin [] names h = record { rest = names; are = refl }
components-begin (c ∷ cs) names h = go (is_plain c) refl (λ ns k. components-begin cs ns k)
  where
    go : (b : Bool) → is_plain c ≡ b → ((ns : List Word) → components_match cs ns ≡ true → Begins (map component_bytes (plain_front cs)) ns) → Begins (map component_bytes (if b then c ∷ plain_front cs else [])) names
    go false e ih = record { rest = names; are = refl }
    go true e ih = plain-begins c cs (plain_front cs) names e ih h

-- The first components of a name are one of its stems

abbrev has : Text → List Text → Bool
has s stems = list_any (λ t. texts_equal t s) stems

has-first : (before s : Text) (stems : List Text) → before ≡ s → has s (before ∷ stems) ≡ true
has-first before s stems e = let same : texts_equal before s ≡ true = subst (λ t. texts_equal t s ≡ true) (sym e) (same_texts.full s) in rw same refl

has-later : (t s : Text) (stems : List Text) → has s stems ≡ true → has s (t ∷ stems) ≡ true
has-later t s stems h = go (texts_equal t s)
  where
    go : (b : Bool) → (b || has s stems) ≡ true
    go true = refl
    go false = h

join-onto : (b : ℕ) (x : Word) (xs : List Word) → join_with_byte 47 ((b ∷ x) ∷ xs) ≡ b ∷ join_with_byte 47 (x ∷ xs)
join-onto b x [] = refl
join-onto b x (y ∷ ys) = refl

head-is : {A : Type 0} (x y : A) (xs ys : List A) → x ∷ xs ≡ y ∷ ys → x ≡ y
head-is x y xs ys e = cc

tail-is : {A : Type 0} (x y : A) (xs ys : List A) → x ∷ xs ≡ y ∷ ys → xs ≡ ys
tail-is x y xs ys e = cc

-- where there is a slash
at-slash : (before : Text) (bs : Word) (x : Word) (xs rest : List Word) → [] ∷ components bs ≡ (x ∷ xs) ++ rest
    → ((y : Word) (ys : List Word) → components bs ≡ (y ∷ ys) ++ rest → has ((before ++ 47 ∷ []) ++ join_with_byte 47 (y ∷ ys)) (stems_after (before ++ 47 ∷ []) bs) ≡ true)
    → has (before ++ join_with_byte 47 (x ∷ xs)) (before ∷ stems_after (before ++ 47 ∷ []) bs) ≡ true
at-slash before bs x [] rest e ih =
    has-first before (before ++ x) (stems_after (before ++ 47 ∷ []) bs) (sym (ap (λ t. before ++ t) (sym (head-is [] x (components bs) rest e)) ∙ append-nil before))
at-slash before bs x (y ∷ ys) rest e ih =
    let joined : (before ++ 47 ∷ []) ++ join_with_byte 47 (y ∷ ys) ≡ before ++ join_with_byte 47 (x ∷ y ∷ ys) =
    append_assoc before (47 ∷ []) (join_with_byte 47 (y ∷ ys)) ∙ ap (λ t. before ++ (t ++ (47 ∷ join_with_byte 47 (y ∷ ys)))) (head-is [] x (components bs) ((y ∷ ys) ++ rest) e) in
    has-later before (before ++ join_with_byte 47 (x ∷ y ∷ ys)) (stems_after (before ++ 47 ∷ []) bs)
    (subst (λ t. has t (stems_after (before ++ 47 ∷ []) bs) ≡ true) joined (ih y ys (tail-is [] x (components bs) ((y ∷ ys) ++ rest) e)))

-- where there is none
at-byte : (before : Text) (b : ℕ) (bs first : Word) (more : List Word) (x : Word) (xs rest : List Word) → components bs ≡ first ∷ more → (b ∷ first) ∷ more ≡ (x ∷ xs) ++ rest
    → (components bs ≡ (first ∷ xs) ++ rest → has ((before ++ b ∷ []) ++ join_with_byte 47 (first ∷ xs)) (stems_after (before ++ b ∷ []) bs) ≡ true)
    → has (before ++ join_with_byte 47 (x ∷ xs)) (stems_after (before ++ b ∷ []) bs) ≡ true
at-byte before b bs first more x xs rest are e ih =
    let one : b ∷ first ≡ x = head-is (b ∷ first) x more (xs ++ rest) e in
    let others : more ≡ xs ++ rest = tail-is (b ∷ first) x more (xs ++ rest) e in
    let joined : (before ++ b ∷ []) ++ join_with_byte 47 (first ∷ xs) ≡ before ++ join_with_byte 47 (x ∷ xs) =
    append_assoc before (b ∷ []) (join_with_byte 47 (first ∷ xs)) ∙ ap (λ t. before ++ t) (sym (join-onto b first xs)) ∙ ap (λ w. before ++ join_with_byte 47 (w ∷ xs)) one in
    subst (λ t. has t (stems_after (before ++ b ∷ []) bs) ≡ true) joined (ih (are ∙ ap (λ t. first ∷ t) others))

stem-among : (before : Text) (name : Word) (x : Word) (xs rest : List Word) → components name ≡ (x ∷ xs) ++ rest → has (before ++ join_with_byte 47 (x ∷ xs)) (stems_after before name) ≡ true
stem-among before [] x [] rest e = has-first before (before ++ x) [] (sym (ap (λ t. before ++ t) (sym (head-is [] x [] rest e)) ∙ append-nil before))
stem-among before [] x (y ∷ ys) rest e = absurd cc
stem-among before (b ∷ bs) x xs rest e = go (b == 47) refl (λ c y ys k. stem-among (before ++ c ∷ []) bs y ys rest k)
  where
    go : (test : Bool) → (b == 47) ≡ test
        → ((c : ℕ) (y : Word) (ys : List Word) → components bs ≡ (y ∷ ys) ++ rest → has ((before ++ c ∷ []) ++ join_with_byte 47 (y ∷ ys)) (stems_after (before ++ c ∷ []) bs) ≡ true)
        → has (before ++ join_with_byte 47 (x ∷ xs)) (if test then before ∷ stems_after (before ++ b ∷ []) bs else stems_after (before ++ b ∷ []) bs) ≡ true
    go true f ih =
        let slash : b ≡ 47 = eqb-true b 47 f in
        subst (λ c. has (before ++ join_with_byte 47 (x ∷ xs)) (before ∷ stems_after (before ++ c ∷ []) bs) ≡ true) (sym slash)
        (at-slash before bs x xs rest (sym (slice_split-cons_yes (λ c. c == 47) b bs f) ∙ e) (ih 47))
    go false f ih =
        let pieces : Pieces (λ c. c == 47) bs = pieces_of (λ c. c == 47) bs in
        at-byte before b bs pieces.first pieces.rest x xs rest pieces.are
        (sym (slice_split-cons_no (λ c. c == 47) b bs f ∙ ap (onto_first b) pieces.are) ∙ e) (ih b pieces.first xs)

-- a stem has the bytes before it
stem-after : (before : Text) (name : Word) (s : Text) → has s (stems_after before name) ≡ true → length before ≤ length s
stem-after before [] s h = let same : before ≡ s = same_texts.sound before s (or-true (texts_equal before s) h) in let long = ap length same in omega (arith, long)
stem-after before (b ∷ bs) s h =
    go (b == 47) (λ k. let more = stem-after (before ++ b ∷ []) bs s k in let long = length-append before (b ∷ []) in omega (arith, more, long)) h
  where
    at : (has s (stems_after (before ++ b ∷ []) bs) ≡ true → length before ≤ length s) → (t : Bool) → texts_equal before s ≡ t → (t || has s (stems_after (before ++ b ∷ []) bs)) ≡ true → length before ≤ length s
    at later true e k = let same : before ≡ s = same_texts.sound before s e in let long = ap length same in omega (arith, long)
    at later false e k = later k

    go : (t : Bool) → (has s (stems_after (before ++ b ∷ []) bs) ≡ true → length before ≤ length s)
        → has s (if t then before ∷ stems_after (before ++ b ∷ []) bs else stems_after (before ++ b ∷ []) bs) ≡ true → length before ≤ length s
    go true later k = at later (texts_equal before s) refl k
    go false later k = later k

-- a stem that ends among the first bytes of a name is one of theirs
stem-early : (before : Text) (name : Word) (s : Text) (k : ℕ) → has s (stems_after before name) ≡ true → length s < length before + k → has s (stems_after before (take k name)) ≡ true
stem-early before [] s zero h less = h
stem-early before [] s (suc k) h less = h
stem-early before (b ∷ bs) s zero h less = let long = stem-after before (b ∷ bs) s h in absurd (omega (arith, long, less))
stem-early before (b ∷ bs) s (suc k) h less =
    go (b == 47) (λ g. let long = length-append before (b ∷ []) in stem-early (before ++ b ∷ []) bs s k g (omega (arith, less, long))) h
  where
    at : (has s (stems_after (before ++ b ∷ []) bs) ≡ true → has s (stems_after (before ++ b ∷ []) (take k bs)) ≡ true) → (t : Bool)
        → (t || has s (stems_after (before ++ b ∷ []) bs)) ≡ true → (t || has s (stems_after (before ++ b ∷ []) (take k bs))) ≡ true
    at later true g = refl
    at later false g = later g

    go : (t : Bool) → (has s (stems_after (before ++ b ∷ []) bs) ≡ true → has s (stems_after (before ++ b ∷ []) (take k bs)) ≡ true)
        → has s (if t then before ∷ stems_after (before ++ b ∷ []) bs else stems_after (before ++ b ∷ []) bs) ≡ true
        → has s (if t then before ∷ stems_after (before ++ b ∷ []) (take k bs) else stems_after (before ++ b ∷ []) (take k bs)) ≡ true
    go true later g = at later (texts_equal before s) g
    go false later g = later g

-- the stem of a pattern is one of the first bytes of each name that it matches
pub pattern_stemmed : (p : Pattern) (s : Text) (name : Word) → pattern_stem p ≡ Some s → matches p name ≡ true → list_any (λ t. texts_equal t s) (name_stems (take stem_room name)) ≡ true
unfolding matches literal_word
pattern_stemmed p s name e h = go (plain_front p) (components-begin p (components name) (and_parts (components_match p (components name)) (not (ends_in_slash name) || is_folder p) h).0) e
  where
    at : (word : Text) (test : Bool) → nat_lt (length word) stem_room ≡ test → has word (name_stems name) ≡ true → (if test then Some word else None) ≡ Some s → has s (name_stems (take stem_room name)) ≡ true
    at word false f g k = absurd cc
    at word true f g k =
        let is : word ≡ s = cc in
        let less : length word < stem_room = ltb-true (length word) stem_room f in
        subst (λ t. has t (name_stems (take stem_room name)) ≡ true) is (stem-early [] name word stem_room g less)

    go : (front : Pattern) → Begins (map component_bytes front) (components name) → front_stem front ≡ Some s → list_any (λ t. texts_equal t s) (name_stems (take stem_room name)) ≡ true
    go [] b k = absurd cc
    go (c ∷ cs) b k =
        at (literal_word (c ∷ cs)) (nat_lt (length (literal_word (c ∷ cs))) stem_room) refl (stem-among [] name (component_bytes c) (map component_bytes cs) b.rest b.are) k
