-- Domain names in lines: a right name's words are read as that name, and what is read is right.
use Rattle.std.proofs.Common.{◌≡◌, suc, ◌-◌, ◌||◌, ◌==◌, nat_le, Bool, true, false, ◌&&◌, List, [], ◌∷◌, ◌++◌, length, take, drop, Result, Ok, Err, refl, sym, ap, subst, ◌∙◌, arith}
use Rattle.std.specs.Prelude.{codes}
use Rattle.std.proofs.lemmas.Bool.{eqb-true}
use Rattle.tm_word.specs.Prelude.{Text, begins_with_byte, joined, texts_equal}
use Rattle.std.specs.List.{list_all}
use Rattle.std.specs.Result.{is_ok}
use Rattle.std.proofs.lemmas.List.Splits.{join_with_byte-slice_split}
use Rattle.tm_domain.specs.LineKind.{LineKind}
use Rattle.tm_domain.specs.Words.{DomainName}
use Rattle.tm_domain.specs.Transition.{is_namespace_word, is_domain_name, root_name}
use Rattle.tm_domain.specs.Reading.{pattern_of}
use Rattle.tm_domain.specs.declared.DomainFault.{DomainFault}
use Rattle.tm_domain.specs.Names.{is_path, is_read, domain_of}
use Rattle.tm_domain.proofs.NameLaws.{same_name, right_name}
use Rattle.tm_word.proofs.Cuts.{pieces_of}
use Rattle.tm_line.specs.Lines.{spaced}
use Rattle.tm_line.specs.Arguments.{kinded}
use Rattle.tm_line.specs.Domains.{domain_words, paths_in, domain_at, domain_to_end}
use Rattle.tm_line.specs.DomainWords.{domain_parts, ends_domain}
use Rattle.tm_line.proofs.JoinLaws.{joined_is}
use Rattle.tm_line.proofs.Steps.{bind_ok, ok_is, kinded_ok, both, not_true}

-- ---- the words in front that begin with `/`

pub path_begins : (word : Text) → is_path word ≡ true → begins_with_byte 47 word ≡ true
unfolding is_path
path_begins word h = (both (begins_with_byte 47 word) (is_ok (pattern_of word)) h).0

record Front (paths more : List Text) : Type 0 where
  pub taken : take (paths_in (paths ++ more)) (paths ++ more) ≡ paths
  pub left : drop (paths_in (paths ++ more)) (paths ++ more) ≡ more

front_none : (more : List Text) → ends_domain more ≡ true → Front [] more
front_none [] h = record { taken = refl; left = refl }
front_none (word ∷ words) h = let no : begins_with_byte 47 word ≡ false = not_true _ h in record { taken = rw no refl; left = rw no refl }

front : (paths more : List Text) → list_all is_path paths ≡ true → ends_domain more ≡ true → Front paths more
front [] more h k = front_none more k
front (path ∷ paths) more h k =
    let split = both (is_path path) (list_all is_path paths) h in
    let yes : begins_with_byte 47 path ≡ true = path_begins path split.0 in
    let next : paths_in (path ∷ (paths ++ more)) ≡ suc (paths_in (paths ++ more)) = rw yes (omega arith) in
    let rest = front paths more split.1 k in
    record {
      taken = ap (λ n. take n (path ∷ (paths ++ more))) next ∙ ap (λ ws. path ∷ ws) rest.taken;
      left = ap (λ n. drop n (path ∷ (paths ++ more))) next ∙ rest.left;
    }

-- ---- right names

abbrev name_done : Text → Result Text DomainFault
name_done x = Ok x

read_as : (text : Text) (r : Result Text DomainFault) → domain_of text ≡ r → is_read r ≡ true → r ≡ name_done text
read_as text (Ok x) e h = ap name_done (same_name text x e)
read_as text (Err fault) e h = absurd cc

pub name_right : (name : DomainName) → is_domain_name is_path name ≡ true → domain_of name ≡ Ok name
name_right name h = read_as name (domain_of name) refl (sym (right_name name) ∙ h)

abbrev RightWords : List Text → Type 0
RightWords [] = ⊥
RightWords (first ∷ paths) = list_all is_path paths ≡ true

unfoldable pub right_list : List Text → Bool
right_list [] = false
right_list (first ∷ rest) = is_namespace_word is_path first && list_all is_path rest

list_right : (words : List Text) → right_list words ≡ true → RightWords words
unfolding right_list
list_right [] h = absurd cc
list_right (first ∷ paths) h = (both (is_namespace_word is_path first) (list_all is_path paths) h).1

right_words : (name : DomainName) → is_domain_name is_path name ≡ true → RightWords (domain_parts name)
unfolding is_domain_name right_list
right_words name h = list_right (domain_parts name) (both (right_list (domain_parts name)) (nat_le (length name) 4085) h).0

parts_joined : (name : DomainName) → joined (domain_parts name) ≡ name
parts_joined name = join_with_byte-slice_split 32 name

words_read : (name : DomainName) → is_domain_name is_path name ≡ true → domain_words (domain_parts name) ≡ Ok name
unfolding domain_words
words_read name h = ap (λ t. kinded LineKind.Domain (domain_of t)) (parts_joined name) ∙ ap (kinded LineKind.Domain) (name_right name h)

-- ---- what is written is read again

at_from : (first : Text) (paths more : List Text) (name : DomainName) → Front paths more → domain_words (first ∷ paths) ≡ Ok name → domain_at (first ∷ (paths ++ more)) ≡ Ok (name, more)
unfolding domain_at
at_from first paths more name f e = rw (f.taken, f.left, e) refl

at_words : (words more : List Text) (name : DomainName) → RightWords words → ends_domain more ≡ true → domain_words words ≡ Ok name → domain_at (words ++ more) ≡ Ok (name, more)
at_words [] more name h k e = absurd h
at_words (first ∷ paths) more name h k e = at_from first paths more name (front paths more h k) e

pub domain_again : (name : DomainName) (more : List Text) → is_domain_name is_path name ≡ true → ends_domain more ≡ true → domain_at (domain_parts name ++ more) ≡ Ok (name, more)
domain_again name more h k = at_words (domain_parts name) more name (right_words name h) k (words_read name h)

to_end : (words : List Text) (name : DomainName) → RightWords words → domain_words words ≡ Ok name → domain_to_end words ≡ Ok name
unfolding domain_to_end
to_end [] name h e = absurd h
to_end (first ∷ paths) name h e = e

pub to_end_again : (name : DomainName) → is_domain_name is_path name ≡ true → domain_to_end (domain_parts name) ≡ Ok name
to_end_again name h = to_end (domain_parts name) name (right_words name h) (words_read name h)

-- ---- what is read is right

pub words_right : (words : List Text) (name : DomainName) → domain_words words ≡ Ok name → (name ≡ joined words) × (is_domain_name is_path name ≡ true)
unfolding domain_words
words_right words name e =
    let h = kinded_ok LineKind.Domain (domain_of (joined words)) name e in
    let same : name ≡ joined words = same_name (joined words) name h in
    let right : is_domain_name is_path (joined words) ≡ true = right_name (joined words) ∙ ap is_read h in
    (same, subst (λ t. is_domain_name is_path t ≡ true) (sym same) right)

pub at_right : (words : List Text) (x : DomainName × List Text) → domain_at words ≡ Ok x → is_domain_name is_path x.0 ≡ true
unfolding domain_at
at_right [] x e = absurd cc
at_right (word ∷ words) x e =
    let b = bind_ok (domain_words (word ∷ take (paths_in words) words)) (λ name. Ok (name, drop (paths_in words) words)) x e in
    let made : DomainName × List Text = (b.0, drop (paths_in words) words) in
    let same : made ≡ x = ok_is made x b.2 in
    subst (λ (y : DomainName × List Text). is_domain_name is_path y.0 ≡ true) same (words_right (word ∷ take (paths_in words) words) b.0 b.1).1

pub to_end_right : (words : List Text) (name : DomainName) → domain_to_end words ≡ Ok name → is_domain_name is_path name ≡ true
unfolding domain_to_end
to_end_right [] name e = absurd cc
to_end_right (word ∷ words) name e = (words_right (word ∷ words) name e).1

-- ---- printed words

spaced_from : (words : List Text) (first : Text) (rest : List Text) → words ≡ first ∷ rest → spaced words ≡ 32 ∷ joined words
spaced_from words first rest e = rw e (ap (λ t. 32 ∷ t) (sym (joined_is first rest)))

-- the words of a name, each after a space, are a space and the name
pub parts_spaced : (name : DomainName) → spaced (domain_parts name) ≡ 32 ∷ name
parts_spaced name = let p = pieces_of (λ b. b == 32) name in spaced_from (domain_parts name) p.first p.rest p.are ∙ ap (λ t. 32 ∷ t) (parts_joined name)

-- the first word of a right name begins with `<`
pub record Begins (words : List Text) : Type 0 where
  pub rest : Text
  pub paths : List Text
  pub are : words ≡ (60 ∷ rest) ∷ paths

word_begins : (first : Text) (paths : List Text) → is_namespace_word is_path first ≡ true → Begins (first ∷ paths)
word_begins [] paths h = absurd cc
word_begins (b ∷ word) paths h =
    let inner : Text = take (length (b ∷ word) - 2) (drop 1 (b ∷ word)) in
    let split = both (texts_equal (b ∷ word) (root_name inner)) (is_path inner || texts_equal inner (codes "kernel")) h in
    let head = both (b == 60) (texts_equal word (inner ++ 62 ∷ [])) split.0 in
    record { rest = word; paths = paths; are = ap (λ c. (c ∷ word) ∷ paths) (eqb-true b 60 head.0) }

list_begins : (words : List Text) → right_list words ≡ true → Begins words
unfolding right_list
list_begins [] h = absurd cc
list_begins (first ∷ paths) h = word_begins first paths (both (is_namespace_word is_path first) (list_all is_path paths) h).0

pub parts_begin : (name : DomainName) → is_domain_name is_path name ≡ true → Begins (domain_parts name)
unfolding is_domain_name right_list
parts_begin name h = list_begins (domain_parts name) (both (right_list (domain_parts name)) (nat_le (length name) 4085) h).0
