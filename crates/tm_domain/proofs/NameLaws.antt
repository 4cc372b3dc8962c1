-- Domain names and their words.
use Rattle.std.proofs.Common.{◌≡◌, ℕ, suc, ◌+◌, ◌-◌, ◌<◌, ◌≤◌, ◌==◌, Bool, true, false, not, cond, nat_le, ◌&&◌, ◌||◌, List, [], ◌∷◌, ◌++◌, length, get_or, take, drop, Option, Some, None, Ok, Err, refl, sym, ap, subst, ◌∙◌, arith, eq-eqb, drop-cons, length-append}
use Rattle.std.specs.Prelude.{codes}
use Rattle.std.proofs.Math.Seq.{drop-length}
use Rattle.std.proofs.lemmas.List.{take-append-drop}
use Rattle.std.proofs.lemmas.List.Sums.{suffix_len_is}
use Rattle.std.specs.List.{slice_split, list_all, list_any, suffix_len}
use Rattle.std.proofs.lemmas.Bool.{eqb-true}
use Rattle.tm_pattern.specs.Words.{Text}
use Rattle.tm_pattern.specs.Texts.{texts_equal}
use Rattle.tm_rules.specs.Prelude.{is_domain_name, is_namespace_word, root_name}
use Rattle.tm_domain.specs.declared.DomainFault.TheVariants.{NoNamespace, TooLong}
use Rattle.tm_domain.specs.Names.{is_path, bad_path, paths_or_fault, domain_at, domain_of, is_read}

-- ---- equal texts

pub texts_same : (xs ys : List ℕ) → xs ≡ ys → texts_equal xs ys ≡ true
texts_same [] [] e = refl
texts_same [] (y ∷ ys) e = absurd cc
texts_same (x ∷ xs) [] e = absurd cc
texts_same (x ∷ xs) (y ∷ ys) e = let h : (x == y) ≡ true = eq-eqb x y cc in rw h (texts_same xs ys cc)

pub same_texts : (xs ys : List ℕ) → texts_equal xs ys ≡ true → xs ≡ ys
same_texts [] [] e = refl
same_texts [] (y ∷ ys) e = absurd cc
same_texts (x ∷ xs) [] e = absurd cc
same_texts (x ∷ xs) (y ∷ ys) e =
    let b = both (x == y) (texts_equal xs ys) e in
    let head : x ≡ y = eqb-true _ _ b.0 in
    let tail : xs ≡ ys = same_texts xs ys b.1 in
    rw (head, tail) refl
  where
    both : (a b : Bool) → (a && b) ≡ true → (a ≡ true) × (b ≡ true)
    both true b h = (refl, h)
    both false b h = absurd cc

-- ---- the grammar

-- what is read is the text
same_short : (text name : List ℕ) (b : Bool) → cond b (Ok text) (Err TooLong) ≡ Ok name → name ≡ text
same_short text name true e = cc
same_short text name false e = absurd cc

same_paths : (text name : List ℕ) (o : Option ℕ) → paths_or_fault o text ≡ Ok name → name ≡ text
same_paths text name (Some n) e = absurd cc
same_paths text name None e = same_short text name (nat_le (length text) 4085) e

same_first : (text name first : List ℕ) (paths : List (List ℕ)) (b : Bool) → cond b (paths_or_fault (bad_path 1 paths) text) (Err NoNamespace) ≡ Ok name → name ≡ text
same_first text name first paths true e = same_paths text name (bad_path 1 paths) e
same_first text name first paths false e = absurd cc

same_at : (text name : List ℕ) (words : List (List ℕ)) → domain_at words text ≡ Ok name → name ≡ text
same_at text name [] e = absurd cc
same_at text name (first ∷ paths) e = same_first text name first paths (is_namespace_word is_path first) e

pub same_name : (text name : List ℕ) → domain_of text ≡ Ok name → name ≡ text
unfolding domain_of
same_name text name e = same_at text name (slice_split (λ b. b == 32) text) e

-- a text is read exactly where it is right
bad_or_all : (n : ℕ) (text : List ℕ) (paths : List (List ℕ)) → is_read (paths_or_fault (bad_path n paths) text) ≡ (list_all is_path paths && nat_le (length text) 4085)
bad_or_all n text [] = by_length (nat_le (length text) 4085)
  where
    by_length : (b : Bool) → is_read (cond b (Ok text) (Err TooLong)) ≡ b
    by_length true = refl
    by_length false = refl
bad_or_all n text (path ∷ paths) = by_path (is_path path) (bad_or_all (n + 1) text paths)
  where
    by_path : (b : Bool) → is_read (paths_or_fault (bad_path (n + 1) paths) text) ≡ (list_all is_path paths && nat_le (length text) 4085)
        → is_read (paths_or_fault (cond (not b) (Some n) (bad_path (n + 1) paths)) text) ≡ ((b && list_all is_path paths) && nat_le (length text) 4085)
    by_path true h = h
    by_path false h = refl

right_words : List Text → Bool
right_words [] = false
right_words (first ∷ rest) = is_namespace_word is_path first && list_all is_path rest

right_at : (text : List ℕ) (words : List (List ℕ)) → (right_words words && nat_le (length text) 4085) ≡ is_read (domain_at words text)
unfolding right_words
right_at text [] = refl
right_at text (first ∷ paths) = by_first (is_namespace_word is_path first) (bad_or_all 1 text paths)
  where
    by_first : (b : Bool) → is_read (paths_or_fault (bad_path 1 paths) text) ≡ (list_all is_path paths && nat_le (length text) 4085)
        → ((b && list_all is_path paths) && nat_le (length text) 4085) ≡ is_read (cond b (paths_or_fault (bad_path 1 paths) text) (Err NoNamespace))
    by_first true h = sym h
    by_first false h = refl

pub right_name : (text : List ℕ) → is_domain_name is_path text ≡ is_read (domain_of text)
unfolding domain_of is_domain_name right_words
right_name text = right_at text (slice_split (λ b. b == 32) text)

-- ---- angle brackets

last_apart : (xs : List ℕ) → 1 ≤ length xs → xs ≡ take (length xs - 1) xs ++ get_or xs (length xs - 1) 0 ∷ []
last_apart xs h =
    let less : length xs - 1 < length xs = omega (arith, h) in
    let past : suc (length xs - 1) ≡ length xs = omega (arith, h) in
    let rest : drop (length xs - 1) xs ≡ get_or xs (length xs - 1) 0 ∷ [] =
    drop-cons xs (length xs - 1) 0 less ∙ ap (λ ys. get_or xs (length xs - 1) 0 ∷ ys) (ap (λ k. drop k xs) past ∙ drop-length xs) in
    sym (take-append-drop (length xs - 1) xs) ∙ ap (λ ys. take (length xs - 1) xs ++ ys) rest

in_both : (x : ℕ) (xs : List ℕ) (n : ℕ) → x ≡ 60 → n ≡ length xs - 1 → get_or xs n 0 ≡ 62 → 1 ≤ length xs → x ∷ xs ≡ root_name (take n xs)
in_both x xs n e h k le =
    let whole : xs ≡ take n xs ++ get_or xs n 0 ∷ [] = subst (λ i. xs ≡ take i xs ++ get_or xs i 0 ∷ []) (sym h) (last_apart xs le) in
    ap (λ y. y ∷ xs) e ∙ ap (λ ys. 60 ∷ ys) (whole ∙ ap (λ y. take n xs ++ y ∷ []) k)

pub bracketed_is : (word : List ℕ) → 2 ≤ length word → get_or word 0 0 ≡ 60 → get_or word (length word - 1) 0 ≡ 62 → word ≡ root_name (take (length word - 2) (drop 1 word))
bracketed_is [] h e k = absurd (omega (arith, h))
bracketed_is (x ∷ xs) h e k =
    let one : suc (length xs) - 1 ≡ suc (length xs - 1) = omega (arith, h) in
    let n : suc (length xs) - 2 ≡ length xs - 1 = omega (arith, h) in
    let at : get_or xs (length xs - 1) 0 ≡ 62 = sym (ap (λ i. get_or (x ∷ xs) i 0) one) ∙ k in
    in_both x xs (suc (length xs) - 2) e n (ap (λ i. get_or xs i 0) n ∙ at) (omega (arith, h))

at_end : (xs : List ℕ) (y : ℕ) → get_or (xs ++ y ∷ []) (length xs) 0 ≡ y
at_end [] y = refl
at_end (x ∷ xs) y = at_end xs y

pub bracketed_only : (word path : List ℕ) → word ≡ root_name path → (2 ≤ length word) × (get_or word 0 0 ≡ 60) × (get_or word (length word - 1) 0 ≡ 62)
bracketed_only word path e =
    let long : length word ≡ suc (length path + 1) = ap length e ∙ simp length-append (omega arith) in
    let place : length word - 1 ≡ suc (length path) = omega (arith, long) in
    (omega (arith, long), ap (λ xs. get_or xs 0 0) e, ap (λ i. get_or word i 0) place ∙ ap (λ xs. get_or xs (suc (length path)) 0) e ∙ at_end path 62)

pub in_brackets : (is : Text → Bool) (word : List ℕ) (n : ℕ) → n ≡ length word - 2 → 2 ≤ length word → get_or word 0 0 ≡ 60 → get_or word (length word - 1) 0 ≡ 62
    → is_namespace_word is word ≡ (is (take n (drop 1 word)) || texts_equal (take n (drop 1 word)) (codes "kernel"))
in_brackets is word n m h e k =
    let yes : texts_equal word (root_name (take (length word - 2) (drop 1 word))) ≡ true = texts_same _ _ (bracketed_is word h e k) in
    let found : is_namespace_word is word ≡ (is (take (length word - 2) (drop 1 word)) || texts_equal (take (length word - 2) (drop 1 word)) (codes "kernel")) = rw yes refl in
    subst (λ i. is_namespace_word is word ≡ (is (take i (drop 1 word)) || texts_equal (take i (drop 1 word)) (codes "kernel"))) (sym m) found

pub out_of_brackets : (is : Text → Bool) (word : List ℕ) → ¬ ((2 ≤ length word) × (get_or word 0 0 ≡ 60) × (get_or word (length word - 1) 0 ≡ 62)) → is_namespace_word is word ≡ false
out_of_brackets is word no_brackets = by_test (texts_equal word (root_name (take (length word - 2) (drop 1 word)))) refl
  where
    by_test : (b : Bool) → texts_equal word (root_name (take (length word - 2) (drop 1 word))) ≡ b → is_namespace_word is word ≡ false
    by_test true h = absurd (no_brackets (bracketed_only word _ (same_texts _ _ h)))
    by_test false h = rw h refl

-- ---- the last word

pub no_space : (xs : List ℕ) → ((k : ℕ) → k < length xs → (get_or xs k 0 == 32) ≡ false) → list_any (λ b. b == 32) xs ≡ false
no_space [] h = refl
no_space (x ∷ xs) h = rw (h 0 (omega arith)) (no_space xs (λ k lt. h (suc k) (omega (arith, lt))))

pub last_from : (xs : List ℕ) (n : ℕ) → n ≤ length xs → ((k : ℕ) → n ≤ k → k < length xs → (get_or xs k 0 == 32) ≡ false) → (0 < n → get_or xs (n - 1) 0 ≡ 32) → n ≡ length xs - suffix_len (λ b. not (b == 32)) xs
last_from xs n le later here =
    let s : suffix_len (λ b. not (b == 32)) xs ≡ length xs - n =
    suffix_len_is (λ b. not (b == 32)) xs n 0 le (λ k a b. let no : (get_or xs k 0 == 32) ≡ false = later k a b in rw no refl) (λ pos. let yes : (get_or xs (n - 1) 0 == 32) ≡ true = eq-eqb (get_or xs (n - 1) 0) 32 (here pos) in rw yes refl) in
    omega (arith, s, le)
