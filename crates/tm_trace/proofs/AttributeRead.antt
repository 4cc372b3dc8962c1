-- The attributes that are read are those of the request's kind, and each has a word.
use Rattle.std.proofs.Common.{◌≡◌, ℕ, zero, suc, ◌+◌, ◌<◌, ◌^◌, ◌==◌, nat_lt, Bool, true, false, cond, ◌&&◌, ◌||◌, not, List, [], ◌∷◌, ◌++◌, length, get_or, take, drop, Option, Some, None, Result, Ok, refl, sym, subst, ◌∙◌, arith}
use Rattle.std.specs.Prelude.{codes, is_some}
use Rattle.std.specs.List.{list_all, position}
use Rattle.std.proofs.lemmas.Bool.{eqb-true, eq-eqb, lt-ltb}
use Rattle.std.proofs.lemmas.Bool.Decides.{nat_tests}
use Rattle.std.proofs.lemmas.List.Folds.{list_all-append, list_any-append}
use Rattle.std.proofs.lemmas.List.Quantifiers.{position-Some}
use Rattle.tm_word.specs.Prelude.{Text, Word, are_bytes, spelled_word, texts_equal, ◌>>=◌}
use Rattle.tm_number.specs.Numbers.{number_of}
use Rattle.tm_number.proofs.NumberLaws.{number_small}
use Rattle.tm_rules.specs.Types.{Args, Attr, Attributes, LineKind, Stat}
use Rattle.tm_rules.specs.Prelude.{is_stat, may_have}
use Rattle.tm_entry.specs.Attributes.{or_wrong, quoted, kind_word, attr_word}
use Rattle.tm_entry.specs.Written.{is_name_byte, is_attr}
use Rattle.tm_entry.proofs.PieceLaws.{or_wrong_ok}
use Rattle.tm_entry.proofs.LeftLaws.{not_equals, attr_read}
use Rattle.tm_line.specs.Arguments.{kinded}
use Rattle.tm_line.proofs.Steps.{bind_ok, ok_is, kinded_ok, both, all, not_true, to_not}
use Rattle.tm_word.proofs.Spelled.{word_small}
use Rattle.tm_trace.specs.Attributes.{stat_rank, has_stat, put_stat, executes, links, only_if, quoted_word, value_word, has_name, with_argument, with_real_path, with_name, with_target, with_stat, with_attribute, with_sides, with_word_at, with_word, is_complete, attributes_from}
use Rattle.tm_trace.specs.Written.{rises_from, rises, names_once, has_word}
use Rattle.tm_trace.proofs.Asking.{Given}

-- ---- lists with one element more

all_more : {A : Type 0} (p : A → Bool) (xs : List A) (x : A) → list_all p xs ≡ true → p x ≡ true → list_all p (xs ++ x ∷ []) ≡ true
all_more p xs x h k = list_all-append p xs (x ∷ []) ∙ all (list_all p xs) (p x && true) h (all (p x) true k refl)

or_false : (a b : Bool) → (a || b) ≡ false → (a ≡ false) × (b ≡ false)
or_false true b h = absurd cc
or_false false b h = (refl, h)

has_more : (name : Word) (envp : List (Word × Word)) (pair : Word × Word) → has_name name envp ≡ false → texts_equal pair.0 name ≡ false → has_name name (envp ++ pair ∷ []) ≡ false
has_more name envp pair h k = list_any-append (λ p. texts_equal p.0 name) envp (pair ∷ []) ∙ rw (h, k) refl

turn : (x y : Word) → texts_equal x y ≡ true → texts_equal y x ≡ true
turn [] [] e = refl
turn [] (b ∷ y) e = absurd cc
turn (a ∷ x) [] e = absurd cc
turn (a ∷ x) (b ∷ y) e =
    let s = both (a == b) (texts_equal x y) e in
    all (b == a) (texts_equal y x) (eq-eqb b a (sym (eqb-true a b s.0))) (turn x y s.1)

turned_by : (x y : Word) (t : Bool) → texts_equal y x ≡ t → texts_equal x y ≡ false → t ≡ false
turned_by x y false e h = refl
turned_by x y true e h = absurd (let yes : texts_equal x y ≡ true = turn y x e in let wrong : true ≡ false = sym yes ∙ h in cc)

-- two words that differ differ the other way round
pub turned : (x y : Word) → texts_equal x y ≡ false → texts_equal y x ≡ false
turned x y h = turned_by x y (texts_equal y x) refl h

once_more : (envp : List (Word × Word)) (name value : Word) → names_once envp ≡ true → has_name name envp ≡ false → names_once (envp ++ (name, value) ∷ []) ≡ true
once_more [] name value h k = refl
once_more (pair ∷ envp) name value h k =
    let t = both (not (has_name pair.0 envp)) (names_once envp) h in
    let n = or_false (texts_equal pair.0 name) (has_name name envp) k in
    all (not (has_name pair.0 (envp ++ (name, value) ∷ []))) (names_once (envp ++ (name, value) ∷ []))
    (to_not (has_name pair.0 (envp ++ (name, value) ∷ [])) (has_more pair.0 envp (name, value) (not_true (has_name pair.0 envp) t.0) (turned pair.0 name n.0)))
    (once_more envp name value t.1 n.1)

-- ---- stats in order

all_put : (p : Stat → Bool) (s : Stat) (stats : List Stat) → p s ≡ true → list_all p stats ≡ true → list_all p (put_stat s stats) ≡ true
unfolding put_stat
all_put p s [] h k = all (p s) true h refl
all_put p s (other ∷ stats) h k = by_rank (nat_lt (stat_rank s) (stat_rank other)) (all_put p s stats h (both (p other) (list_all p stats) k).1)
  where
    by_rank : (t : Bool) → list_all p (put_stat s stats) ≡ true → list_all p (cond t (s ∷ other ∷ stats) (other ∷ put_stat s stats)) ≡ true
    by_rank true e = all (p s) (list_all p (other ∷ stats)) h k
    by_rank false e = all (p other) (list_all p (put_stat s stats)) (both (p other) (list_all p stats) k).0 e

after_other : (a b : ℕ) → nat_lt a b ≡ false → (b == a) ≡ false → nat_lt b a ≡ true
after_other a b h k = search (arith, nat_tests)

put_from : (rank : ℕ) (s : Stat) (stats : List Stat) → nat_lt rank (stat_rank s) ≡ true → rises_from rank stats ≡ true → has_stat s stats ≡ false → rises_from rank (put_stat s stats) ≡ true
unfolding put_stat
put_from rank s [] low h k = all (nat_lt rank (stat_rank s)) true low refl
put_from rank s (other ∷ stats) low h k =
    let t = both (nat_lt rank (stat_rank other)) (rises_from (stat_rank other) stats) h in
    let n = or_false (stat_rank other == stat_rank s) (has_stat s stats) k in
    by_rank t.0 t.1 n.0 (λ after. put_from (stat_rank other) s stats after t.1 n.1) (nat_lt (stat_rank s) (stat_rank other)) refl
  where
    by_rank : nat_lt rank (stat_rank other) ≡ true → rises_from (stat_rank other) stats ≡ true → (stat_rank other == stat_rank s) ≡ false → (nat_lt (stat_rank other) (stat_rank s) ≡ true → rises_from (stat_rank other) (put_stat s stats) ≡ true)
        → (t : Bool) → nat_lt (stat_rank s) (stat_rank other) ≡ t → rises_from rank (cond t (s ∷ other ∷ stats) (other ∷ put_stat s stats)) ≡ true
    by_rank first rest isnt more true e = all (nat_lt rank (stat_rank s)) (nat_lt (stat_rank s) (stat_rank other) && rises_from (stat_rank other) stats) low (all (nat_lt (stat_rank s) (stat_rank other)) (rises_from (stat_rank other) stats) e rest)
    by_rank first rest isnt more false e = all (nat_lt rank (stat_rank other)) (rises_from (stat_rank other) (put_stat s stats)) first (more (after_other (stat_rank s) (stat_rank other) e isnt))

put_rises : (s : Stat) (stats : List Stat) → rises stats ≡ true → has_stat s stats ≡ false → rises (put_stat s stats) ≡ true
unfolding put_stat
put_rises s [] h k = refl
put_rises s (other ∷ stats) h k = let n = or_false (stat_rank other == stat_rank s) (has_stat s stats) k in by_rank n.0 n.1 (nat_lt (stat_rank s) (stat_rank other)) refl
  where
    by_rank : (stat_rank other == stat_rank s) ≡ false → has_stat s stats ≡ false → (t : Bool) → nat_lt (stat_rank s) (stat_rank other) ≡ t → rises (cond t (s ∷ other ∷ stats) (other ∷ put_stat s stats)) ≡ true
    by_rank isnt none true e = all (nat_lt (stat_rank s) (stat_rank other)) (rises_from (stat_rank other) stats) e h
    by_rank isnt none false e = put_from (stat_rank other) s stats (after_other (stat_rank s) (stat_rank other) e isnt) h none

-- ---- one attribute more

only_ok : {A : Type 0} (test : Bool) (read : Result A LineKind) (x : A) → only_if test read ≡ Ok x → (test ≡ true) × (read ≡ Ok x)
only_ok true read x e = (refl, e)
only_ok false read x e = absurd cc

quoted_bytes : (text : Text) (w : Word) → quoted_word text ≡ Ok w → are_bytes w ≡ true
unfolding quoted_word
quoted_bytes text w e =
    let inner = bind_ok (quoted text) (λ i. or_wrong (spelled_word i)) w e in
    word_small inner.0 w (or_wrong_ok (spelled_word inner.0) w inner.2)

value_low : (text : Text) (n : ℕ) → value_word text ≡ Ok n → nat_lt n (2 ^ 64) ≡ true
unfolding value_word
value_low text n e =
    let x = bind_ok (kinded LineKind.Condition (number_of text)) (λ k. Ok k.value) n e in
    subst (λ k. nat_lt k (2 ^ 64) ≡ true) (ok_is x.0.value n x.2) (lt-ltb _ _ (number_small text x.0 (kinded_ok LineKind.Condition (number_of text) x.0 x.1)))

-- of an execute it can be said what isn't said of others
no_other : {A : Type 0} (b : Bool) → b ≡ true → b ≡ false → A
no_other true h k = absurd cc
no_other false h k = absurd cc

-- the front of a word up to its first `=`
front_of : (text : Text) (k : ℕ) → k < length text → ((i : ℕ) → i < k → (get_or text i 0 == 61) ≡ false) → list_all not_equals (take k text) ≡ true
front_of [] k within h = absurd (omega (arith, within))
front_of (b ∷ text) zero within h = refl
front_of (b ∷ text) (suc k) within h =
    let head : (b == 61) ≡ false = h 0 (omega arith) in
    rw head (front_of text k (omega (arith, within)) (λ i low. h (suc i) (omega (arith, low))))

module _ (a : Args) (perm : ℕ) where
  -- the attributes are of the request's kind
  abbrev Are : Attributes → Type 0
  Are at = Given a perm at

  argument_read : (at next : Attributes) (text : Text) → Are at → with_argument a perm at text ≡ Ok next → Are next
  unfolding with_argument
  argument_read at next text g e =
      let t = only_ok (executes a perm) (quoted_word text >>= λ word. Ok (record at { argv = at.argv ++ word ∷ [] })) next e in
      let w = bind_ok (quoted_word text) (λ word. Ok (record at { argv = at.argv ++ word ∷ [] })) next t.1 in
      subst Are (ok_is (record at { argv = at.argv ++ w.0 ∷ [] }) next w.2) (record {
        exec = λ none. no_other (executes a perm) t.0 none;
        real = g.real;
        argv = all_more are_bytes at.argv w.0 g.argv (quoted_bytes text w.0 w.1);
        names = g.names;
        values = g.values;
        once = g.once;
        link = g.link;
        target = g.target;
        stats = g.stats;
        low = g.low;
        written = g.written;
        order = g.order;
      })

  real_read : (at next : Attributes) (text : Text) → Are at → with_real_path a perm at text ≡ Ok next → Are next
  unfolding with_real_path
  real_read at next text g e =
      let t = only_ok (executes a perm && not (is_some at.real_path)) (quoted_word text >>= λ word. Ok (record at { real_path = Some word })) next e in
      let w = bind_ok (quoted_word text) (λ word. Ok (record at { real_path = Some word })) next t.1 in
      subst Are (ok_is (record at { real_path = Some w.0 }) next w.2) (record {
        exec = λ none. no_other (executes a perm) (both (executes a perm) (not (is_some at.real_path)) t.0).0 none;
        real = quoted_bytes text w.0 w.1;
        argv = g.argv;
        names = g.names;
        values = g.values;
        once = g.once;
        link = g.link;
        target = g.target;
        stats = g.stats;
        low = g.low;
        written = g.written;
        order = g.order;
      })

  name_read : (at next : Attributes) (name : Word) (text : Text) → list_all is_name_byte name ≡ true → Are at → with_name a perm at name text ≡ Ok next → Are next
  unfolding with_name
  name_read at next name text is g e =
      let t = only_ok (executes a perm && not (has_name name at.envp)) (quoted_word text >>= λ word. Ok (record at { envp = at.envp ++ (name, word) ∷ [] })) next e in
      let s = both (executes a perm) (not (has_name name at.envp)) t.0 in
      let w = bind_ok (quoted_word text) (λ word. Ok (record at { envp = at.envp ++ (name, word) ∷ [] })) next t.1 in
      subst Are (ok_is (record at { envp = at.envp ++ (name, w.0) ∷ [] }) next w.2) (record {
        exec = λ none. no_other (executes a perm) s.0 none;
        real = g.real;
        argv = g.argv;
        names = all_more (λ pair. list_all is_name_byte pair.0) at.envp (name, w.0) g.names is;
        values = all_more (λ pair. are_bytes pair.1) at.envp (name, w.0) g.values (quoted_bytes text w.0 w.1);
        once = once_more at.envp name w.0 g.once (not_true (has_name name at.envp) s.1);
        link = g.link;
        target = g.target;
        stats = g.stats;
        low = g.low;
        written = g.written;
        order = g.order;
      })

  target_read : (at next : Attributes) (text : Text) → Are at → with_target a perm at text ≡ Ok next → Are next
  unfolding with_target
  target_read at next text g e =
      let t = only_ok (links a perm && not (is_some at.target)) (quoted_word text >>= λ word. Ok (record at { target = Some word })) next e in
      let w = bind_ok (quoted_word text) (λ word. Ok (record at { target = Some word })) next t.1 in
      subst Are (ok_is (record at { target = Some w.0 }) next w.2) (record {
        exec = g.exec;
        real = g.real;
        argv = g.argv;
        names = g.names;
        values = g.values;
        once = g.once;
        link = λ none. no_other (links a perm) (both (links a perm) (not (is_some at.target)) t.0).0 none;
        target = quoted_bytes text w.0 w.1;
        stats = g.stats;
        low = g.low;
        written = g.written;
        order = g.order;
      })

  stat_read : (at next : Attributes) (stat : Stat) → is_stat stat ≡ true → has_word stat ≡ true → Are at → with_stat a at stat ≡ Ok next → Are next
  unfolding with_stat
  stat_read at next stat low written g e =
      let t = only_ok (may_have a stat && not (has_stat stat at.stats)) (Ok (record at { stats = put_stat stat at.stats })) next e in
      let s = both (may_have a stat) (not (has_stat stat at.stats)) t.0 in
      subst Are (ok_is (record at { stats = put_stat stat at.stats }) next t.1) (record {
        exec = g.exec;
        real = g.real;
        argv = g.argv;
        names = g.names;
        values = g.values;
        once = g.once;
        link = g.link;
        target = g.target;
        stats = all_put (may_have a) stat at.stats s.0 g.stats;
        low = all_put is_stat stat at.stats low g.low;
        written = all_put has_word stat at.stats written g.written;
        order = put_rises stat at.stats g.order (not_true (has_stat stat at.stats) s.1);
      })

  attribute_read : (at next : Attributes) (attr : Attr) (text : Text) → is_attr attr ≡ true → Are at → with_attribute a perm at attr text ≡ Ok next → Are next
  unfolding is_attr with_attribute
  attribute_read at next Attr.RealPath text is g e = real_read at next text g e
  attribute_read at next (Attr.Envp name) text is g e = name_read at next name text is g e
  attribute_read at next Attr.Target text is g e = target_read at next text g e
  attribute_read at next (Attr.Stat place field) text is g e =
      let n = bind_ok (value_word text) (λ value. with_stat a at (Stat.Number place field value)) next e in
      stat_read at next (Stat.Number place field n.0) (value_low text n.0 n.1) is g n.2
  attribute_read at next (Attr.Kind place) text is g e =
      let k = bind_ok (or_wrong (kind_word text)) (λ kind. with_stat a at (Stat.Kind place kind)) next e in
      stat_read at next (Stat.Kind place k.0) refl is g k.2
  attribute_read at next (Attr.Task field) text is g e = absurd cc
  attribute_read at next Attr.Argc text is g e = absurd cc
  attribute_read at next Attr.Envc text is g e = absurd cc
  attribute_read at next (Attr.Argv n) text is g e = absurd cc

  sides_read : (at next : Attributes) (left text : Text) → list_all not_equals left ≡ true → Are at → with_sides a perm at left text ≡ Ok next → Are next
  unfolding with_sides
  sides_read at next left text uncut g e = by_left (texts_equal left (codes "exec.argv")) e
    where
      by_left : (t : Bool) → cond t (with_argument a perm at text) (attr_word left >>= λ attr. with_attribute a perm at attr text) ≡ Ok next → Are next
      by_left true f = argument_read at next text g f
      by_left false f =
          let attr = bind_ok (attr_word left) (λ attr. with_attribute a perm at attr text) next f in
          attribute_read at next attr.0 text (attr_read left attr.0 uncut attr.1) g attr.2

  word_read : (at next : Attributes) (word : Text) (place : Option ℕ) → position (λ b. b == 61) word ≡ place → Are at → with_word_at a perm at place word ≡ Ok next → Are next
  word_read at next word None here g e = absurd cc
  word_read at next word (Some k) here g e =
      let cut = position-Some (λ b. b == 61) word k 0 here in
      sides_read at next (take k word) (drop (k + 1) word) (front_of word k cut.0 cut.2) g e

  one_read : (at next : Attributes) (word : Text) → Are at → with_word a perm at word ≡ Ok next → Are next
  unfolding with_word
  one_read at next word g e = word_read at next word (position (λ b. b == 61) word) refl g e

  -- all of them
  pub attributes_read : (at next : Attributes) (words : List Text) → Given a perm at → attributes_from a perm at words ≡ Ok next → Given a perm next × (is_complete a perm next ≡ true)
  unfolding attributes_from
  attributes_read at next [] g e =
      let t = only_ok (is_complete a perm at) (Ok at) next e in
      subst (λ (n : Attributes). Given a perm n × (is_complete a perm n ≡ true)) (ok_is at next t.1) (g, t.0)
  attributes_read at next (word ∷ words) g e =
      let one = bind_ok (with_word a perm at word) (λ n. attributes_from a perm n words) next e in
      attributes_read one.0 next words (one_read at one.0 word g one.1) one.2
