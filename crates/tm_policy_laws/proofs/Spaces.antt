-- Namespaces by their names: what a text makes of one of them, and that the order of printing never
-- matters.
use Rattle.std.proofs.Common.{◌≡◌, ℕ, zero, suc, ◌<◌, Bool, true, false, List, [], ◌∷◌, ◌++◌, length, if◌then◌else◌, Ok, refl, sym, ap, subst, ◌∙◌, arith}
use Rattle.std.specs.Prelude.{Option, Some, None, unwrap_or, cond}
use Rattle.std.specs.List.{AllByRecursion, Contains, IsDistinct, find, flat_map, list_all, slice_index_or}
use Rattle.std.specs.Option.{option_map_or}
use Rattle.std.proofs.lemmas.List.Elements.{All-from_recursion, recursion_from_All, All-contains}
use Rattle.std.proofs.lemmas.List.Sorted.{All-permutation, Contains-permutation, IsPermutation-sym}
use Rattle.std.proofs.lemmas.Map.Keys.{IsDistinct-IsPermutation}
use Rattle.tm_word.specs.Prelude.{Text, is_word, texts_equal}
use Rattle.tm_rules.specs.Types.{FileKind, Namespace, Policy, PolicyLine}
use Rattle.tm_rules.specs.Prelude.{Cursor, apply_read, changing_namespace, edited, empty_namespace, in_namespace, namespace_named}
use Rattle.tm_domain.proofs.NameLaws.{texts_same, same_texts}
use Rattle.tm_policy_line.specs.Reading.{read_words}
use Rattle.tm_policy_line.specs.Printing.{printed_line}
use Rattle.tm_text.specs.ProfileText.{by_name}
use Rattle.tm_text.proofs.OrderLaws.{names_kept}
use Rattle.tm_policy_laws.specs.Policies.{same_name}
use Rattle.tm_policy_laws.proofs.NamespaceLaws.{even_texts}
use Rattle.tm_policy_laws.proofs.Folding.{Loads, loads_none, loads_both, loads_line}

-- Names

-- the first namespace of that name in a list
abbrev pub found : List Namespace → Text → Option Namespace
found list name = find (λ (ns : Namespace). texts_equal ns.name name) list

-- the namespace of that name; one of which nothing was written is empty
abbrev pub named : List Namespace → Text → Namespace
named spaces name = unwrap_or (found spaces name) (empty_namespace name)

-- it has the name
pub named_name : (spaces : List Namespace) (name : Text) → (named spaces name).name ≡ name
named_name [] name = refl
named_name (ns ∷ spaces) name = by_test (texts_equal ns.name name) refl (named_name spaces name)
  where
    by_test
        : (b : Bool) → texts_equal ns.name name ≡ b → (named spaces name).name ≡ name
        → (unwrap_or (cond b (Some ns) (found spaces name)) (empty_namespace name)).name ≡ name
    by_test true e rest = same_texts ns.name name e
    by_test false e rest = rest

pub named_in : (p : Policy) (name : Text) → namespace_named p name ≡ named p.namespaces name
unfolding namespace_named
named_in p name = refl

-- One that is changed

-- a change that keeps the name
abbrev pub KeepsName : (Namespace → Namespace) → Type 0
KeepsName change = (ns : Namespace) → (change ns).name ≡ ns.name

pub named_changed : (name : Text) (change : Namespace → Namespace) (spaces : List Namespace) → KeepsName change → named (in_namespace name change spaces) name ≡ change (named spaces name)
named_changed name change [] keeps = rw (keeps (empty_namespace name), texts_same name name refl) refl
named_changed name change (ns ∷ spaces) keeps = by_test (texts_equal ns.name name) refl (named_changed name change spaces keeps)
  where
    by_test
        : (b : Bool) → texts_equal ns.name name ≡ b → named (in_namespace name change spaces) name ≡ change (named spaces name)
        → named (if b then change ns ∷ spaces else ns ∷ in_namespace name change spaces) name ≡ change (unwrap_or (cond b (Some ns) (found spaces name)) (empty_namespace name))
    by_test true e rest = rw (keeps ns, e) refl
    by_test false e rest = rw e rest

pub named_other
    : (name other : Text) (change : Namespace → Namespace) (spaces : List Namespace) → KeepsName change → texts_equal name other ≡ false
    → named (in_namespace name change spaces) other ≡ named spaces other
named_other name other change [] keeps differs = rw (keeps (empty_namespace name), differs) refl
named_other name other change (ns ∷ spaces) keeps differs = by_test (texts_equal ns.name name) refl (named_other name other change spaces keeps differs)
  where
    behind
        : (c : Bool) → named (in_namespace name change spaces) other ≡ named spaces other
        → unwrap_or (cond c (Some ns) (found (in_namespace name change spaces) other)) (empty_namespace other)
        ≡ unwrap_or (cond c (Some ns) (found spaces other)) (empty_namespace other)
    behind true rest = refl
    behind false rest = rest

    by_test
        : (b : Bool) → texts_equal ns.name name ≡ b → named (in_namespace name change spaces) other ≡ named spaces other
        → named (if b then change ns ∷ spaces else ns ∷ in_namespace name change spaces) other ≡ named (ns ∷ spaces) other
    by_test true e rest =
        let no : texts_equal ns.name other ≡ false = ap (λ (t : Text). texts_equal t other) (same_texts ns.name name e) ∙ differs in
        rw (keeps ns, no) refl
    by_test false e rest = behind (texts_equal ns.name other) rest

-- What a text makes of one namespace

-- the policy with these namespaces
abbrev pub with_spaces : Policy → List Namespace → Policy
with_spaces base spaces = record base { namespaces = spaces }

module _ (file : FileKind) (base : Policy) (c : Cursor) where
  -- the text changes the namespace of that name alone, into this one
  pub record Turns (text : Text) (name : Text) (spaces : List Namespace) (new : Namespace) : Type 0 where
    pub after : List Namespace
    pub loads : Loads file text (with_spaces base spaces) c (with_spaces base after) c
    pub here : named after name ≡ new
    pub others : (other : Text) → texts_equal name other ≡ false → named after other ≡ named spaces other

  -- wherever the namespace of that name is the first, the text makes it the second
  pub record Changes (text name : Text) (old new : Namespace) : Type 0 where
    pub turns : (spaces : List Namespace) → named spaces name ≡ old → Turns text name spaces new

  pub changes_none : {name : Text} {old : Namespace} → Changes [] name old old
  changes_none = record { turns = λ spaces e. record { after = spaces; loads = loads_none; here = e; others = λ other differs. refl } }

  pub changes_both : {x y name : Text} {old mid new : Namespace} → Changes x name old mid → Changes y name mid new → Changes (x ++ y) name old new
  changes_both h k =
      record {
        turns = λ spaces e.
            let a = h.turns spaces e in
            let b = k.turns a.after a.here in
            record {
              after = b.after;
              loads = loads_both a.loads b.loads;
              here = b.here;
              others = λ other differs. b.others other differs ∙ a.others other differs;
            };
      }

  -- a line that changes the namespace
  pub changes_line
      : (ws : List Text) (l : PolicyLine) (name : Text) (change : Namespace → Namespace) (old : Namespace)
      → list_all is_word ws ≡ true → read_words file ws ≡ Ok l → KeepsName change → ((p : Policy) → apply_read p c l ≡ edited (changing_namespace p name change) c)
      → Changes (printed_line ws) name old (change old)
  changes_line ws l name change old are read keeps is =
      record {
        turns = λ spaces e.
            record {
              after = in_namespace name change spaces;
              loads = loads_line ws l are read (is (with_spaces base spaces));
              here = named_changed name change spaces keeps ∙ ap change e;
              others = λ other differs. named_other name other change spaces keeps differs;
            };
      }

  -- Namespace by namespace

  -- whatever name is asked for, its namespace is that which its own text has made
  pub record Fills (text : Text) (block : Namespace → Namespace → Namespace) (list spaces : List Namespace) : Type 0 where
    pub after : List Namespace
    pub loads : Loads file text (with_spaces base spaces) c (with_spaces base after) c
    pub all : (name : Text) → named after name ≡ option_map_or (λ ns. block ns (named spaces name)) (found list name) (named spaces name)

  module _
      (Good Blank : Namespace → Type 0)
      (text : Namespace → Text)
      (block : Namespace → Namespace → Namespace)
      (one : (ns : Namespace) (spaces : List Namespace) → Good ns → Blank (named spaces ns.name) → Turns (text ns) ns.name spaces (block ns (named spaces ns.name)))
    where
      -- nothing was written yet in these namespaces
      abbrev pub AreBlank : List Namespace → List Namespace → Type 0
      AreBlank spaces list = AllByRecursion (λ (ns : Namespace). Blank (named spaces ns.name)) list

      still_blank
          : (ns : Namespace) (list spaces after : List Namespace) → ((other : Text) → texts_equal ns.name other ≡ false → named after other ≡ named spaces other)
          → AllByRecursion (λ other. same_name ns other ≡ false) list → AreBlank spaces list → AreBlank after list
      still_blank ns [] spaces after same differ h = tt
      still_blank ns (other ∷ list) spaces after same differ h = (subst Blank (sym (same other.name differ.0)) h.0, still_blank ns list spaces after same differ.1 h.1)

      not_found : (ns : Namespace) (list : List Namespace) → AllByRecursion (λ other. same_name ns other ≡ false) list → found list ns.name ≡ None
      not_found ns [] differ = refl
      not_found ns (other ∷ list) differ = rw (even_texts other.name ns.name ∙ differ.0) (not_found ns list differ.1)

      pub fills : (list spaces : List Namespace) → AllByRecursion Good list → IsDistinct same_name list → AreBlank spaces list → Fills (flat_map text list) block list spaces
      unfolding IsDistinct
      fills [] spaces good once blank = record { after = spaces; loads = loads_none; all = λ name. refl }
      fills (ns ∷ list) spaces good once blank =
          let first = one ns spaces good.0 blank.0 in
          let rest = fills list first.after good.1 once.1 (still_blank ns list spaces first.after first.others once.0 blank.1) in
          record {
            after = rest.after;
            loads = loads_both first.loads rest.loads;
            all = λ name. by_test name first rest (texts_equal ns.name name) refl;
          }
        where
          by_test
              : (name : Text) (first : Turns (text ns) ns.name spaces (block ns (named spaces ns.name))) (rest : Fills (flat_map text list) block list first.after) (b : Bool) → texts_equal ns.name name ≡ b
              → named rest.after name ≡ option_map_or (λ x. block x (named spaces name)) (cond b (Some ns) (found list name)) (named spaces name)
          by_test name first rest true e =
              let same : ns.name ≡ name = same_texts ns.name name e in
              subst
              (λ (n : Text). named rest.after n ≡ block ns (named spaces n))
              same
              (rest.all ns.name ∙ ap (λ (o : Option Namespace). option_map_or (λ x. block x (named first.after ns.name)) o (named first.after ns.name)) (not_found ns list once.0) ∙ first.here)
          by_test name first rest false e =
              rest.all name ∙ ap (λ (old : Namespace). option_map_or (λ x. block x old) (found list name) old) (first.others name e)

-- In the order of names

-- what was found is in the list, and has the name
found_in : (name : Text) (list : List Namespace) (x : Namespace) → found list name ≡ Some x → Contains list x × (texts_equal x.name name ≡ true)
found_in name [] x e = absurd cc
found_in name (y ∷ list) x e = by_test (texts_equal y.name name) refl e (found_in name list x)
  where
    by_test
        : (b : Bool) → texts_equal y.name name ≡ b → cond b (Some y) (found list name) ≡ Some x → (found list name ≡ Some x → Contains list x × (texts_equal x.name name ≡ true))
        → Contains (y ∷ list) x × (texts_equal x.name name ≡ true)
    by_test true is e later = let same : y ≡ x = cc in ((0, omega arith, same), subst (λ (z : Namespace). texts_equal z.name name ≡ true) same is)
    by_test false is e later = let f = later e in let low : f.0.0 < length list = f.0.1 in ((suc f.0.0, omega (arith, low), f.0.2), f.1)

-- a namespace of that name is the one that is found
found_at : (name : Text) (list : List Namespace) (x : Namespace) (k : ℕ) → IsDistinct same_name list → k < length list → slice_index_or list k x ≡ x → texts_equal x.name name ≡ true → found list name ≡ Some x
unfolding IsDistinct
found_at name [] x k once low at is = absurd (omega (arith, low))
found_at name (y ∷ list) x zero once low at is = subst (λ (z : Namespace). cond (texts_equal z.name name) (Some z) (found list name) ≡ Some x) (sym at) (rw is refl)
found_at name (y ∷ list) x (suc k) once low at is =
    let within : k < length list = omega (arith, low) in
    let differ : texts_equal y.name x.name ≡ false =
    All-contains (λ (z : Namespace). same_name y z ≡ false) list x (All-from_recursion (λ (z : Namespace). same_name y z ≡ false) list once.0) (k, within, at) in
    let other : texts_equal y.name name ≡ false = ap (λ (t : Text). texts_equal y.name t) (sym (same_texts x.name name is)) ∙ differ in
    rw other (found_at name list x k once.1 within at is)

found_by : (name : Text) (list : List Namespace) (x : Namespace) → IsDistinct same_name list → Contains list x → texts_equal x.name name ≡ true → found list name ≡ Some x
found_by name list x once in_ is = found_at name list x in_.0 once in_.1 in_.2 is

pub found_named : (list : List Namespace) (name : Text) (ns : Namespace) → found list name ≡ Some ns → ns.name ≡ name
found_named list name ns e = same_texts ns.name name (found_in name list ns e).1

pub by_name_all : (P : Namespace → Type 0) (list : List Namespace) → AllByRecursion P list → AllByRecursion P (by_name list)
by_name_all P list h = recursion_from_All P (by_name list) (All-permutation P list (by_name list) (names_kept list) (All-from_recursion P list h))

pub by_name_once : (list : List Namespace) → IsDistinct same_name list → IsDistinct same_name (by_name list)
by_name_once list once = IsDistinct-IsPermutation same_name (λ x y. even_texts x.name y.name) list (by_name list) (names_kept list) once

pub by_name_found : (name : Text) (list : List Namespace) → IsDistinct same_name list → found (by_name list) name ≡ found list name
by_name_found name list once = go (found list name) (found (by_name list) name) refl refl
  where
    go : (a b : Option Namespace) → found list name ≡ a → found (by_name list) name ≡ b → b ≡ a
    go (Some x) b e k =
        let f = found_in name list x e in
        sym k ∙ found_by name (by_name list) x (by_name_once list once) (Contains-permutation list (by_name list) x (names_kept list) f.0) f.1
    go None (Some y) e k =
        let f = found_in name (by_name list) y k in
        sym (found_by name list y once (Contains-permutation (by_name list) list y (IsPermutation-sym list (by_name list) (names_kept list)) f.0) f.1) ∙ e
    go None None e k = refl
