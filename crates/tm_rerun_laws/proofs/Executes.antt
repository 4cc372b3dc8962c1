-- Which entries grant an execute: a plain entry says the same of every process and of every request
-- with the same three values.
use Rattle.std.proofs.Common.{◌≡◌, ◌<◌, max, ℕ, zero, suc, List, [], ◌∷◌, Bool, true, false, true≢false, refl, sym, ap, ◌∙◌, arith, inl, inr, ◌⊎◌}
use Rattle.std.specs.Prelude.{Option, Some, None, ◌&&◌, ◌||◌, ◌==◌, if◌then◌else◌, slice_get, not, bit_or, is_some}
use Rattle.std.specs.List.{list_all}
use Rattle.std.specs.Option.{option_map_or}
use Rattle.std.specs.Bool.{beq}
use Rattle.std.specs.Int.{bit_at}
use Rattle.std.proofs.lemmas.Nat.Bits.{bit_at_or, bit_at-lt}
use Rattle.std.proofs.lemmas.Bool.{eqb-true, eqb-false, and_parts}
use Rattle.tm_word.specs.Prelude.{Word, literal, matches, texts_equal}
use Rattle.tm_word.proofs.Literals.{literal-alone, literal-own, literal-name}
use Rattle.tm_rules.specs.Types.{Args, Attr, Clause, Cond, Entry, Groups, NamePlace, NameUnion, Proc, Request, Right}
use Rattle.tm_rules.specs.Prelude.{args_equal, args_grant, clause_holds, conds_equal, grants, has_permission, holds, is_plain_clause, is_plain_entry, learned_line, lets_execute, name_in, number_of, same_line, when, word_of}
use Rattle.tm_rules.proofs.EqualityLaws.{same_texts, same_args, same_conds}
use Rattle.tm_legal.specs.Prelude.{Execute, execute_line, execute_request, nobody}

-- a request that is searched for with these three values
pub record IsExecute (x : Execute) (r : Request) : Type 0 where
  pub args : r.args ≡ Args.Path (NameUnion.One (literal x.name))
  pub perm : r.perm ≡ 0
  pub real : r.attributes.real_path ≡ Some x.real
  pub argument : slice_get r.attributes.argv 0 ≡ Some x.argument

-- what an entry grants it
abbrev pub look_of : Groups → Execute → Entry → Option NamePlace
look_of groups x entry = grants groups nobody (execute_request x) entry

pub own_request : (x : Execute) → IsExecute x (execute_request x)
own_request x = record { args = refl; perm = refl; real = refl; argument = refl }

no_value : {A : Type 0} (o : Option A) → option_map_or (λ (x : A). false) o false ≡ false
no_value None = refl
no_value (Some x) = refl

none-when : (b : Bool) → (let none : Option NamePlace = None in when b none ≡ none)
none-when true = refl
none-when false = refl

module _ (groups : Groups) (x : Execute) (p : Proc) (r : Request) (is : IsExecute x r) where
  -- Plain clauses

  clause-same : (left : Attr) (equal : Bool) (right : Right) → (let c : Clause = record { left = left; equal = equal; right = right } in is_plain_clause c ≡ true → clause_holds groups p r c ≡ clause_holds groups nobody (execute_request x) c)
  unfolding clause_holds number_of word_of
  clause-same Attr.RealPath equal (Right.Numbers u) plain = refl
  clause-same Attr.RealPath equal (Right.Attr a) plain = no_value (number_of a p r) ∙ sym (no_value (number_of a nobody (execute_request x)))
  clause-same Attr.RealPath equal (Right.Kind k) plain = refl
  clause-same Attr.RealPath equal (Right.Name u) plain = rw (is.args, is.perm, is.real) refl
  clause-same Attr.RealPath equal Right.Null plain = rw (is.args, is.perm, is.real) refl
  clause-same (Attr.Argv zero) equal (Right.Numbers u) plain = refl
  clause-same (Attr.Argv zero) equal (Right.Attr a) plain = no_value (number_of a p r) ∙ sym (no_value (number_of a nobody (execute_request x)))
  clause-same (Attr.Argv zero) equal (Right.Kind k) plain = refl
  clause-same (Attr.Argv zero) equal (Right.Name u) plain = rw (is.args, is.perm, is.argument) refl
  clause-same (Attr.Argv zero) equal Right.Null plain = rw (is.args, is.perm, is.argument) refl
  clause-same (Attr.Argv (suc n)) equal right plain = let e : suc n ≡ 0 = eqb-true (suc n) 0 plain in absurd (omega (arith, e))
  clause-same (Attr.Task f) equal right plain = absurd cc
  clause-same Attr.Argc equal right plain = absurd cc
  clause-same Attr.Envc equal right plain = absurd cc
  clause-same (Attr.Stat q f) equal right plain = absurd cc
  clause-same (Attr.Kind q) equal right plain = absurd cc
  clause-same (Attr.Envp name) equal right plain = absurd cc
  clause-same Attr.Target equal right plain = absurd cc

  clauses-same : (cs : List Clause) → list_all is_plain_clause cs ≡ true → list_all (clause_holds groups p r) cs ≡ list_all (clause_holds groups nobody (execute_request x)) cs
  clauses-same [] plain = refl
  clauses-same (c ∷ cs) plain =
      let parts = and_parts (is_plain_clause c) (list_all is_plain_clause cs) plain in
      rw (clause-same c.left c.equal c.right parts.0, clauses-same cs parts.1) refl

  -- Entries

  -- what lets nothing be executed grants no execute
  no_execute : (args : Args) (bits : ℕ) (cond : Cond) → (let e : Entry = record { args = args; perms = record { bits = bits }; cond = cond } in lets_execute e ≡ false → grants groups p r e ≡ None)
  unfolding grants args_grant
  no_execute (Args.Path n) bits cond free = rw (is.perm, free) refl
  no_execute (Args.Execute n prefer) bits cond free = rw (is.perm, free) refl
  no_execute (Args.PathNumber n k) bits cond free = rw is.args (none-when _)
  no_execute (Args.Device n a b c) bits cond free = rw is.args (none-when _)
  no_execute (Args.Path2 n m) bits cond free = rw is.args (none-when _)
  no_execute (Args.Mount a b c d) bits cond free = rw is.args (none-when _)
  no_execute (Args.Inet a b c) bits cond free = rw is.args (none-when _)
  no_execute (Args.Unix a n) bits cond free = rw is.args (none-when _)
  no_execute (Args.Env n) bits cond free = rw is.args (none-when _)
  no_execute (Args.Manual n) bits cond free = rw is.args (none-when _)

-- a plain entry grants the same name
pub plain-same : (groups : Groups) (x : Execute) (p : Proc) (r : Request) → IsExecute x r → (e : Entry) → is_plain_entry e ≡ true → grants groups p r e ≡ look_of groups x e
unfolding grants holds
plain-same groups x p r is e plain = go (lets_execute e) refl plain
  where
    go : (b : Bool) → lets_execute e ≡ b → (not b || list_all is_plain_clause e.cond.clauses) ≡ true → grants groups p r e ≡ look_of groups x e
    go false free plain = no_execute groups x p r is e.args e.perms.bits e.cond free ∙ sym (no_execute groups x nobody (execute_request x) (own_request x) e.args e.perms.bits e.cond free)
    go true lets plain = rw (clauses-same groups x p r is e.cond.clauses plain, is.perm, is.args) refl

-- Lines that change nothing that it finds

-- a line without the permission, or one that grants it with no permissions at all
abbrev pub Blind : Groups → Execute → Entry → Type 0
Blind groups x line = (has_permission line.perms.bits 0 ≡ false) ⊎ ((bits : ℕ) → look_of groups x (record line { perms = record { bits = bits } }) ≡ None)

-- a line of another kind, or without the permission
pub blind-quiet : (groups : Groups) (x : Execute) (args : Args) (bits : ℕ) (cond : Cond) → (let line : Entry = record { args = args; perms = record { bits = bits }; cond = cond } in lets_execute line ≡ false → Blind groups x line)
blind-quiet groups x (Args.Path n) bits cond free = inl free
blind-quiet groups x (Args.Execute n prefer) bits cond free = inl free
blind-quiet groups x (Args.PathNumber n k) bits cond free = inr (λ b. no_execute groups x nobody (execute_request x) (own_request x) (Args.PathNumber n k) b cond refl)
blind-quiet groups x (Args.Device n a b c) bits cond free = inr (λ k. no_execute groups x nobody (execute_request x) (own_request x) (Args.Device n a b c) k cond refl)
blind-quiet groups x (Args.Path2 n m) bits cond free = inr (λ b. no_execute groups x nobody (execute_request x) (own_request x) (Args.Path2 n m) b cond refl)
blind-quiet groups x (Args.Mount d q k f) bits cond free = inr (λ b. no_execute groups x nobody (execute_request x) (own_request x) (Args.Mount d q k f) b cond refl)
blind-quiet groups x (Args.Inet k a q) bits cond free = inr (λ b. no_execute groups x nobody (execute_request x) (own_request x) (Args.Inet k a q) b cond refl)
blind-quiet groups x (Args.Unix k n) bits cond free = inr (λ b. no_execute groups x nobody (execute_request x) (own_request x) (Args.Unix k n) b cond refl)
blind-quiet groups x (Args.Env n) bits cond free = inr (λ b. no_execute groups x nobody (execute_request x) (own_request x) (Args.Env n) b cond refl)
blind-quiet groups x (Args.Manual n) bits cond free = inr (λ b. no_execute groups x nobody (execute_request x) (own_request x) (Args.Manual n) b cond refl)

max_zero : (b c : ℕ) → c < 2 → (c == 1) ≡ false → (max b c == 1) ≡ (b == 1)
max_zero b c lt e = let z : c ≡ 0 = zero_of c lt (eqb-false c 1 e) in rw z (rw (max-zero b) refl)
  where
    zero_of : (c : ℕ) → c < 2 → (c ≡ 1 → ⊥) → c ≡ 0
    zero_of c lt ne = omega arith

    max-zero : (b : ℕ) → max b 0 ≡ b
    max-zero b = omega arith

-- an entry and a line that share their arguments and condition
abbrev pub joined : Entry → Entry → Entry
joined e line = record e { perms = record { bits = bit_or e.perms.bits line.perms.bits } }

pub shares : (e line : Entry) → same_line e line ≡ true → (e.args ≡ line.args) × (e.cond ≡ line.cond)
shares e line h = let parts = and_parts (args_equal e.args line.args) (conds_equal e.cond line.cond) h in (same_args.sound e.args line.args parts.0, same_conds.sound e.cond line.cond parts.1)

module _ (groups : Groups) (x : Execute) (line : Entry) where
  pub blind-line : Blind groups x line → look_of groups x line ≡ None
  unfolding grants
  blind-line (inl free) = rw free refl
  blind-line (inr none) = none line.perms.bits

  pub blind-joined : Blind groups x line → (e : Entry) → same_line e line ≡ true → look_of groups x (joined e line) ≡ look_of groups x e
  unfolding grants
  blind-joined (inl free) e same = rw (bit_at_or e.perms.bits line.perms.bits 0, max_zero (bit_at e.perms.bits 0) (bit_at line.perms.bits 0) (bit_at-lt line.perms.bits 0) free) refl
  blind-joined (inr none) e same =
      let s = shares e line same in
      let after : look_of groups x (joined e line) ≡ None = rw (s.0, s.1) (none (bit_or e.perms.bits line.perms.bits)) in
      let before : look_of groups x e ≡ None = rw (s.0, s.1) (none e.perms.bits) in
      after ∙ sym before

-- The line that is learned for an execute

abbrev in_word : Groups → Word → Word → Bool
in_word groups word other = beq (is_some (name_in groups (NameUnion.One (literal word)) other)) true

-- what the line of y, with these permissions, grants x
abbrev line_look : Groups → Execute → Execute → ℕ → Option NamePlace
line_look groups x y bits = when (has_permission bits 0 && (in_word groups y.real x.real && (in_word groups y.argument x.argument && true))) (name_in groups (NameUnion.One (literal y.name)) x.name)

line-look : (groups : Groups) (x y : Execute) (bits : ℕ) → look_of groups x (record (execute_line y) { perms = record { bits = bits } }) ≡ line_look groups x y bits
unfolding grants holds args_grant clause_holds word_of learned_line
line-look groups x y bits = rw (literal-name x.name) refl

name-own : (groups : Groups) (word : Word) → name_in groups (NameUnion.One (literal word)) word ≡ Some NamePlace.Own
unfolding name_in
name-own groups word = rw (literal-own word) refl

name-other : (groups : Groups) (word other : Word) → (other ≡ word → ⊥) → name_in groups (NameUnion.One (literal word)) other ≡ None
unfolding name_in
name-other groups word other ne = go (matches (literal word) other) refl
  where
    go : (b : Bool) → matches (literal word) other ≡ b → (if b then Some NamePlace.Own else None) ≡ None
    go true e = absurd (ne (literal-alone word other e))
    go false e = refl

-- with the permission it grants its own execute
pub own-look : (groups : Groups) (x : Execute) (bits : ℕ) → has_permission bits 0 ≡ true → look_of groups x (record (execute_line x) { perms = record { bits = bits } }) ≡ Some NamePlace.Own
own-look groups x bits has = line-look groups x x bits ∙ rw (has, name-own groups x.real, name-own groups x.argument, name-own groups x.name) refl

-- without it, it doesn't
pub own-has : (groups : Groups) (x : Execute) (bits : ℕ) (name : NamePlace) → look_of groups x (record (execute_line x) { perms = record { bits = bits } }) ≡ Some name → has_permission bits 0 ≡ true
own-has groups x bits name is = go (has_permission bits 0) refl (sym (line-look groups x x bits) ∙ is)
  where
    go : (b : Bool) → has_permission bits 0 ≡ b → line_look groups x x bits ≡ Some name → has_permission bits 0 ≡ true
    go true e h = e
    go false e h = absurd (let none : None ≡ Some name = rw e at h in cc)

word_or_not : (v w : Word) → (v ≡ w) ⊎ (v ≡ w → ⊥)
word_or_not v w = go (texts_equal v w) refl
  where
    go : (b : Bool) → texts_equal v w ≡ b → (v ≡ w) ⊎ (v ≡ w → ⊥)
    go true e = inl (same_texts.sound v w e)
    go false e = inr (λ same. true≢false (sym (same_texts.full v) ∙ ap (texts_equal v) same ∙ e))

abbrev execute : Word → Word → Word → Execute
execute name real argument = record { name = name; real = real; argument = argument }

-- another line grants it nothing
pub own_or_blind : (groups : Groups) (x y : Execute) → (x ≡ y) ⊎ Blind groups x (execute_line y)
own_or_blind groups x y = by_name (word_or_not x.name y.name)
  where
    out : (a b c : Bool) → a ≡ false → (c && (a && (b && true))) ≡ false
    out a b true e = rw e refl
    out a b false e = refl

    later : (a b c : Bool) → b ≡ false → (c && (a && (b && true))) ≡ false
    later true b true e = rw e refl
    later false b true e = refl
    later a b false e = refl

    real-out : (x.real ≡ y.real → ⊥) → (bits : ℕ) → line_look groups x y bits ≡ None
    real-out ne bits = rw (out (in_word groups y.real x.real) (in_word groups y.argument x.argument) (has_permission bits 0) (rw (name-other groups y.real x.real ne) refl)) refl

    argument-out : (x.argument ≡ y.argument → ⊥) → (bits : ℕ) → line_look groups x y bits ≡ None
    argument-out ne bits = rw (later (in_word groups y.real x.real) (in_word groups y.argument x.argument) (has_permission bits 0) (rw (name-other groups y.argument x.argument ne) refl)) refl

    by_argument : x.name ≡ y.name → x.real ≡ y.real → (x.argument ≡ y.argument) ⊎ (x.argument ≡ y.argument → ⊥) → (x ≡ y) ⊎ Blind groups x (execute_line y)
    by_argument name real (inl argument) = inl (ap (λ v. execute v x.real x.argument) name ∙ ap (λ v. execute y.name v x.argument) real ∙ ap (λ v. execute y.name y.real v) argument)
    by_argument name real (inr ne) = inr (inr (λ bits. line-look groups x y bits ∙ argument-out ne bits))

    by_real : x.name ≡ y.name → (x.real ≡ y.real) ⊎ (x.real ≡ y.real → ⊥) → (x ≡ y) ⊎ Blind groups x (execute_line y)
    by_real name (inl real) = by_argument name real (word_or_not x.argument y.argument)
    by_real name (inr ne) = inr (inr (λ bits. line-look groups x y bits ∙ real-out ne bits))

    by_name : (x.name ≡ y.name) ⊎ (x.name ≡ y.name → ⊥) → (x ≡ y) ⊎ Blind groups x (execute_line y)
    by_name (inl name) = by_real name (word_or_not x.real y.real)
    by_name (inr ne) = inr (inr (λ bits. line-look groups x y bits ∙ rw (name-other groups y.name x.name ne) (none-when _)))
