-- The line that is learned for a request grants it.
use Rattle.std.proofs.Common.{◌≡◌, ℕ, Bool, true, false, refl, sym, ◌∙◌, subst, arith}
use Rattle.std.specs.Prelude.{◌^◌, Option, Some, None, ◌&&◌, ◌||◌, ◌==◌, not, IsSome, is_some, nat_le, nat_lt, slice_get}
use Rattle.std.specs.List.{list_any, list_all}
use Rattle.std.proofs.lemmas.Bool.{and_parts, and_from, eq-eqb, le-leb}
use Rattle.std.proofs.lemmas.List.Folds.{list_all-append}
use Rattle.std.proofs.lemmas.Nat.Bits.{bit_at-pow_same}
use Rattle.tm_types.specs.Words.{Text, Word, Pattern}
use Rattle.tm_types.specs.Matching.{matches, is_empty}
use Rattle.tm_types.specs.Printing.{literal, literal_word}
use Rattle.tm_types.proofs.WordLiterals.{literal-own, literal-name}
use Rattle.tm_rules.specs.Types.{Addr, AddrUnion, Args, Attr, Attributes, Entry, Groups, NamePlace, NameUnion, Namespace, Number, NumberUnion, Proc, Request, function_of, name_value}
use Rattle.tm_types.specs.Addresses.{addr_le}
use Rattle.tm_rules.specs.Prelude.{addr_in, addr_value, addrs_equal, aggregated, are_literal, args_grant, clause_holds, grants, has_its_attributes, has_permission, holds, inet_place, is_addr, is_addr_value, is_execute, is_literal, is_manual, is_name, is_number, is_request, is_word, is_written, learned_line, line_of, name_in, number_in, number_value, numbers_equal, path_of, permission, searched, unix_place, word_of}
use Rattle.tm_types.specs.Spelling.{are_bytes}
use Rattle.tm_types.specs.WordTexts.{begins_with_byte}
use Rattle.tm_rules.proofs.EqualityLaws.{same_patterns, same_number, same_addrs, same_texts}

-- Arguments

le_self : (n : ℕ) → nat_le n n ≡ true
le_self n = le-leb n n (omega arith)

pattern-own : (p : Pattern) → is_written p ≡ true → matches p (literal_word p) ≡ true
pattern-own p h =
    let filled = and_parts (is_literal p && not (is_empty (literal_word p))) (are_bytes (literal_word p)) h in
    let literally : p ≡ literal (literal_word p) = same_patterns.sound p (literal (literal_word p)) (and_parts (is_literal p) (not (is_empty (literal_word p))) filled.0).0 in
    subst (λ q. matches q (literal_word p) ≡ true) (sym literally) (literal-own (literal_word p))

name-own : (groups : Groups) (n : NameUnion) → is_name n ≡ true → name_in groups n (name_value n) ≡ Some NamePlace.Own
unfolding name_in
name-own groups (NameUnion.One p) h = rw (pattern-own p (and_parts (is_written p) (not (begins_with_byte 64 (literal_word p))) h).0) refl
name-own groups (NameUnion.Group g) h = absurd cc

number-own : (groups : Groups) (k : NumberUnion) → is_number k ≡ true → number_in groups k (number_value k) ≡ true
unfolding number_in
number-own groups (NumberUnion.One range) h =
    let single = and_parts (numbers_equal range.low range.high) (nat_lt range.low.value (2 ^ 64)) h in
    subst (λ (high : Number). (nat_le range.low.value range.low.value && nat_le range.low.value high.value) ≡ true) (same_number.sound range.low range.high single.0)
    (and_from (nat_le range.low.value range.low.value) (nat_le range.low.value range.low.value) (le_self range.low.value) (le_self range.low.value))
number-own groups (NumberUnion.Group g) h = absurd cc

addr_le-self : (a : Addr) → addr_le a a ≡ true
addr_le-self (Addr.V4 a) = le_self a
addr_le-self (Addr.V6 a) = le_self a

addr-own : (groups : Groups) (k : AddrUnion) → is_addr k ≡ true → addr_in groups k (addr_value k) ≡ true
unfolding addr_in
addr-own groups (AddrUnion.One range) h =
    let single = and_parts (addrs_equal range.low range.high) (is_addr_value range.low) h in
    subst (λ (high : Addr). (addr_le range.low range.low && addr_le range.low high) ≡ true) (same_addrs.sound range.low range.high single.0)
    (and_from (addr_le range.low range.low) (addr_le range.low range.low) (addr_le-self range.low) (addr_le-self range.low))
addr-own groups (AddrUnion.Group g) h = absurd cc

-- literal arguments are in themselves
pub args-own : (groups : Groups) (is_path : Text → Bool) (args : Args) → are_literal is_path args ≡ true → IsSome (args_grant groups args args)
unfolding args_grant
args-own groups is_path (Args.Path n) h = rw (name-own groups n h) refl
args-own groups is_path (Args.Execute n prefer) h = absurd cc
args-own groups is_path (Args.PathNumber n k) h =
    let a = and_parts (is_name n) (is_number k) h in
    rw (number-own groups k a.1, name-own groups n a.0) refl
args-own groups is_path (Args.Device n a b c) h =
    let x = and_parts (is_name n && is_number a && is_number b) (is_number c) h in
    let y = and_parts (is_name n && is_number a) (is_number b) x.0 in
    let z = and_parts (is_name n) (is_number a) y.0 in
    rw (number-own groups a z.1, number-own groups b y.1, number-own groups c x.1, name-own groups n z.0) refl
args-own groups is_path (Args.Path2 n m) h =
    let a = and_parts (is_name n) (is_name m) h in
    rw (name-own groups m a.1, name-own groups n a.0) refl
args-own groups is_path (Args.Mount d p k f) h =
    let x = and_parts (is_name d && is_name p && is_name k) (is_number f) h in
    let y = and_parts (is_name d && is_name p) (is_name k) x.0 in
    let z = and_parts (is_name d) (is_name p) y.0 in
    rw (name-own groups p z.1, name-own groups k y.1, number-own groups f x.1, name-own groups d z.0) refl
args-own groups is_path (Args.Inet k a p) h =
    let x = and_parts (is_addr a) (is_number p) h in
    rw (eq-eqb (inet_place k) (inet_place k) refl, addr-own groups a x.0, number-own groups p x.1) refl
args-own groups is_path (Args.Unix k n) h = rw (eq-eqb (unix_place k) (unix_place k) refl, name-own groups n h) refl
args-own groups is_path (Args.Env n) h = rw (pattern-own n (and_parts (is_written n) (not (list_any (λ b. b == 61) (literal_word n))) h).0) refl
args-own groups is_path (Args.Manual d) h = rw (same_texts.full d) refl

-- Conditions

-- an attribute is the word that it is
words-hold : (groups : Groups) (process : Proc) (request : Request) (attr : Attr) (o : Option Word) → word_of attr request ≡ o → list_all (clause_holds groups process request) (is_word attr o) ≡ true
unfolding clause_holds name_in
words-hold groups process request attr None e = refl
words-hold groups process request attr (Some word) e = rw (e, literal-own word) refl

-- only the permission at place 0 is an execute
execute-place : (args : Args) (perm : ℕ) (attributes : Attributes) → (let request : Request = record { args = args; perm = perm; attributes = attributes } in is_execute request ≡ true → (perm == 0) ≡ true)
execute-place (Args.Path n) perm attributes e = e
execute-place (Args.Execute n prefer) perm attributes e = absurd cc
execute-place (Args.PathNumber n k) perm attributes e = absurd cc
execute-place (Args.Device n a b c) perm attributes e = absurd cc
execute-place (Args.Path2 n m) perm attributes e = absurd cc
execute-place (Args.Mount d p k f) perm attributes e = absurd cc
execute-place (Args.Inet k a p) perm attributes e = absurd cc
execute-place (Args.Unix k n) perm attributes e = absurd cc
execute-place (Args.Env n) perm attributes e = absurd cc
execute-place (Args.Manual d) perm attributes e = absurd cc

pub execute-first : (request : Request) → is_execute request ≡ true → (request.perm == 0) ≡ true
execute-first request e = execute-place request.args request.perm request.attributes e

-- Grants

-- an entry with the permission, whose condition holds and whose arguments have those of the
-- request, grants it
grants-by : (groups : Groups) (process : Proc) (request : Request) (entry : Entry) → has_permission entry.perms.bits request.perm ≡ true → holds entry.cond groups process request ≡ true → IsSome (args_grant groups entry.args request.args) → IsSome (grants groups process request entry)
unfolding grants
grants-by groups process request entry may holds_ has = rw (may, holds_) has

-- what an entry with the arguments and the condition of a learned line has of its request
record Owns (groups : Groups) (process : Proc) (request asked : Request) (line : Entry) : Type 0 where
  perm : asked.perm ≡ request.perm
  cond : holds line.cond groups process asked ≡ true
  args : IsSome (args_grant groups line.args asked.args)

literal-args : (groups : Groups) (name : Word) → IsSome (args_grant groups (Args.Path (NameUnion.One (literal name))) (Args.Path (NameUnion.One (literal name))))
unfolding args_grant name_in
literal-args groups name = rw (literal-name name, literal-own name) refl

owns : (is_path : Text → Bool) (groups : Groups) (process : Proc) (ns : Namespace) (request : Request) → is_request is_path request ≡ true → Owns groups process request (searched ns request) (line_of ns request)
unfolding learned_line holds is_request word_of
owns is_path groups process ns request is = go (is_execute request) refl
  where
    asked : Bool
    asked = is_some (function_of request.args request.perm) || (is_manual request && request.perm == 0)

    literally : are_literal is_path request.args ≡ true
    literally = (and_parts (are_literal is_path request.args) asked (and_parts (are_literal is_path request.args && asked) (has_its_attributes request) is).0).0

    name : Word
    name = aggregated ns (path_of request)

    found : Request
    found = record request { args = Args.Path (NameUnion.One (literal name)) }

    -- it has the words of an execute
    real : is_execute request ≡ true → word_of Attr.RealPath found ≡ request.attributes.real_path
    real e = rw (execute-first request e) refl

    argument : is_execute request ≡ true → word_of (Attr.Argv 0) found ≡ slice_get request.attributes.argv 0
    argument e = rw (execute-first request e) refl

    go : (b : Bool) → is_execute request ≡ b → Owns groups process request (searched ns request) (line_of ns request)
    go true e = rw e (record {
      perm = refl;
      cond = list_all-append (clause_holds groups process found) (is_word Attr.RealPath request.attributes.real_path) (is_word (Attr.Argv 0) (slice_get request.attributes.argv 0))
          ∙ rw (words-hold groups process found Attr.RealPath request.attributes.real_path (real e), words-hold groups process found (Attr.Argv 0) (slice_get request.attributes.argv 0) (argument e)) refl;
      args = literal-args groups name;
    })
    go false e = rw e (record { perm = refl; cond = words-hold groups process request Attr.Target request.attributes.target refl; args = args-own groups is_path request.args literally })

-- whatever has the arguments and the condition of the line that is learned for a request, and its
-- permission, grants it
pub line-grants : (is_path : Text → Bool) (groups : Groups) (process : Proc) (ns : Namespace) (request : Request) (entry : Entry) → is_request is_path request ≡ true → entry.args ≡ (line_of ns request).args → entry.cond ≡ (line_of ns request).cond → has_permission entry.perms.bits request.perm ≡ true → IsSome (grants groups process (searched ns request) entry)
line-grants is_path groups process ns request entry is args cond may =
    let own : Owns groups process request (searched ns request) (line_of ns request) = owns is_path groups process ns request is in
    grants-by groups process (searched ns request) entry (rw own.perm may) (rw cond own.cond) (rw args own.args)

-- its permission is the one of the request
pub line-permission : (ns : Namespace) (request : Request) → (line_of ns request).perms.bits ≡ permission request.perm
unfolding learned_line
line-permission ns request = go (is_execute request) refl
  where
    go : (b : Bool) → is_execute request ≡ b → (line_of ns request).perms.bits ≡ permission request.perm
    go true e = rw e refl
    go false e = rw e refl

pub has-own : (place : ℕ) → has_permission (permission place) place ≡ true
has-own place = eq-eqb _ 1 (bit_at-pow_same place)

-- the line that is learned for a request grants it, whatever the groups and the process
pub own_request : (is_path : Text → Bool) (groups : Groups) (process : Proc) (ns : Namespace) (request : Request) → is_request is_path request ≡ true → IsSome (grants groups process (searched ns request) (line_of ns request))
own_request is_path groups process ns request is = line-grants is_path groups process ns request (line_of ns request) is refl refl (rw (line-permission ns request) (has-own request.perm))
