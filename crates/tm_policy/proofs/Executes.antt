-- What another name in place of an execute's path leaves as it was.
use Rattle.std.proofs.Common.{◌≡◌, ℕ, ◌==◌, Bool, true, ◌&&◌, List, [], ◌∷◌, refl, sym, ap, ◌∙◌}
use Rattle.std.specs.Prelude.{Option, Some, None, slice_get}
use Rattle.std.specs.List.{list_all}
use Rattle.tm_word.specs.Prelude.{Word, literal}
use Rattle.tm_word.proofs.Literals.{literal-name}
use Rattle.tm_rules.specs.Types.{Args, Attr, Attributes, Clause, Cond, Entry, Groups, NameUnion, Proc, Request, Right, argument_words}
use Rattle.tm_rules.specs.Prelude.{args_grant, clause_holds, grants, has_permission, holds, is_execute, number_of, when, word_of}
use Rattle.tm_policy.specs.Searching.{asked_as}

-- requests with the same attributes, both executes or neither
module _ (r s : Request) (kind : is_execute r ≡ is_execute s) (attributes : r.attributes ≡ s.attributes) where
  same_number : (attr : Attr) (process : Proc) → number_of attr process r ≡ number_of attr process s
  unfolding number_of
  same_number (Attr.Task field) process = refl
  same_number Attr.Argc process = rw (kind, attributes) refl
  same_number Attr.Envc process = rw (kind, attributes) refl
  same_number (Attr.Stat place field) process = rw attributes refl
  same_number (Attr.Kind place) process = refl
  same_number (Attr.Argv n) process = refl
  same_number (Attr.Envp n) process = refl
  same_number Attr.RealPath process = refl
  same_number Attr.Target process = refl

  same_word : (attr : Attr) → word_of attr r ≡ word_of attr s
  unfolding word_of
  same_word (Attr.Task field) = refl
  same_word Attr.Argc = refl
  same_word Attr.Envc = refl
  same_word (Attr.Stat place field) = refl
  same_word (Attr.Kind place) = refl
  same_word (Attr.Argv n) = rw (kind, attributes) refl
  same_word (Attr.Envp n) = rw (kind, attributes) refl
  same_word Attr.RealPath = rw (kind, attributes) refl
  same_word Attr.Target = rw attributes refl

  abbrev clause : Attr → Bool → Right → Clause
  clause left equal right = record { left = left; equal = equal; right = right }

  same_clause : (groups : Groups) (process : Proc) (left : Attr) (equal : Bool) (right : Right) → clause_holds groups process r (clause left equal right) ≡ clause_holds groups process s (clause left equal right)
  unfolding clause_holds
  same_clause groups process left equal (Right.Numbers union) = rw (same_number left process) refl
  same_clause groups process left equal (Right.Attr attr) = rw (same_number left process, same_number attr process) refl
  same_clause groups process (Attr.Task field) equal (Right.Kind kind) = refl
  same_clause groups process Attr.Argc equal (Right.Kind kind) = refl
  same_clause groups process Attr.Envc equal (Right.Kind kind) = refl
  same_clause groups process (Attr.Stat place field) equal (Right.Kind kind) = refl
  same_clause groups process (Attr.Kind place) equal (Right.Kind kind) = rw attributes refl
  same_clause groups process (Attr.Argv n) equal (Right.Kind kind) = refl
  same_clause groups process (Attr.Envp n) equal (Right.Kind kind) = refl
  same_clause groups process Attr.RealPath equal (Right.Kind kind) = refl
  same_clause groups process Attr.Target equal (Right.Kind kind) = refl
  same_clause groups process left equal (Right.Name union) = rw (same_word left) refl
  same_clause groups process left equal Right.Null = rw (kind, same_word left) refl

  same_clauses : (groups : Groups) (process : Proc) (clauses : List Clause) → list_all (clause_holds groups process r) clauses ≡ list_all (clause_holds groups process s) clauses
  same_clauses groups process [] = refl
  same_clauses groups process (c ∷ cs) =
      ap (λ b. b && list_all (clause_holds groups process r) cs) (same_clause groups process c.left c.equal c.right)
      ∙ ap (λ b. clause_holds groups process s c && b) (same_clauses groups process cs)

  -- the same conditions hold of both
  pub same_holds : (cond : Cond) (groups : Groups) (process : Proc) → holds cond groups process r ≡ holds cond groups process s
  unfolding holds
  same_holds cond groups process = same_clauses groups process cond.clauses

abbrev request_of : Args → ℕ → Attributes → Request
request_of args perm attributes = record { args = args; perm = perm; attributes = attributes }

-- an execute has the permission at place 0
perm_zero : (args : Args) (perm : ℕ) (attributes : Attributes) → is_execute (request_of args perm attributes) ≡ true → (perm == 0) ≡ true
perm_zero (Args.Path n) perm attributes h = h
perm_zero (Args.Execute n prefer) perm attributes h = absurd cc
perm_zero (Args.PathNumber n k) perm attributes h = absurd cc
perm_zero (Args.Device n a b c) perm attributes h = absurd cc
perm_zero (Args.Path2 n m) perm attributes h = absurd cc
perm_zero (Args.Mount d p k f) perm attributes h = absurd cc
perm_zero (Args.Inet k a p) perm attributes h = absurd cc
perm_zero (Args.Unix k n) perm attributes h = absurd cc
perm_zero (Args.Env n) perm attributes h = absurd cc
perm_zero (Args.Manual d) perm attributes h = absurd cc

-- with another path an execute is an execute
pub still_execute : (request : Request) (path : Word) → is_execute request ≡ true → is_execute (asked_as request (Some path)) ≡ is_execute request
still_execute request path h = perm_zero request.args request.perm request.attributes h ∙ sym h

-- whether an entry grants an execute with another name in place of its path
pub grants_as_path : (groups : Groups) (process : Proc) (request : Request) (path : Word) (entry : Entry) → is_execute request ≡ true
    → grants groups process (asked_as request (Some path)) entry
    ≡ when (has_permission entry.perms.bits request.perm && holds entry.cond groups process request) (args_grant groups entry.args (Args.Path (NameUnion.One (literal path))))
unfolding grants
grants_as_path groups process request path entry h =
    ap (λ b. when (has_permission entry.perms.bits request.perm && b) (args_grant groups entry.args (Args.Path (NameUnion.One (literal path)))))
    (same_holds (asked_as request (Some path)) request (still_execute request path h) refl entry.cond groups process)

-- another name that is given is the first one that is asked for
pub asked_path : (request : Request) (path : Option Word) (word : Word) → path ≡ Some word → Some word ≡ slice_get (argument_words (asked_as request path).args) 0
asked_path request None word e = absurd cc
asked_path request (Some name) word e = let same : word ≡ name = cc in ap Some (same ∙ sym (literal-name name))
