-- A request that a trace can write is its line and its attributes; it can be asked of the engine,
-- and its line is one of a policy.
use Rattle.std.proofs.Common.{◌≡◌, ℕ, ◌^◌, ◌==◌, nat_lt, Bool, true, false, cond, ◌&&◌, ◌||◌, not, List, [], ◌∷◌, Option, Some, None, refl, sym, ap, subst, ◌∙◌}
use Rattle.std.specs.Prelude.{is_some}
use Rattle.std.specs.Bool.{beq}
use Rattle.std.specs.List.{list_all}
use Rattle.std.proofs.lemmas.Bool.{eqb-true, ltb-true}
use Rattle.tm_word.specs.Prelude.{Word, are_bytes, begins_with_byte, is_empty, is_word, spelled_pattern}
use Rattle.tm_word.proofs.Literals.{literal-name}
use Rattle.tm_line.specs.Grammar.{is_right}
use Rattle.tm_rules.specs.Types.{Args, Attributes, NameUnion, Request, name_value}
use Rattle.tm_rules.specs.Prelude.{bytes_if, has_bytes, has_exec, has_no_exec, is_addr, is_domain_name, is_execute, is_name, is_number, is_path_word, is_request, is_symlink, path_of}
use Rattle.tm_line.specs.Names.{is_path}
use Rattle.tm_entry.specs.Written.{is_name_byte}
use Rattle.tm_entry.proofs.LeftLaws.{name_bytes}
use Rattle.tm_line.specs.declared.permissions.Row.{Row}
use Rattle.tm_line.specs.Written as lines
use Rattle.tm_line.proofs.Steps.{both, all}
use Rattle.tm_entry.specs.FileLines.{is_file}
use Rattle.tm_entry.proofs.FileText.{file_are}
use Rattle.tm_entry.specs.NetLines.{inet_permissions, unix_permissions, is_net, is_env}
use Rattle.tm_entry.proofs.NetText.{net_are}
use Rattle.tm_entry.specs.Entries.{acl_words}
use Rattle.tm_trace.specs.Attributes.{request, executes, links, is_complete}
use Rattle.tm_trace.specs.Written.{rises, names_once, are_names, has_word, is_trace_request}
use Rattle.tm_trace.proofs.Names.{is_at, is_env_name, named, name_line, env_line}
use Rattle.tm_trace.proofs.Singles.{number_line, address_line}
use Rattle.tm_trace.proofs.Perms.{width, perm_set}
use Rattle.tm_trace.proofs.RequestLaws.{is_line, line_words}
use Rattle.tm_trace.proofs.Asking.{exec_kept, link_kept, Given, Parts, parts, whole, line_by, row_parts}

-- ---- its attributes, from what it says

-- what an execute has
pub record HasExec (r : Request) : Type 0 where
  pub path : is_path_word (path_of r) ≡ true
  pub real : has_bytes r.attributes.real_path ≡ true
  pub some : not (is_empty r.attributes.argv) ≡ true
  pub argv : list_all are_bytes r.attributes.argv ≡ true
  pub envp : list_all (λ pair. are_bytes pair.0 && are_bytes pair.1) r.attributes.envp ≡ true

pub exec_parts : (r : Request) → has_exec r ≡ true → HasExec r
exec_parts r h =
    let path = is_path_word (path_of r) in
    let real = has_bytes r.attributes.real_path in
    let some = not (is_empty r.attributes.argv) in
    let argv = list_all are_bytes r.attributes.argv in
    let a = both (path && real && some && argv) (list_all (λ pair. are_bytes pair.0 && are_bytes pair.1) r.attributes.envp) h in
    let b = both (path && real && some) argv a.0 in
    let c = both (path && real) some b.0 in
    let d = both path real c.0 in
    record { path = d.0; real = d.1; some = c.1; argv = b.1; envp = a.1 }

exec_whole : (r : Request) → HasExec r → has_exec r ≡ true
exec_whole r p =
    let path = is_path_word (path_of r) in
    let real = has_bytes r.attributes.real_path in
    let some = not (is_empty r.attributes.argv) in
    let argv = list_all are_bytes r.attributes.argv in
    all (path && real && some && argv) (list_all (λ pair. are_bytes pair.0 && are_bytes pair.1) r.attributes.envp)
    (all (path && real && some) argv (all (path && real) some (all path real p.path p.real) p.some) p.argv) p.envp

pub there_bytes : (o : Option Word) → has_bytes o ≡ true → bytes_if o ≡ true
there_bytes None h = absurd cc
there_bytes (Some w) h = h

there_some : (o : Option Word) → has_bytes o ≡ true → is_some o ≡ true
there_some None h = absurd cc
there_some (Some w) h = refl

both_there : (o : Option Word) → bytes_if o ≡ true → is_some o ≡ true → has_bytes o ≡ true
both_there None h k = absurd cc
both_there (Some w) h k = h

none_bytes : (o : Option Word) → not (is_some o) ≡ true → bytes_if o ≡ true
none_bytes None h = refl
none_bytes (Some w) h = absurd cc

empty_all : {A : Type 0} (p : A → Bool) (xs : List A) → is_empty xs ≡ true → list_all p xs ≡ true
empty_all p [] h = refl
empty_all p (x ∷ xs) h = absurd cc

seconds : (envp : List (Word × Word)) → list_all (λ pair. are_bytes pair.0 && are_bytes pair.1) envp ≡ true → list_all (λ pair. are_bytes pair.1) envp ≡ true
seconds [] h = refl
seconds (pair ∷ envp) h =
    let t = both (are_bytes pair.0 && are_bytes pair.1) (list_all (λ p. are_bytes p.0 && are_bytes p.1) envp) h in
    all (are_bytes pair.1) (list_all (λ p. are_bytes p.1) envp) (both (are_bytes pair.0) (are_bytes pair.1) t.0).1 (seconds envp t.1)

pairs : (envp : List (Word × Word)) → are_names envp ≡ true → list_all (λ pair. are_bytes pair.1) envp ≡ true → list_all (λ pair. are_bytes pair.0 && are_bytes pair.1) envp ≡ true
pairs [] h k = refl
pairs (pair ∷ envp) h k =
    let t = both (list_all is_name_byte pair.0) (are_names envp) h in
    let u = both (are_bytes pair.1) (list_all (λ p. are_bytes p.1) envp) k in
    all (are_bytes pair.0 && are_bytes pair.1) (list_all (λ p. are_bytes p.0 && are_bytes p.1) envp) (all (are_bytes pair.0) (are_bytes pair.1) (name_bytes pair.0 t.0) u.0) (pairs envp t.1 u.1)

-- the three of an execute that are of bytes
record Words (at : Attributes) : Type 0 where
  pub real : bytes_if at.real_path ≡ true
  pub argv : list_all are_bytes at.argv ≡ true
  pub values : list_all (λ pair. are_bytes pair.1) at.envp ≡ true

words_by : (r : Request) (t : Bool) → cond t (has_exec r) (has_no_exec r) ≡ true → Words r.attributes
words_by r true h = let p = exec_parts r h in record { real = there_bytes r.attributes.real_path p.real; argv = p.argv; values = seconds r.attributes.envp p.envp }
words_by r false h =
    let b = both (not (is_some r.attributes.real_path) && is_empty r.attributes.argv) (is_empty r.attributes.envp) h in
    let a = both (not (is_some r.attributes.real_path)) (is_empty r.attributes.argv) b.0 in
    record { real = none_bytes r.attributes.real_path a.0; argv = empty_all are_bytes r.attributes.argv a.1; values = empty_all (λ pair. are_bytes pair.1) r.attributes.envp b.1 }

beq_false : (a b : Bool) → beq a b ≡ true → a ≡ false → b ≡ false
beq_false false false h e = refl
beq_false false true h e = absurd cc
beq_false true b h e = absurd cc

-- what is said of a request of a trace
pub record Said (r : Request) : Type 0 where
  pub request : is_request is_path r ≡ true
  pub names : are_names r.attributes.envp ≡ true
  pub once : names_once r.attributes.envp ≡ true
  pub written : list_all has_word r.attributes.stats ≡ true
  pub order : rises r.attributes.stats ≡ true

pub said : (r : Request) → is_trace_request r ≡ true → Said r
unfolding is_trace_request
said r h =
    let asked = is_request is_path r in
    let names = are_names r.attributes.envp in
    let once = names_once r.attributes.envp in
    let written = list_all has_word r.attributes.stats in
    let a = both (asked && names && once && written) (rises r.attributes.stats) h in
    let b = both (asked && names && once) written a.0 in
    let c = both (asked && names) once b.0 in
    let d = both asked names c.0 in
    record { request = d.0; names = d.1; once = c.1; written = b.1; order = a.1 }

pub line_of_request : (r : Request) → is_trace_request r ≡ true → is_line r.args r.perm ≡ true
line_of_request r h = line_by r.args r.perm r.attributes (parts r (said r h).request)

pub given_by : (r : Request) → is_trace_request r ≡ true → Given r.args r.perm r.attributes
given_by r h =
    let s = said r h in
    let p = parts r s.request in
    let w = words_by r (is_execute r) p.exec in
    record {
      exec = λ e. subst (λ t. cond t (has_exec r) (has_no_exec r) ≡ true) (exec_kept r.args r.perm r.attributes ∙ e) p.exec;
      real = w.real;
      argv = w.argv;
      names = s.names;
      values = w.values;
      once = s.once;
      link = λ e. beq_false (is_symlink r) (is_some r.attributes.target) p.link (link_kept r.args r.perm r.attributes ∙ e);
      target = p.target;
      stats = p.stats;
      low = p.low;
      written = s.written;
      order = s.order;
    }

complete_exec : (r : Request) (t : Bool) → cond t (has_exec r) (has_no_exec r) ≡ true → (not t || (is_some r.attributes.real_path && not (is_empty r.attributes.argv))) ≡ true
complete_exec r true h = let p = exec_parts r h in all (is_some r.attributes.real_path) (not (is_empty r.attributes.argv)) (there_some r.attributes.real_path p.real) p.some
complete_exec r false h = refl

complete_link : (a b : Bool) → beq a b ≡ true → (not a || b) ≡ true
complete_link true true h = refl
complete_link true false h = absurd cc
complete_link false b h = refl

pub complete_by : (r : Request) → is_trace_request r ≡ true → is_complete r.args r.perm r.attributes ≡ true
complete_by r h =
    let p = parts r (said r h).request in
    let exec : cond (executes r.args r.perm) (has_exec r) (has_no_exec r) ≡ true = subst (λ t. cond t (has_exec r) (has_no_exec r) ≡ true) (exec_kept r.args r.perm r.attributes) p.exec in
    let link : beq (links r.args r.perm) (is_some r.attributes.target) ≡ true = subst (λ t. beq t (is_some r.attributes.target) ≡ true) (link_kept r.args r.perm r.attributes) p.link in
    all (not (executes r.args r.perm) || (is_some r.attributes.real_path && not (is_empty r.attributes.argv))) (not (links r.args r.perm) || is_some r.attributes.target)
    (complete_exec r (executes r.args r.perm) exec) (complete_link (links r.args r.perm) (is_some r.attributes.target) link)

-- ---- and the other way round

name_bytes_of : (n : NameUnion) → is_name n ≡ true → are_bytes (name_value n) ≡ true
name_bytes_of n h = let t = named n h in subst (λ m. are_bytes (name_value m) ≡ true) (sym t.2) (ap are_bytes (literal-name (t.0 ∷ t.1)) ∙ t.3)

-- the path of an execute
exec_path : (a : Args) (perm : ℕ) (at : Attributes) → is_line a perm ≡ true → executes a perm ≡ true → is_path_word (path_of (request a perm at)) ≡ true
unfolding is_line
exec_path (Args.Path n) perm at h e =
    let s = both (is_name n && is_at perm n) (nat_lt perm (width Row.Path)) h in
    let t = both (is_name n) (is_at perm n) s.0 in
    let front : begins_with_byte 47 (name_value n) ≡ true = subst (λ z. (not z || begins_with_byte 47 (name_value n)) ≡ true) e t.1 in
    all (begins_with_byte 47 (name_value n)) (are_bytes (name_value n)) front (name_bytes_of n t.0)
exec_path (Args.Execute n prefer) perm at h e = absurd cc
exec_path (Args.PathNumber n k) perm at h e = absurd cc
exec_path (Args.Device n mode major minor) perm at h e = absurd cc
exec_path (Args.Path2 n m) perm at h e = absurd cc
exec_path (Args.Mount device dir kind flags) perm at h e = absurd cc
exec_path (Args.Inet kind address port) perm at h e = absurd cc
exec_path (Args.Unix kind n) perm at h e = absurd cc
exec_path (Args.Env p) perm at h e = absurd cc
exec_path (Args.Manual domain) perm at h e = absurd cc

module _ (a : Args) (perm : ℕ) (at : Attributes) (line : is_line a perm ≡ true) (g : Given a perm at) (complete : is_complete a perm at ≡ true) where
  abbrev r : Request
  r = request a perm at

  whole_parts : ((not (executes a perm) || (is_some at.real_path && not (is_empty at.argv))) ≡ true) × ((not (links a perm) || is_some at.target) ≡ true)
  whole_parts = both (not (executes a perm) || (is_some at.real_path && not (is_empty at.argv))) (not (links a perm) || is_some at.target) complete

  exec_by : (t : Bool) → executes a perm ≡ t → (not t || (is_some at.real_path && not (is_empty at.argv))) ≡ true → cond t (has_exec r) (has_no_exec r) ≡ true
  exec_by false e h = g.exec e
  exec_by true e h =
      let t = both (is_some at.real_path) (not (is_empty at.argv)) h in
      exec_whole r (record { path = exec_path a perm at line e; real = both_there at.real_path g.real t.0; some = t.1; argv = g.argv; envp = pairs at.envp g.names g.values })

  link_by : (t : Bool) → links a perm ≡ t → (not t || is_some at.target) ≡ true → beq t (is_some at.target) ≡ true
  link_by false e h = rw (g.link e) refl
  link_by true e h = rw h refl

  right_parts : Parts r
  right_parts =
      let p = row_parts a perm at line in
      record {
        literal = p.literal;
        perm = p.place;
        exec = subst (λ t. cond t (has_exec r) (has_no_exec r) ≡ true) (sym (exec_kept a perm at)) (exec_by (executes a perm) refl whole_parts.0);
        link = subst (λ t. beq t (is_some at.target) ≡ true) (sym (link_kept a perm at)) (link_by (links a perm) refl whole_parts.1);
        target = g.target;
        stats = g.stats;
        low = g.low;
      }

  pub right : is_trace_request (request a perm at) ≡ true
  unfolding is_trace_request
  right =
      let asked = is_request is_path r in
      let names = are_names at.envp in
      let once = names_once at.envp in
      let written = list_all has_word at.stats in
      all (asked && names && once && written) (rises at.stats)
      (all (asked && names && once) written (all (asked && names) once (all asked names (whole r right_parts) g.names) g.once) g.written) g.order

-- ---- its line is one of a policy, so that its printed words are words

two : (a b : Bool) → a ≡ true → b ≡ true → (a && b) ≡ true
two a b h k = all a b h k

three : (a b c : Bool) → a ≡ true → b ≡ true → c ≡ true → (a && b && c) ≡ true
three a b c h k l = all (a && b) c (all a b h k) l

five : (a b c d e : Bool) → a ≡ true → b ≡ true → c ≡ true → d ≡ true → e ≡ true → (a && b && c && d && e) ≡ true
five a b c d e h i j k l = all (a && b && c && d) e (all (a && b && c) d (three a b c h i j) k) l

set_at : (acl_row : Row) (perm : ℕ) → nat_lt perm (width acl_row) ≡ true → lines.is_set acl_row (2 ^ perm) ≡ true
set_at acl_row perm h = perm_set acl_row perm (ltb-true perm (width acl_row) h)

one_bit : (perm : ℕ) → (perm == 0) ≡ true → (2 ^ perm == 1) ≡ true
one_bit perm h = ap (λ k. 2 ^ k == 1) (eqb-true perm 0 h)

-- a line of a file; a line of another kind
pub file_line : (a : Args) (perm : ℕ) → is_line a perm ≡ true → (is_file a (2 ^ perm) || is_net a (2 ^ perm)) ≡ true
unfolding is_line is_file is_net
file_line (Args.Path n) perm h =
    let s = both (is_name n && is_at perm n) (nat_lt perm (width Row.Path)) h in
    rw (two (lines.is_set Row.Path (2 ^ perm)) (lines.is_name n) (set_at Row.Path perm s.1) (name_line n (both (is_name n) (is_at perm n) s.0).0)) refl
file_line (Args.Execute n prefer) perm h = absurd cc
file_line (Args.PathNumber n k) perm h =
    let s = both (is_name n && is_number k) (nat_lt perm (width Row.PathNumber)) h in
    let t = both (is_name n) (is_number k) s.0 in
    rw (three (lines.is_set Row.PathNumber (2 ^ perm)) (lines.is_name n) (lines.is_number k) (set_at Row.PathNumber perm s.1) (name_line n t.0) (number_line k t.1)) refl
file_line (Args.Device n mode major minor) perm h =
    let s = both (is_name n && is_number mode && is_number major && is_number minor) (nat_lt perm (width Row.Device)) h in
    let t = both (is_name n && is_number mode && is_number major) (is_number minor) s.0 in
    let u = both (is_name n && is_number mode) (is_number major) t.0 in
    let v = both (is_name n) (is_number mode) u.0 in
    rw (five (lines.is_set Row.Device (2 ^ perm)) (lines.is_name n) (lines.is_number mode) (lines.is_number major) (lines.is_number minor) (set_at Row.Device perm s.1) (name_line n v.0) (number_line mode v.1) (number_line major u.1) (number_line minor t.1)) refl
file_line (Args.Path2 n m) perm h =
    let s = both (is_name n && is_name m) (nat_lt perm (width Row.Pair)) h in
    let t = both (is_name n) (is_name m) s.0 in
    rw (three (lines.is_set Row.Pair (2 ^ perm)) (lines.is_name n) (lines.is_name m) (set_at Row.Pair perm s.1) (name_line n t.0) (name_line m t.1)) refl
file_line (Args.Mount device dir kind flags) perm h =
    let s = both (is_name device && is_name dir && is_name kind && is_number flags) (perm == 0) h in
    let t = both (is_name device && is_name dir && is_name kind) (is_number flags) s.0 in
    let u = both (is_name device && is_name dir) (is_name kind) t.0 in
    let v = both (is_name device) (is_name dir) u.0 in
    rw (five (2 ^ perm == 1) (lines.is_name device) (lines.is_name dir) (lines.is_name kind) (lines.is_number flags) (one_bit perm s.1) (name_line device v.0) (name_line dir v.1) (name_line kind u.1) (number_line flags t.1)) refl
file_line (Args.Inet kind address port) perm h =
    let s = both (is_addr address && is_number port) (nat_lt perm (width (inet_permissions kind))) h in
    let t = both (is_addr address) (is_number port) s.0 in
    three (lines.is_set (inet_permissions kind) (2 ^ perm)) (lines.is_address address) (lines.is_number port) (set_at (inet_permissions kind) perm s.1) (address_line address t.0) (number_line port t.1)
file_line (Args.Unix kind n) perm h =
    let s = both (is_name n) (nat_lt perm (width (unix_permissions kind))) h in
    two (lines.is_set (unix_permissions kind) (2 ^ perm)) (lines.is_name n) (set_at (unix_permissions kind) perm s.1) (name_line n s.0)
file_line (Args.Env p) perm h =
    let s = both (is_env_name p) (perm == 0) h in
    let e = env_line p s.0 in
    three (2 ^ perm == 1) (is_right p) (is_env (spelled_pattern p)) (one_bit perm s.1) e.0 e.1
file_line (Args.Manual domain) perm h =
    let s = both (is_domain_name is_path domain) (perm == 0) h in
    two (2 ^ perm == 1) (is_domain_name is_path domain) (one_bit perm s.1) s.0

or_none : (b : Bool) → (b || false) ≡ true → b ≡ true
or_none true h = refl
or_none false h = absurd cc

pub line_are : (a : Args) (perm : ℕ) → is_line a perm ≡ true → list_all is_word (line_words a perm) ≡ true
unfolding acl_words is_file is_net
line_are a perm h = by_args a (file_line a perm h)
  where
    by_args : (b : Args) → (is_file b (2 ^ perm) || is_net b (2 ^ perm)) ≡ true → list_all is_word (line_words b perm) ≡ true
    by_args (Args.Path n) k = file_are (Args.Path n) (2 ^ perm) (or_none _ k)
    by_args (Args.Execute n prefer) k = file_are (Args.Execute n prefer) (2 ^ perm) (or_none _ k)
    by_args (Args.PathNumber n i) k = file_are (Args.PathNumber n i) (2 ^ perm) (or_none _ k)
    by_args (Args.Device n mode major minor) k = file_are (Args.Device n mode major minor) (2 ^ perm) (or_none _ k)
    by_args (Args.Path2 n m) k = file_are (Args.Path2 n m) (2 ^ perm) (or_none _ k)
    by_args (Args.Mount device dir kind flags) k = file_are (Args.Mount device dir kind flags) (2 ^ perm) (or_none _ k)
    by_args (Args.Inet kind address port) k = net_are (Args.Inet kind address port) (2 ^ perm) k
    by_args (Args.Unix kind n) k = net_are (Args.Unix kind n) (2 ^ perm) k
    by_args (Args.Env p) k = net_are (Args.Env p) (2 ^ perm) k
    by_args (Args.Manual domain) k = net_are (Args.Manual domain) (2 ^ perm) k
