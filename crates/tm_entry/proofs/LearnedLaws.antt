-- The line that is learned for a request that a trace can hold is one that a policy can write.
use Rattle.std.proofs.Common.{◌≡◌, ℕ, ◌<◌, ◌^◌, ◌==◌, Bool, true, false, cond, ◌&&◌, ◌||◌, not, List, [], ◌∷◌, ◌++◌, length, Option, Some, None, refl, sym, ap, subst, ◌∙◌, arith}
use Rattle.std.specs.Prelude.{is_some, slice_get}
use Rattle.std.specs.Bool.{beq}
use Rattle.std.specs.List.{list_all}
use Rattle.std.proofs.lemmas.Bool.{eqb-true}
use Rattle.std.proofs.lemmas.List.Folds.{list_all-append}
use Rattle.std.proofs.lemmas.Option.{slice_get_within}
use Rattle.tm_word.specs.Prelude.{Word, are_bytes, is_empty, literal, spelled_pattern}
use Rattle.tm_file.specs.Grammar.{is_right}
use Rattle.tm_rules.specs.Types.{Args, Attr, Attributes, Clause, InetKind, NameUnion, Request, UnixKind, function_of, inet_functions, row_functions, unix_functions}
use Rattle.tm_rules.specs.Prelude.{are_literal, bytes_if, has_bytes, has_exec, has_its_attributes, has_no_exec, is_addr, is_domain_name, is_execute, is_manual, is_name, is_number, is_path_word, is_request, is_stat, is_symlink, is_word, learned_line, may_have, path_of}
use Rattle.tm_rules.proofs.LearnedLaws.{execute-first}
use Rattle.tm_file.specs.Names.{is_path}
use Rattle.tm_file.specs.Row.{Row}
use Rattle.tm_file.specs.Permissions.{names}
use Rattle.tm_file.specs.Written as lines
use Rattle.tm_file.proofs.Steps.{both, all}
use Rattle.tm_word.proofs.Spelled.{below, below-at}
use Rattle.tm_file.specs.FileLines.{is_file}
use Rattle.tm_net.specs.NetLines.{inet_permissions, unix_permissions, is_net, is_env}
use Rattle.tm_cond.specs.Written.{is_attr, is_side, is_clause, is_cond}
use Rattle.tm_entry.specs.Entries.{is_entry}
use Rattle.tm_file.proofs.LiteralLaws.{literal_right}
use Rattle.tm_entry.proofs.LiteralLaws.{name_is, name_line, env_line, number_line, address_line}

-- What a request says

record Parts (r : Request) : Type 0 where
  pub literal : are_literal is_path r.args ≡ true
  pub perm : (is_some (function_of r.args r.perm) || (is_manual r && r.perm == 0)) ≡ true
  pub exec : cond (is_execute r) (has_exec r) (has_no_exec r) ≡ true
  pub target : bytes_if r.attributes.target ≡ true

parts : (r : Request) → is_request is_path r ≡ true → Parts r
unfolding is_request
parts r h =
    let literal = are_literal is_path r.args in
    let perm = is_some (function_of r.args r.perm) || (is_manual r && r.perm == 0) in
    let a = both (literal && perm) (has_its_attributes r) h in
    let b = both literal perm a.0 in
    let exec = cond (is_execute r) (has_exec r) (has_no_exec r) in
    let link = beq (is_symlink r) (is_some r.attributes.target) in
    let target = bytes_if r.attributes.target in
    let stats = list_all (may_have r.args) r.attributes.stats in
    let c = both (exec && link && target && stats) (list_all is_stat r.attributes.stats) a.1 in
    let d = both (exec && link && target) stats c.0 in
    let e = both (exec && link) target d.0 in
    let f = both exec link e.0 in
    record { literal = b.0; perm = b.1; exec = f.0; target = e.1 }

-- what an execute has, of which two words are learned
record HasExec (r : Request) : Type 0 where
  pub real : has_bytes r.attributes.real_path ≡ true
  pub argv : list_all are_bytes r.attributes.argv ≡ true

exec_parts : (r : Request) → has_exec r ≡ true → HasExec r
exec_parts r h =
    let path = is_path_word (path_of r) in
    let real = has_bytes r.attributes.real_path in
    let some = not (is_empty r.attributes.argv) in
    let argv = list_all are_bytes r.attributes.argv in
    let a = both (path && real && some && argv) (list_all (λ pair. are_bytes pair.0 && are_bytes pair.1) r.attributes.envp) h in
    let b = both (path && real && some) argv a.0 in
    let c = both (path && real) some b.0 in
    let d = both path real c.0 in
    record { real = d.1; argv = b.1 }

-- Its permission

-- how many permissions a row has
abbrev width : Row → ℕ
width acl_row = length (names acl_row)

abbrev is_one : Row → ℕ → Bool
is_one acl_row perm = lines.is_set acl_row (2 ^ perm)

each : (acl_row : Row) → below (width acl_row) (is_one acl_row) ≡ true
unfolding below
each Row.Path = refl
each Row.PathNumber = refl
each Row.Device = refl
each Row.Pair = refl
each Row.Listening = refl
each Row.Sending = refl

set_at : (acl_row : Row) (perm : ℕ) → perm < width acl_row → lines.is_set acl_row (2 ^ perm) ≡ true
set_at acl_row perm low = below-at (width acl_row) (is_one acl_row) perm (each acl_row) low

or_none : (b : Bool) → (b || false) ≡ true → b ≡ true
or_none true h = refl
or_none false h = absurd cc

is_there : {A : Type 0} (o : Option A) → is_some o ≡ true → (x : A) × (o ≡ Some x)
is_there (Some x) h = (x, refl)
is_there None h = absurd cc

perm_low : {A : Type 0} (xs : List A) (perm : ℕ) → (is_some (slice_get xs perm) || false) ≡ true → perm < length xs
perm_low xs perm h = let x = is_there (slice_get xs perm) (or_none (is_some (slice_get xs perm)) h) in slice_get_within xs perm x.0 x.1

one_perm : {A : Type 0} (x : A) (perm : ℕ) → (is_some (slice_get (x ∷ []) perm) || false) ≡ true → (perm == 0) ≡ true
one_perm x perm h = let low : perm < 1 = perm_low (x ∷ []) perm h in zero_only perm low
  where
    zero_only : (k : ℕ) → k < 1 → (k == 0) ≡ true
    zero_only k low = let is : k ≡ 0 = omega (arith, low) in ap (λ i. i == 0) is

inet_low : (kind : InetKind) (perm : ℕ) → (is_some (slice_get (inet_functions kind) perm) || false) ≡ true → perm < width (inet_permissions kind)
inet_low InetKind.Stream perm h = perm_low (inet_functions InetKind.Stream) perm h
inet_low InetKind.Dgram perm h = perm_low (inet_functions InetKind.Dgram) perm h
inet_low InetKind.Raw perm h = perm_low (inet_functions InetKind.Raw) perm h

unix_low : (kind : UnixKind) (perm : ℕ) → (is_some (slice_get (unix_functions kind) perm) || false) ≡ true → perm < width (unix_permissions kind)
unix_low UnixKind.Stream perm h = perm_low (unix_functions UnixKind.Stream) perm h
unix_low UnixKind.Dgram perm h = perm_low (unix_functions UnixKind.Dgram) perm h
unix_low UnixKind.Seqpacket perm h = perm_low (unix_functions UnixKind.Seqpacket) perm h

-- Its arguments

two : (a b : Bool) → a ≡ true → b ≡ true → (a && b) ≡ true
two a b h k = all a b h k

three : (a b c : Bool) → a ≡ true → b ≡ true → c ≡ true → (a && b && c) ≡ true
three a b c h k l = all (a && b) c (all a b h k) l

five : (a b c d e : Bool) → a ≡ true → b ≡ true → c ≡ true → d ≡ true → e ≡ true → (a && b && c && d && e) ≡ true
five a b c d e h i j k l = all (a && b && c && d) e (all (a && b && c) d (three a b c h i j) k) l

one_bit : (perm : ℕ) → (perm == 0) ≡ true → (2 ^ perm == 1) ≡ true
one_bit perm h = ap (λ k. 2 ^ k == 1) (eqb-true perm 0 h)

-- literal arguments with one permission of their row are a line of a file, or a line of another
-- kind
args_line : (a : Args) (perm : ℕ) (at : Attributes) → are_literal is_path a ≡ true → (let r : Request = record { args = a; perm = perm; attributes = at } in (is_some (function_of a perm) || (is_manual r && perm == 0)) ≡ true → (is_file a (2 ^ perm) || is_net a (2 ^ perm)) ≡ true)
unfolding is_file is_net function_of
args_line (Args.Path n) perm at h p = rw (two (lines.is_set Row.Path (2 ^ perm)) (lines.is_name n) (set_at Row.Path perm (perm_low (row_functions (Args.Path n)) perm p)) (name_line n h)) refl
args_line (Args.Execute n prefer) perm at h p = absurd cc
args_line (Args.PathNumber n k) perm at h p =
    let t = both (is_name n) (is_number k) h in
    rw (three (lines.is_set Row.PathNumber (2 ^ perm)) (lines.is_name n) (lines.is_number k) (set_at Row.PathNumber perm (perm_low (row_functions (Args.PathNumber n k)) perm p)) (name_line n t.0) (number_line k t.1)) refl
args_line (Args.Device n mode major minor) perm at h p =
    let t = both (is_name n && is_number mode && is_number major) (is_number minor) h in
    let u = both (is_name n && is_number mode) (is_number major) t.0 in
    let v = both (is_name n) (is_number mode) u.0 in
    rw (five (lines.is_set Row.Device (2 ^ perm)) (lines.is_name n) (lines.is_number mode) (lines.is_number major) (lines.is_number minor) (set_at Row.Device perm (perm_low (row_functions (Args.Device n mode major minor)) perm p)) (name_line n v.0) (number_line mode v.1) (number_line major u.1) (number_line minor t.1)) refl
args_line (Args.Path2 n m) perm at h p =
    let t = both (is_name n) (is_name m) h in
    rw (three (lines.is_set Row.Pair (2 ^ perm)) (lines.is_name n) (lines.is_name m) (set_at Row.Pair perm (perm_low (row_functions (Args.Path2 n m)) perm p)) (name_line n t.0) (name_line m t.1)) refl
args_line (Args.Mount device dir kind flags) perm at h p =
    let t = both (is_name device && is_name dir && is_name kind) (is_number flags) h in
    let u = both (is_name device && is_name dir) (is_name kind) t.0 in
    let v = both (is_name device) (is_name dir) u.0 in
    rw (five (2 ^ perm == 1) (lines.is_name device) (lines.is_name dir) (lines.is_name kind) (lines.is_number flags) (one_bit perm (one_perm _ perm p)) (name_line device v.0) (name_line dir v.1) (name_line kind u.1) (number_line flags t.1)) refl
args_line (Args.Inet kind address port) perm at h p =
    let t = both (is_addr address) (is_number port) h in
    three (lines.is_set (inet_permissions kind) (2 ^ perm)) (lines.is_address address) (lines.is_number port) (set_at (inet_permissions kind) perm (inet_low kind perm p)) (address_line address t.0) (number_line port t.1)
args_line (Args.Unix kind n) perm at h p = two (lines.is_set (unix_permissions kind) (2 ^ perm)) (lines.is_name n) (set_at (unix_permissions kind) perm (unix_low kind perm p)) (name_line n h)
args_line (Args.Env e) perm at h p = let t = env_line e h in three (2 ^ perm == 1) (is_right e) (is_env (spelled_pattern e)) (one_bit perm (one_perm _ perm p)) t.0 t.1
args_line (Args.Manual domain) perm at h p = two (2 ^ perm == 1) (is_domain_name is_path domain) (one_bit perm p) h

path_written : (name : Word) → is_path_word name ≡ true → lines.is_name (NameUnion.One (literal name)) ≡ true
path_written [] h = absurd cc
path_written (b ∷ name) h =
    let t = both (b == 47) (are_bytes (b ∷ name)) h in
    let at : (b == 64) ≡ false = ap (λ c. c == 64) (eqb-true b 47 t.0) in
    name_line (NameUnion.One (literal (b ∷ name))) (name_is b name t.1 at)

execute_is : (name : Word) (perm : ℕ) → is_path_word name ≡ true → perm ≡ 0 → (is_file (Args.Path (NameUnion.One (literal name))) (2 ^ perm) || is_net (Args.Path (NameUnion.One (literal name))) (2 ^ perm)) ≡ true
unfolding is_file
execute_is name perm h e = subst (λ p. (is_file (Args.Path (NameUnion.One (literal name))) (2 ^ p) || is_net (Args.Path (NameUnion.One (literal name))) (2 ^ p)) ≡ true) (sym e) (rw (path_written name h) refl)

-- Its conditions

abbrev Fits : List Clause → Type 0
Fits cs = list_all is_clause cs ≡ true

both_fit : (xs ys : List Clause) → Fits xs → Fits ys → Fits (xs ++ ys)
both_fit xs ys h k = list_all-append is_clause xs ys ∙ all (list_all is_clause xs) (list_all is_clause ys) h k

real_fits : (o : Option Word) → bytes_if o ≡ true → Fits (is_word Attr.RealPath o)
unfolding is_clause is_attr is_side
real_fits None h = refl
real_fits (Some w) h = rw (literal_right w h) refl

target_fits : (o : Option Word) → bytes_if o ≡ true → Fits (is_word Attr.Target o)
unfolding is_clause is_attr is_side
target_fits None h = refl
target_fits (Some w) h = rw (literal_right w h) refl

argument_fits : (argv : List Word) → list_all are_bytes argv ≡ true → Fits (is_word (Attr.Argv 0) (slice_get argv 0))
unfolding is_clause is_attr is_side
argument_fits [] h = refl
argument_fits (w ∷ argv) h = rw (literal_right w (both (are_bytes w) (list_all are_bytes argv) h).0) refl

there_bytes : (o : Option Word) → has_bytes o ≡ true → bytes_if o ≡ true
there_bytes None h = absurd cc
there_bytes (Some w) h = h

-- The line

exec_by : (t : Bool) (r : Request) → cond t (has_exec r) (has_no_exec r) ≡ true → t ≡ true → has_exec r ≡ true
exec_by true r h e = h
exec_by false r h e = absurd cc

pub learned_is : (r : Request) (name : Word) → is_request is_path r ≡ true → (is_execute r ≡ true → is_path_word name ≡ true) → is_entry (learned_line r name) ≡ true
unfolding learned_line is_entry is_cond
learned_is r name h path = by_kind (is_execute r) refl
  where
    line : (is_file r.args (2 ^ r.perm) || is_net r.args (2 ^ r.perm)) ≡ true
    line = args_line r.args r.perm r.attributes (parts r h).literal (parts r h).perm

    by_kind : (t : Bool) → is_execute r ≡ t → is_entry (learned_line r name) ≡ true
    by_kind true e =
        let p = exec_parts r (exec_by (is_execute r) r (parts r h).exec e) in
        let conds = both_fit (is_word Attr.RealPath r.attributes.real_path) (is_word (Attr.Argv 0) (slice_get r.attributes.argv 0)) (real_fits r.attributes.real_path (there_bytes r.attributes.real_path p.real)) (argument_fits r.attributes.argv p.argv) in
        rw (e, execute_is name r.perm (path e) (eqb-true r.perm 0 (execute-first r e)), conds) refl
    by_kind false e = rw (e, line, target_fits r.attributes.target (parts r h).target) refl
