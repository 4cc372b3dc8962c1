-- The requests that a trace can write: the line and the attributes of each, and that each can be
-- asked.
use Rattle.std.proofs.Common.{◌≡◌, ℕ, ◌<◌, ◌==◌, nat_lt, Bool, true, false, cond, ◌&&◌, ◌||◌, not, List, [], ◌∷◌, length, Option, Some, None, refl, sym, ap, subst, arith}
use Rattle.std.specs.Prelude.{is_some, slice_get}
use Rattle.std.specs.Bool.{beq}
use Rattle.std.specs.List.{list_all}
use Rattle.std.proofs.lemmas.Bool.{eqb-true, ltb-true, lt-ltb}
use Rattle.std.proofs.lemmas.Option.{slice_get_within, slice_get-get_or}
use Rattle.tm_word.specs.Prelude.{are_bytes, begins_with_byte, is_empty}
use Rattle.tm_rules.specs.Types.{Args, Attributes, InetKind, NameUnion, Request, UnixKind, function_of, inet_functions, name_value, row_functions, unix_functions}
use Rattle.tm_rules.specs.Prelude.{are_literal, bytes_if, has_bytes, has_exec, has_its_attributes, has_no_exec, is_addr, is_domain_name, is_execute, is_manual, is_name, is_number, is_path_word, is_request, is_stat, is_symlink, may_have}
use Rattle.tm_line.specs.Names.{is_path}
use Rattle.tm_line.specs.declared.permissions.Row.{Row}
use Rattle.tm_line.proofs.Steps.{both, all}
use Rattle.tm_entry.specs.NetLines.{inet_permissions, unix_permissions}
use Rattle.tm_trace.specs.Attributes.{request, executes, links}
use Rattle.tm_trace.specs.Written.{rises, names_once, are_names, has_word}
use Rattle.tm_trace.proofs.Names.{is_at, is_env_name}
use Rattle.tm_trace.proofs.Perms.{width}
use Rattle.tm_trace.proofs.RequestLaws.{is_line}

-- ---- what depends on the line alone

pub exec_kept : (a : Args) (perm : ℕ) (at : Attributes) → is_execute (request a perm at) ≡ executes a perm
exec_kept (Args.Path n) perm at = refl
exec_kept (Args.Execute n prefer) perm at = refl
exec_kept (Args.PathNumber n k) perm at = refl
exec_kept (Args.Device n mode major minor) perm at = refl
exec_kept (Args.Path2 n m) perm at = refl
exec_kept (Args.Mount device dir kind flags) perm at = refl
exec_kept (Args.Inet kind address port) perm at = refl
exec_kept (Args.Unix kind n) perm at = refl
exec_kept (Args.Env p) perm at = refl
exec_kept (Args.Manual domain) perm at = refl

pub link_kept : (a : Args) (perm : ℕ) (at : Attributes) → is_symlink (request a perm at) ≡ links a perm
link_kept (Args.Path n) perm at = refl
link_kept (Args.Execute n prefer) perm at = refl
link_kept (Args.PathNumber n k) perm at = refl
link_kept (Args.Device n mode major minor) perm at = refl
link_kept (Args.Path2 n m) perm at = refl
link_kept (Args.Mount device dir kind flags) perm at = refl
link_kept (Args.Inet kind address port) perm at = refl
link_kept (Args.Unix kind n) perm at = refl
link_kept (Args.Env p) perm at = refl
link_kept (Args.Manual domain) perm at = refl

-- ---- the attributes that were given

abbrev pub no_exec : Attributes → Bool
no_exec at = not (is_some at.real_path) && is_empty at.argv && is_empty at.envp

-- those of its kind alone, and all of what a word can write
pub record Given (a : Args) (perm : ℕ) (at : Attributes) : Type 0 where
  pub exec : executes a perm ≡ false → no_exec at ≡ true
  pub real : bytes_if at.real_path ≡ true
  pub argv : list_all are_bytes at.argv ≡ true
  pub names : are_names at.envp ≡ true
  pub values : list_all (λ pair. are_bytes pair.1) at.envp ≡ true
  pub once : names_once at.envp ≡ true
  pub link : links a perm ≡ false → is_some at.target ≡ false
  pub target : bytes_if at.target ≡ true
  pub stats : list_all (may_have a) at.stats ≡ true
  pub low : list_all is_stat at.stats ≡ true
  pub written : list_all has_word at.stats ≡ true
  pub order : rises at.stats ≡ true

-- ---- what a request says

pub record Parts (r : Request) : Type 0 where
  pub literal : are_literal is_path r.args ≡ true
  pub perm : (is_some (function_of r.args r.perm) || (is_manual r && r.perm == 0)) ≡ true
  pub exec : cond (is_execute r) (has_exec r) (has_no_exec r) ≡ true
  pub link : beq (is_symlink r) (is_some r.attributes.target) ≡ true
  pub target : bytes_if r.attributes.target ≡ true
  pub stats : list_all (may_have r.args) r.attributes.stats ≡ true
  pub low : list_all is_stat r.attributes.stats ≡ true

pub parts : (r : Request) → is_request is_path r ≡ true → Parts r
unfolding is_request
parts r h =
    let a = both (are_literal is_path r.args && (is_some (function_of r.args r.perm) || (is_manual r && r.perm == 0))) (has_its_attributes r) h in
    let b = both (are_literal is_path r.args) (is_some (function_of r.args r.perm) || (is_manual r && r.perm == 0)) a.0 in
    let exec = cond (is_execute r) (has_exec r) (has_no_exec r) in
    let link = beq (is_symlink r) (is_some r.attributes.target) in
    let target = bytes_if r.attributes.target in
    let stats = list_all (may_have r.args) r.attributes.stats in
    let c = both (exec && link && target && stats) (list_all is_stat r.attributes.stats) a.1 in
    let d = both (exec && link && target) stats c.0 in
    let e = both (exec && link) target d.0 in
    let f = both exec link e.0 in
    record { literal = b.0; perm = b.1; exec = f.0; link = f.1; target = e.1; stats = d.1; low = c.1 }

pub whole : (r : Request) → Parts r → is_request is_path r ≡ true
unfolding is_request
whole r p =
    let literal = are_literal is_path r.args in
    let perm = is_some (function_of r.args r.perm) || (is_manual r && r.perm == 0) in
    let exec = cond (is_execute r) (has_exec r) (has_no_exec r) in
    let link = beq (is_symlink r) (is_some r.attributes.target) in
    let target = bytes_if r.attributes.target in
    let stats = list_all (may_have r.args) r.attributes.stats in
    let low = list_all is_stat r.attributes.stats in
    all (literal && perm) (exec && link && target && stats && low) (all literal perm p.literal p.perm)
    (all (exec && link && target && stats) low (all (exec && link && target) stats (all (exec && link) target (all exec link p.exec p.link) p.target) p.stats) p.low)

-- ---- its line

or_none : (b : Bool) → (b || false) ≡ true → b ≡ true
or_none true h = refl
or_none false h = absurd cc

is_there : {A : Type 0} (o : Option A) → is_some o ≡ true → (x : A) × (o ≡ Some x)
is_there (Some x) h = (x, refl)
is_there None h = absurd cc

perm_low : {A : Type 0} (xs : List A) (perm : ℕ) → (is_some (slice_get xs perm) || false) ≡ true → nat_lt perm (length xs) ≡ true
perm_low xs perm h = let x = is_there (slice_get xs perm) (or_none (is_some (slice_get xs perm)) h) in lt-ltb perm (length xs) (slice_get_within xs perm x.0 x.1)

perm_there : {A : Type 0} (xs : List A) (perm : ℕ) → nat_lt perm (length xs) ≡ true → (is_some (slice_get xs perm) || false) ≡ true
perm_there [] perm h = absurd (let low : perm < 0 = ltb-true perm 0 h in omega (arith, low))
perm_there (x ∷ xs) perm h = rw (slice_get-get_or (x ∷ xs) perm x (ltb-true _ _ h)) refl

one_perm : {A : Type 0} (x : A) (perm : ℕ) → (is_some (slice_get (x ∷ []) perm) || false) ≡ true → (perm == 0) ≡ true
one_perm x perm h = let low : perm < 1 = ltb-true perm 1 (perm_low (x ∷ []) perm h) in zero_only perm low
  where
    zero_only : (k : ℕ) → k < 1 → (k == 0) ≡ true
    zero_only k low = let is : k ≡ 0 = omega (arith, low) in ap (λ i. i == 0) is

zero_perm : {A : Type 0} (x : A) (perm : ℕ) → (perm == 0) ≡ true → (is_some (slice_get (x ∷ []) perm) || false) ≡ true
zero_perm x perm h = subst (λ k. (is_some (slice_get (x ∷ []) k) || false) ≡ true) (sym (eqb-true perm 0 h)) refl

inet_low : (kind : InetKind) (perm : ℕ) → (is_some (slice_get (inet_functions kind) perm) || false) ≡ true → nat_lt perm (width (inet_permissions kind)) ≡ true
inet_low InetKind.Stream perm h = perm_low (inet_functions InetKind.Stream) perm h
inet_low InetKind.Dgram perm h = perm_low (inet_functions InetKind.Dgram) perm h
inet_low InetKind.Raw perm h = perm_low (inet_functions InetKind.Raw) perm h

unix_low : (kind : UnixKind) (perm : ℕ) → (is_some (slice_get (unix_functions kind) perm) || false) ≡ true → nat_lt perm (width (unix_permissions kind)) ≡ true
unix_low UnixKind.Stream perm h = perm_low (unix_functions UnixKind.Stream) perm h
unix_low UnixKind.Dgram perm h = perm_low (unix_functions UnixKind.Dgram) perm h
unix_low UnixKind.Seqpacket perm h = perm_low (unix_functions UnixKind.Seqpacket) perm h

inet_there : (kind : InetKind) (perm : ℕ) → nat_lt perm (width (inet_permissions kind)) ≡ true → (is_some (slice_get (inet_functions kind) perm) || false) ≡ true
inet_there InetKind.Stream perm h = perm_there (inet_functions InetKind.Stream) perm h
inet_there InetKind.Dgram perm h = perm_there (inet_functions InetKind.Dgram) perm h
inet_there InetKind.Raw perm h = perm_there (inet_functions InetKind.Raw) perm h

unix_there : (kind : UnixKind) (perm : ℕ) → nat_lt perm (width (unix_permissions kind)) ≡ true → (is_some (slice_get (unix_functions kind) perm) || false) ≡ true
unix_there UnixKind.Stream perm h = perm_there (unix_functions UnixKind.Stream) perm h
unix_there UnixKind.Dgram perm h = perm_there (unix_functions UnixKind.Dgram) perm h
unix_there UnixKind.Seqpacket perm h = perm_there (unix_functions UnixKind.Seqpacket) perm h

-- the path of an execute begins with `/`
at_from : (n : NameUnion) (perm : ℕ) (t : Bool) (at : Attributes) → cond t (has_exec (request (Args.Path n) perm at)) (has_no_exec (request (Args.Path n) perm at)) ≡ true → (not t || begins_with_byte 47 (name_value n)) ≡ true
at_from n perm false at h = refl
at_from n perm true at h =
    let path = is_path_word (name_value n) in
    let real = has_bytes at.real_path in
    let some = not (is_empty at.argv) in
    let argv = list_all are_bytes at.argv in
    let a = both (path && real && some && argv) (list_all (λ pair. are_bytes pair.0 && are_bytes pair.1) at.envp) h in
    let b = both (path && real && some) argv a.0 in
    let c = both (path && real) some b.0 in
    let d = both path real c.0 in
    (both (begins_with_byte 47 (name_value n)) (are_bytes (name_value n)) d.0).0

pub line_by : (a : Args) (perm : ℕ) (at : Attributes) → Parts (request a perm at) → is_line a perm ≡ true
unfolding is_line function_of
line_by (Args.Path n) perm at p = all (is_name n && is_at perm n) (nat_lt perm (width Row.Path)) (all (is_name n) (is_at perm n) p.literal (at_from n perm (perm == 0) at p.exec)) (perm_low (row_functions (Args.Path n)) perm p.perm)
line_by (Args.Execute n prefer) perm at p = absurd (let no : false ≡ true = p.literal in cc)
line_by (Args.PathNumber n k) perm at p = all (is_name n && is_number k) (nat_lt perm (width Row.PathNumber)) p.literal (perm_low (row_functions (Args.PathNumber n k)) perm p.perm)
line_by (Args.Device n mode major minor) perm at p =
    all (is_name n && is_number mode && is_number major && is_number minor) (nat_lt perm (width Row.Device)) p.literal (perm_low (row_functions (Args.Device n mode major minor)) perm p.perm)
line_by (Args.Path2 n m) perm at p = all (is_name n && is_name m) (nat_lt perm (width Row.Pair)) p.literal (perm_low (row_functions (Args.Path2 n m)) perm p.perm)
line_by (Args.Mount device dir kind flags) perm at p = all (is_name device && is_name dir && is_name kind && is_number flags) (perm == 0) p.literal (one_perm _ perm p.perm)
line_by (Args.Inet kind address port) perm at p = all (is_addr address && is_number port) (nat_lt perm (width (inet_permissions kind))) p.literal (inet_low kind perm p.perm)
line_by (Args.Unix kind n) perm at p = all (is_name n) (nat_lt perm (width (unix_permissions kind))) p.literal (unix_low kind perm p.perm)
line_by (Args.Env e) perm at p = all (is_env_name e) (perm == 0) p.literal (one_perm _ perm p.perm)
line_by (Args.Manual domain) perm at p = all (is_domain_name is_path domain) (perm == 0) p.literal p.perm

-- the other way round
pub record RowParts (a : Args) (perm : ℕ) (at : Attributes) : Type 0 where
  pub literal : are_literal is_path a ≡ true
  pub place : (is_some (function_of a perm) || (is_manual (request a perm at) && perm == 0)) ≡ true

pub row_parts : (a : Args) (perm : ℕ) (at : Attributes) → is_line a perm ≡ true → RowParts a perm at
unfolding is_line function_of
row_parts (Args.Path n) perm at h =
    let s = both (is_name n && is_at perm n) (nat_lt perm (width Row.Path)) h in
    record { literal = (both (is_name n) (is_at perm n) s.0).0; place = perm_there (row_functions (Args.Path n)) perm s.1 }
row_parts (Args.Execute n prefer) perm at h = absurd cc
row_parts (Args.PathNumber n k) perm at h = let s = both (is_name n && is_number k) (nat_lt perm (width Row.PathNumber)) h in record { literal = s.0; place = perm_there (row_functions (Args.PathNumber n k)) perm s.1 }
row_parts (Args.Device n mode major minor) perm at h =
    let s = both (is_name n && is_number mode && is_number major && is_number minor) (nat_lt perm (width Row.Device)) h in
    record { literal = s.0; place = perm_there (row_functions (Args.Device n mode major minor)) perm s.1 }
row_parts (Args.Path2 n m) perm at h = let s = both (is_name n && is_name m) (nat_lt perm (width Row.Pair)) h in record { literal = s.0; place = perm_there (row_functions (Args.Path2 n m)) perm s.1 }
row_parts (Args.Mount device dir kind flags) perm at h =
    let s = both (is_name device && is_name dir && is_name kind && is_number flags) (perm == 0) h in
    record { literal = s.0; place = zero_perm _ perm s.1 }
row_parts (Args.Inet kind address port) perm at h =
    let s = both (is_addr address && is_number port) (nat_lt perm (width (inet_permissions kind))) h in
    record { literal = s.0; place = inet_there kind perm s.1 }
row_parts (Args.Unix kind n) perm at h = let s = both (is_name n) (nat_lt perm (width (unix_permissions kind))) h in record { literal = s.0; place = unix_there kind perm s.1 }
row_parts (Args.Env e) perm at h = let s = both (is_env_name e) (perm == 0) h in record { literal = s.0; place = zero_perm _ perm s.1 }
row_parts (Args.Manual domain) perm at h = let s = both (is_domain_name is_path domain) (perm == 0) h in record { literal = s.0; place = s.1 }
