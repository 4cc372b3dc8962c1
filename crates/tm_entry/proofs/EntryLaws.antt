-- Entries: what is written is read again, and what is read can be written.
use Rattle.std.proofs.Common.{◌≡◌, ℕ, Bool, true, false, cond, ◌&&◌, ◌||◌, List, [], ◌∷◌, ◌++◌, Option, Some, None, Ok, Err, refl, subst, ◌∙◌}
use Rattle.std.specs.Prelude.{codes, map}
use Rattle.tm_word.specs.Prelude.{Text, begins, texts_equal, ◌>>=◌}
use Rattle.tm_rules.specs.Types.{Args, Attr, Clause, Cond, Entry, LineKind, Perms, StatPlace}
use Rattle.tm_file.specs.Lines.{is_last}
use Rattle.tm_file.proofs.Steps.{bind_ok, ok_is, both, all}
use Rattle.tm_file.specs.FileLines.{file_line, file_words, is_file}
use Rattle.tm_file.specs.Preferences.{no_prefer}
use Rattle.tm_file.proofs.PreferLaws.{ends_prefer}
use Rattle.tm_file.proofs.FileLaws.{file_again, file_right}
use Rattle.tm_net.specs.NetLines.{net_line, net_words, is_net}
use Rattle.tm_net.proofs.NetLaws.{net_again, net_right}
use Rattle.tm_cond.specs.Attributes.{attr_text}
use Rattle.tm_cond.specs.Reading.{operator, right_text, clause_text, log_words, cond_of, cond_words}
use Rattle.tm_cond.specs.Written.{is_cond}
use Rattle.tm_cond.proofs.CondLaws.{cond_again, cond_read}
use Rattle.tm_entry.specs.Entries.{acl_line, entry, entry_of, is_of_file, acl_words, entry_words, is_entry}

-- ---- conditions are no preference

attr_no_prefer : (attr : Attr) (op right : Text) (more : List Text) → no_prefer ((attr_text attr ++ op ++ right) ∷ more) ≡ true
unfolding no_prefer attr_text
attr_no_prefer (Attr.Task field) op right more = refl
attr_no_prefer Attr.Argc op right more = refl
attr_no_prefer Attr.Envc op right more = refl
attr_no_prefer (Attr.Stat StatPlace.Path1 field) op right more = refl
attr_no_prefer (Attr.Stat StatPlace.Path2 field) op right more = refl
attr_no_prefer (Attr.Stat StatPlace.Path1Parent field) op right more = refl
attr_no_prefer (Attr.Stat StatPlace.Path2Parent field) op right more = refl
attr_no_prefer (Attr.Kind StatPlace.Path1) op right more = refl
attr_no_prefer (Attr.Kind StatPlace.Path2) op right more = refl
attr_no_prefer (Attr.Kind StatPlace.Path1Parent) op right more = refl
attr_no_prefer (Attr.Kind StatPlace.Path2Parent) op right more = refl
attr_no_prefer (Attr.Argv n) op right more = refl
attr_no_prefer (Attr.Envp name) op right more = refl
attr_no_prefer Attr.RealPath op right more = refl
attr_no_prefer Attr.Target op right more = refl

log_no_prefer : (log : Option Bool) → no_prefer (log_words log) ≡ true
unfolding no_prefer
log_no_prefer None = refl
log_no_prefer (Some true) = refl
log_no_prefer (Some false) = refl

clauses_no_prefer : (cs : List Clause) (log : Option Bool) → no_prefer (map clause_text cs ++ log_words log) ≡ true
unfolding clause_text
clauses_no_prefer [] log = log_no_prefer log
clauses_no_prefer (c ∷ cs) log = attr_no_prefer c.left (operator c.equal) (right_text c.right) (map clause_text cs ++ log_words log)

pub cond_no_prefer : (c : Cond) → no_prefer (cond_words c) ≡ true
unfolding cond_words
cond_no_prefer c = clauses_no_prefer c.clauses c.grant_log

-- ---- lines

pub either : (a b : Bool) → (a || b) ≡ true → b ≡ false → a ≡ true
either true b h e = refl
either false true h e = absurd cc
either false false h e = absurd cc

-- the first words of the lines of each kind
file_first : (a : Args) (bits : ℕ) (more : List Text) → is_of_file a ≡ true → acl_line (file_words a bits ++ more) ≡ file_line (file_words a bits ++ more)
unfolding acl_line file_words
file_first (Args.Path name) bits more h = refl
file_first (Args.Execute name prefer) bits more h = refl
file_first (Args.PathNumber name number) bits more h = refl
file_first (Args.Device name mode major minor) bits more h = refl
file_first (Args.Path2 first second) bits more h = refl
file_first (Args.Mount device dir type flags) bits more h = refl
file_first (Args.Inet kind address port) bits more h = absurd cc
file_first (Args.Unix kind name) bits more h = absurd cc
file_first (Args.Env pattern_) bits more h = absurd cc
file_first (Args.Manual domain) bits more h = absurd cc

net_first : (a : Args) (bits : ℕ) (more : List Text) → is_of_file a ≡ false → acl_line (net_words a bits ++ more) ≡ net_line (net_words a bits ++ more)
unfolding acl_line net_words
net_first (Args.Inet kind address port) bits more h = refl
net_first (Args.Unix kind name) bits more h = refl
net_first (Args.Env pattern_) bits more h = refl
net_first (Args.Manual domain) bits more h = refl
net_first (Args.Path name) bits more h = absurd cc
net_first (Args.Execute name prefer) bits more h = absurd cc
net_first (Args.PathNumber name number) bits more h = absurd cc
net_first (Args.Device name mode major minor) bits more h = absurd cc
net_first (Args.Path2 first second) bits more h = absurd cc
net_first (Args.Mount device dir type flags) bits more h = absurd cc

-- a line of a file is no line of another kind, and the other way round
pub net_not : (a : Args) (bits : ℕ) → is_of_file a ≡ true → is_net a bits ≡ false
unfolding is_net
net_not (Args.Path name) bits h = refl
net_not (Args.Execute name prefer) bits h = refl
net_not (Args.PathNumber name number) bits h = refl
net_not (Args.Device name mode major minor) bits h = refl
net_not (Args.Path2 first second) bits h = refl
net_not (Args.Mount device dir type flags) bits h = refl
net_not (Args.Inet kind address port) bits h = absurd cc
net_not (Args.Unix kind name) bits h = absurd cc
net_not (Args.Env pattern_) bits h = absurd cc
net_not (Args.Manual domain) bits h = absurd cc

pub file_not : (a : Args) (bits : ℕ) → is_of_file a ≡ false → is_file a bits ≡ false
unfolding is_file
file_not (Args.Inet kind address port) bits h = refl
file_not (Args.Unix kind name) bits h = refl
file_not (Args.Env pattern_) bits h = refl
file_not (Args.Manual domain) bits h = refl
file_not (Args.Path name) bits h = absurd cc
file_not (Args.Execute name prefer) bits h = absurd cc
file_not (Args.PathNumber name number) bits h = absurd cc
file_not (Args.Device name mode major minor) bits h = absurd cc
file_not (Args.Path2 first second) bits h = absurd cc
file_not (Args.Mount device dir type flags) bits h = absurd cc

pub other : (a b : Bool) → (a || b) ≡ true → a ≡ false → b ≡ true
other true b h e = absurd cc
other false b h e = h

acl_again : (a : Args) (p : Perms) (more : List Text) → (is_file a p.bits || is_net a p.bits) ≡ true → no_prefer more ≡ true → acl_line (acl_words a p ++ more) ≡ Ok (a, p, more)
unfolding acl_words
acl_again a p more h k = by_kind (is_of_file a) refl
  where
    by_kind : (t : Bool) → is_of_file a ≡ t → acl_line (cond t (file_words a p.bits) (net_words a p.bits) ++ more) ≡ Ok (a, p, more)
    by_kind true e = file_first a p.bits more e ∙ file_again a p.bits more (either (is_file a p.bits) (is_net a p.bits) h (net_not a p.bits e)) k
    by_kind false e = net_first a p.bits more e ∙ net_again a p.bits more (other (is_file a p.bits) (is_net a p.bits) h (file_not a p.bits e)) (ends_prefer more k)

pub entry_again : (e : Entry) → is_entry e ≡ true → entry_of (entry_words e) ≡ Ok e
unfolding is_entry entry_of entry_words
entry_again e h =
    let split = both (is_file e.args e.perms.bits || is_net e.args e.perms.bits) (is_cond e.cond) h in
    rw (acl_again e.args e.perms (cond_words e.cond) split.0 (cond_no_prefer e.cond), cond_again e.cond split.1) refl

-- ---- what is read can be written

abbrev Whole : Type 0
Whole = Args × Perms × List Text

abbrev IsLine : Whole → Type 0
IsLine x = (is_file x.0 x.1.bits || is_net x.0 x.1.bits) ≡ true

left_true : (a b : Bool) → a ≡ true → (a || b) ≡ true
left_true true b h = refl
left_true false b h = absurd cc

right_true : (a b : Bool) → b ≡ true → (a || b) ≡ true
right_true true b h = refl
right_true false b h = h

acl_right : (words : List Text) (x : Whole) → acl_line words ≡ Ok x → IsLine x
unfolding acl_line
acl_right [] x e = absurd cc
acl_right (word ∷ words) x e = by_word (texts_equal word (codes "file")) (is_last words && begins word (codes "file")) e
  where
    by_word : (t u : Bool) → cond t (file_line (word ∷ words)) (cond u (Err LineKind.Arity) (net_line (word ∷ words))) ≡ Ok x → IsLine x
    by_word true u f = left_true (is_file x.0 x.1.bits) (is_net x.0 x.1.bits) (file_right (word ∷ words) x f)
    by_word false true f = absurd cc
    by_word false false f = right_true (is_file x.0 x.1.bits) (is_net x.0 x.1.bits) (net_right (word ∷ words) x f)

pub entry_read : (words : List Text) (e : Entry) → entry_of words ≡ Ok e → is_entry e ≡ true
unfolding is_entry entry_of
entry_read words e h =
    let line = bind_ok (acl_line words) (λ line. cond_of line.2 >>= λ c. Ok (entry line.0 line.1 c)) e h in
    let c = bind_ok (cond_of line.0.2) (λ c. Ok (entry line.0.0 line.0.1 c)) e line.2 in
    let fits = all (is_file line.0.0 line.0.1.bits || is_net line.0.0 line.0.1.bits) (is_cond c.0) (acl_right words line.0 line.1) (cond_read line.0.2 c.0 c.1) in
    subst (λ (y : Entry). ((is_file y.args y.perms.bits || is_net y.args y.perms.bits) && is_cond y.cond) ≡ true) (ok_is (entry line.0.0 line.0.1 c.0) e c.2) fits
