-- What is printed of a trace is made of words.
use Rattle.std.proofs.Common.{◌≡◌, ℕ, ◌<◌, ◌^◌, ◌==◌, nat_lt, true, ◌&&◌, not, List, [], ◌∷◌, ◌++◌, map, length, Option, Some, None, refl, subst, ◌∙◌, arith}
use Rattle.std.specs.Prelude.{codes}
use Rattle.std.specs.List.{list_all}
use Rattle.std.specs.Fmt.{decimal}
use Rattle.std.proofs.lemmas.Bool.{ltb-true, lt-ltb}
use Rattle.std.proofs.lemmas.List.Folds.{list_all-append}
use Rattle.tm_word.specs.Prelude.{Text, Word, are_bytes, is_solid, is_word, spell}
use Rattle.tm_rules.specs.Types.{Args, Attributes, Base, FileKindWord, Ids, Item, NumberUnion, Request, Stat, StatField, StatPlace, Tree}
use Rattle.tm_number.specs.Numbers.{number, range, spelling}
use Rattle.tm_rules.specs.Prelude.{bytes_if, is_domain_name, is_stat}
use Rattle.tm_line.specs.Names.{is_path}
use Rattle.tm_entry.specs.Attributes.{field_text, kind_text, place_text, attr_text}
use Rattle.tm_entry.specs.Written.{is_name_byte}
use Rattle.tm_entry.proofs.LeftLaws.{name_bytes}
use Rattle.tm_line.specs.DomainWords.{domain_parts, ends_domain}
use Rattle.tm_line.specs.Printing.{number_spelling}
use Rattle.tm_line.proofs.Steps.{both, all}
use Rattle.tm_line.proofs.WholeLaws.{solid_append, word_from, spell_solid, parts_are}
use Rattle.tm_line.proofs.WholeLaws as whole
use Rattle.tm_trace.specs.Printing.{quoted_text, words_if, real_path_text, argument_text, environment_text, target_text, base_of, stat_text, attribute_words, request_words, ids_words, item_words, tree_words}
use Rattle.tm_trace.specs.Written.{are_names, is_trace_request, is_pid, is_id, are_ids, is_item}
use Rattle.tm_trace.specs.Trees.{is_among}
use Rattle.tm_trace.proofs.Singles.{number_written, number_line, one_number}
use Rattle.tm_trace.proofs.Asking.{Given}
use Rattle.tm_trace.proofs.Askable.{line_of_request, given_by, line_are}

abbrev pub Are : List Text → Type 0
Are words = list_all is_word words ≡ true

pub more : (word : Text) (words : List Text) → is_word word ≡ true → Are words → Are (word ∷ words)
more word words h k = all (is_word word) (list_all is_word words) h k

pub both_are : (xs ys : List Text) → Are xs → Are ys → Are (xs ++ ys)
both_are xs ys h k = list_all-append is_word xs ys ∙ all (list_all is_word xs) (list_all is_word ys) h k

-- ---- numbers

number_word : (base : Base) (n : ℕ) → nat_lt n (2 ^ 64) ≡ true → is_word (spelling base n) ≡ true
unfolding number_spelling
number_word base n h =
    let x = number base n in
    subst (λ t. is_word t ≡ true) (one_number x) (whole.number_is (NumberUnion.One (range x x)) (number_line (NumberUnion.One (range x x)) (number_written x h)))

pub decimal_is : (n : ℕ) → nat_lt n (2 ^ 32) ≡ true → is_word (decimal n) ≡ true
decimal_is n h = let low : n < 2 ^ 32 = ltb-true n (2 ^ 32) h in number_word Base.Decimal n (lt-ltb n (2 ^ 64) (omega (arith, low)))

-- ---- attributes

cut_is : (front right : Text) → is_solid front ≡ true → is_solid right ≡ true → is_word (front ++ 61 ∷ right) ≡ true
cut_is [] right h k = word_from 61 right k
cut_is (b ∷ front) right h k = word_from b (front ++ 61 ∷ right) (solid_append (b ∷ front) (61 ∷ right) h k)

quoted_solid : (w : Word) → are_bytes w ≡ true → is_solid (quoted_text w) ≡ true
quoted_solid w h = solid_append (spell w) (34 ∷ []) (spell_solid w h) refl

field_solid : (field : StatField) → is_solid (field_text field) ≡ true
field_solid StatField.Uid = refl
field_solid StatField.Gid = refl
field_solid StatField.Ino = refl
field_solid StatField.Perm = refl
field_solid StatField.Major = refl
field_solid StatField.Minor = refl
field_solid StatField.DevMajor = refl
field_solid StatField.DevMinor = refl

kind_solid : (kind : FileKindWord) → is_solid (kind_text kind) ≡ true
kind_solid FileKindWord.File = refl
kind_solid FileKindWord.Directory = refl
kind_solid FileKindWord.Symlink = refl
kind_solid FileKindWord.Socket = refl
kind_solid FileKindWord.Fifo = refl
kind_solid FileKindWord.Char = refl
kind_solid FileKindWord.Block = refl

place_solid : (place : StatPlace) → is_solid (place_text place) ≡ true
place_solid StatPlace.Path1 = refl
place_solid StatPlace.Path2 = refl
place_solid StatPlace.Path1Parent = refl
place_solid StatPlace.Path2Parent = refl

solid_of : (text : Text) → is_word text ≡ true → is_solid text ≡ true
solid_of text h = (both (not (length text == 0)) (is_solid text) h).1

real_is : (w : Word) → are_bytes w ≡ true → is_word (real_path_text w) ≡ true
unfolding attr_text
real_is w h = cut_is (codes "exec.realpath") (quoted_text w) refl (quoted_solid w h)

argument_is : (w : Word) → are_bytes w ≡ true → is_word (argument_text w) ≡ true
argument_is w h = cut_is (codes "exec.argv") (quoted_text w) refl (quoted_solid w h)

environment_is : (pair : Word × Word) → list_all is_name_byte pair.0 ≡ true → are_bytes pair.1 ≡ true → is_word (environment_text pair) ≡ true
unfolding attr_text
environment_is pair h k =
    cut_is (codes "exec.envp[" ++ 34 ∷ (spell pair.0 ++ 34 ∷ 93 ∷ [])) (quoted_text pair.1) (solid_append (spell pair.0) (34 ∷ 93 ∷ []) (spell_solid pair.0 (name_bytes pair.0 h)) refl) (quoted_solid pair.1 k)

target_is : (w : Word) → are_bytes w ≡ true → is_word (target_text w) ≡ true
unfolding attr_text
target_is w h = cut_is (codes "symlink.target") (quoted_text w) refl (quoted_solid w h)

stat_is : (s : Stat) → is_stat s ≡ true → is_word (stat_text s) ≡ true
unfolding attr_text
stat_is (Stat.Number place field value) h =
    cut_is (place_text place ++ field_text field) (spelling (base_of field) value) (solid_append (place_text place) (field_text field) (place_solid place) (field_solid field)) (solid_of (spelling (base_of field) value) (number_word (base_of field) value h))
stat_is (Stat.Kind place kind) h = cut_is (place_text place ++ codes "type") (kind_text kind) (solid_append (place_text place) (codes "type") (place_solid place) refl) (kind_solid kind)

if_are : (text : Word → Text) (o : Option Word) → ((w : Word) → are_bytes w ≡ true → is_word (text w) ≡ true) → bytes_if o ≡ true → Are (words_if text o)
if_are text None h k = refl
if_are text (Some w) h k = more (text w) [] (h w k) refl

arguments_are : (ws : List Word) → list_all are_bytes ws ≡ true → Are (map argument_text ws)
arguments_are [] h = refl
arguments_are (w ∷ ws) h = let t = both (are_bytes w) (list_all are_bytes ws) h in more (argument_text w) (map argument_text ws) (argument_is w t.0) (arguments_are ws t.1)

environment_are : (envp : List (Word × Word)) → are_names envp ≡ true → list_all (λ pair. are_bytes pair.1) envp ≡ true → Are (map environment_text envp)
environment_are [] h k = refl
environment_are (pair ∷ envp) h k =
    let t = both (list_all is_name_byte pair.0) (are_names envp) h in
    let u = both (are_bytes pair.1) (list_all (λ p. are_bytes p.1) envp) k in
    more (environment_text pair) (map environment_text envp) (environment_is pair t.0 u.0) (environment_are envp t.1 u.1)

stats_are : (stats : List Stat) → list_all is_stat stats ≡ true → Are (map stat_text stats)
stats_are [] h = refl
stats_are (s ∷ stats) h = let t = both (is_stat s) (list_all is_stat stats) h in more (stat_text s) (map stat_text stats) (stat_is s t.0) (stats_are stats t.1)

pub attributes_are : (a : Args) (perm : ℕ) (at : Attributes) → Given a perm at → list_all is_word (attribute_words at) ≡ true
unfolding attribute_words
attributes_are a perm at g =
    both_are (words_if real_path_text at.real_path) (map argument_text at.argv ++ (map environment_text at.envp ++ (words_if target_text at.target ++ map stat_text at.stats))) (if_are real_path_text at.real_path real_is g.real)
    (both_are (map argument_text at.argv) (map environment_text at.envp ++ (words_if target_text at.target ++ map stat_text at.stats)) (arguments_are at.argv g.argv)
    (both_are (map environment_text at.envp) (words_if target_text at.target ++ map stat_text at.stats) (environment_are at.envp g.names g.values)
    (both_are (words_if target_text at.target) (map stat_text at.stats) (if_are target_text at.target target_is g.target) (stats_are at.stats g.low))))

-- none begins with `/`
pub attributes_end : (at : Attributes) → ends_domain (attribute_words at) ≡ true
unfolding attribute_words attr_text
attributes_end at = by_parts at.real_path at.argv at.envp at.target at.stats
  where
    by_parts : (real : Option Word) (argv : List Word) (envp : List (Word × Word)) (target : Option Word) (stats : List Stat)
        → ends_domain (words_if real_path_text real ++ (map argument_text argv ++ (map environment_text envp ++ (words_if target_text target ++ map stat_text stats)))) ≡ true
    by_parts (Some w) argv envp target stats = refl
    by_parts None (w ∷ argv) envp target stats = refl
    by_parts None [] (pair ∷ envp) target stats = refl
    by_parts None [] [] (Some w) stats = refl
    by_parts None [] [] None [] = refl
    by_parts None [] [] None (Stat.Number StatPlace.Path1 field value ∷ stats) = refl
    by_parts None [] [] None (Stat.Number StatPlace.Path2 field value ∷ stats) = refl
    by_parts None [] [] None (Stat.Number StatPlace.Path1Parent field value ∷ stats) = refl
    by_parts None [] [] None (Stat.Number StatPlace.Path2Parent field value ∷ stats) = refl
    by_parts None [] [] None (Stat.Kind StatPlace.Path1 kind ∷ stats) = refl
    by_parts None [] [] None (Stat.Kind StatPlace.Path2 kind ∷ stats) = refl
    by_parts None [] [] None (Stat.Kind StatPlace.Path1Parent kind ∷ stats) = refl
    by_parts None [] [] None (Stat.Kind StatPlace.Path2Parent kind ∷ stats) = refl

-- ---- lines

pub request_are : (r : Request) → is_trace_request r ≡ true → list_all is_word (request_words r ++ attribute_words r.attributes) ≡ true
unfolding request_words
request_are r h =
    both_are (request_words r) (attribute_words r.attributes) (line_are r.args r.perm (line_of_request r h)) (attributes_are r.args r.perm r.attributes (given_by r h))

pub pid_low : (pid : ℕ) → is_pid pid ≡ true → nat_lt pid (2 ^ 32) ≡ true
pid_low pid h = (both (not (pid == 0)) (nat_lt pid (2 ^ 32)) h).1

-- eight ids below 2^32
pub record AreIds (ids : Ids) : Type 0 where
  pub uid : is_id ids.uid ≡ true
  pub euid : is_id ids.euid ≡ true
  pub suid : is_id ids.suid ≡ true
  pub fsuid : is_id ids.fsuid ≡ true
  pub gid : is_id ids.gid ≡ true
  pub egid : is_id ids.egid ≡ true
  pub sgid : is_id ids.sgid ≡ true
  pub fsgid : is_id ids.fsgid ≡ true

pub ids_parts : (ids : Ids) → are_ids ids ≡ true → AreIds ids
ids_parts ids h =
    let g = both (is_id ids.uid && is_id ids.euid && is_id ids.suid && is_id ids.fsuid && is_id ids.gid && is_id ids.egid && is_id ids.sgid) (is_id ids.fsgid) h in
    let f = both (is_id ids.uid && is_id ids.euid && is_id ids.suid && is_id ids.fsuid && is_id ids.gid && is_id ids.egid) (is_id ids.sgid) g.0 in
    let e = both (is_id ids.uid && is_id ids.euid && is_id ids.suid && is_id ids.fsuid && is_id ids.gid) (is_id ids.egid) f.0 in
    let d = both (is_id ids.uid && is_id ids.euid && is_id ids.suid && is_id ids.fsuid) (is_id ids.gid) e.0 in
    let c = both (is_id ids.uid && is_id ids.euid && is_id ids.suid) (is_id ids.fsuid) d.0 in
    let b = both (is_id ids.uid && is_id ids.euid) (is_id ids.suid) c.0 in
    let a = both (is_id ids.uid) (is_id ids.euid) b.0 in
    record { uid = a.0; euid = a.1; suid = b.1; fsuid = c.1; gid = d.1; egid = e.1; sgid = f.1; fsgid = g.1 }

pub ids_whole : (ids : Ids) → AreIds ids → are_ids ids ≡ true
ids_whole ids p =
    all (is_id ids.uid && is_id ids.euid && is_id ids.suid && is_id ids.fsuid && is_id ids.gid && is_id ids.egid && is_id ids.sgid) (is_id ids.fsgid)
    (all (is_id ids.uid && is_id ids.euid && is_id ids.suid && is_id ids.fsuid && is_id ids.gid && is_id ids.egid) (is_id ids.sgid)
    (all (is_id ids.uid && is_id ids.euid && is_id ids.suid && is_id ids.fsuid && is_id ids.gid) (is_id ids.egid)
    (all (is_id ids.uid && is_id ids.euid && is_id ids.suid && is_id ids.fsuid) (is_id ids.gid)
    (all (is_id ids.uid && is_id ids.euid && is_id ids.suid) (is_id ids.fsuid)
    (all (is_id ids.uid && is_id ids.euid) (is_id ids.suid) (all (is_id ids.uid) (is_id ids.euid) p.uid p.euid) p.suid) p.fsuid) p.gid) p.egid) p.sgid) p.fsgid

ids_are : (ids : Ids) → are_ids ids ≡ true → Are (ids_words ids)
ids_are ids h =
    let p = ids_parts ids h in
    let g = more (decimal ids.fsgid) [] (decimal_is ids.fsgid p.fsgid) refl in
    let f = more (decimal ids.sgid) (decimal ids.fsgid ∷ []) (decimal_is ids.sgid p.sgid) g in
    let e = more (decimal ids.egid) (decimal ids.sgid ∷ decimal ids.fsgid ∷ []) (decimal_is ids.egid p.egid) f in
    let d = more (decimal ids.gid) (decimal ids.egid ∷ decimal ids.sgid ∷ decimal ids.fsgid ∷ []) (decimal_is ids.gid p.gid) e in
    let c = more (decimal ids.fsuid) (decimal ids.gid ∷ decimal ids.egid ∷ decimal ids.sgid ∷ decimal ids.fsgid ∷ []) (decimal_is ids.fsuid p.fsuid) d in
    let b = more (decimal ids.suid) (decimal ids.fsuid ∷ decimal ids.gid ∷ decimal ids.egid ∷ decimal ids.sgid ∷ decimal ids.fsgid ∷ []) (decimal_is ids.suid p.suid) c in
    let a = more (decimal ids.euid) (decimal ids.suid ∷ decimal ids.fsuid ∷ decimal ids.gid ∷ decimal ids.egid ∷ decimal ids.sgid ∷ decimal ids.fsgid ∷ []) (decimal_is ids.euid p.euid) b in
    more (decimal ids.uid) (decimal ids.euid ∷ decimal ids.suid ∷ decimal ids.fsuid ∷ decimal ids.gid ∷ decimal ids.egid ∷ decimal ids.sgid ∷ decimal ids.fsgid ∷ []) (decimal_is ids.uid p.uid) a

-- the pid of a record
abbrev pub pid_of : Item → ℕ
pid_of (Item.Ids pid ids) = pid
pid_of (Item.Fork pid child) = pid
pid_of (Item.Do pid request) = pid

pub item_are : (own : List ℕ) (item : Item) → is_pid (pid_of item) ≡ true → is_item own item ≡ true → list_all is_word (item_words item) ≡ true
unfolding item_words
item_are own (Item.Ids pid ids) h k =
    more (codes "ids") (decimal pid ∷ ids_words ids) refl (more (decimal pid) (ids_words ids) (decimal_is pid (pid_low pid h)) (ids_are ids (both (is_among own pid) (are_ids ids) k).1))
item_are own (Item.Fork pid child) h k =
    more (codes "fork") (decimal pid ∷ decimal child ∷ []) refl
    (more (decimal pid) (decimal child ∷ []) (decimal_is pid (pid_low pid h)) (more (decimal child) [] (decimal_is child (pid_low child (both (is_among own pid) (is_pid child) k).1)) refl))
item_are own (Item.Do pid request) h k =
    more (codes "do") (decimal pid ∷ (request_words request ++ attribute_words request.attributes)) refl
    (more (decimal pid) (request_words request ++ attribute_words request.attributes) (decimal_is pid (pid_low pid h)) (request_are request (both (is_among own pid) (is_trace_request request) k).1))

pub tree_are : (tree : Tree) → is_pid tree.pid ≡ true → is_domain_name is_path tree.start ≡ true → list_all is_word (tree_words tree) ≡ true
unfolding tree_words
tree_are tree h k = more (codes "tree") (decimal tree.pid ∷ domain_parts tree.start) refl (more (decimal tree.pid) (domain_parts tree.start) (decimal_is tree.pid (pid_low tree.pid h)) (parts_are tree.start k))
