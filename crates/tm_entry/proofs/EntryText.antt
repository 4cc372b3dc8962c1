-- A printed entry is made of words, which are found again in the line that joins them.
use Rattle.std.proofs.Common.{◌≡◌, ◌||◌, Bool, true, false, cond, refl, ◌∙◌}
use Rattle.std.specs.List.{list_all}
use Rattle.std.proofs.lemmas.List.Folds.{list_all-append}
use Rattle.tm_word.specs.Prelude.{is_word, joined, words_of}
use Rattle.tm_rules.specs.Types.{Args, Entry, Perms}
use Rattle.tm_file.proofs.Steps.{both, all}
use Rattle.tm_file.proofs.WholeLaws.{words_again}
use Rattle.tm_file.specs.FileLines.{file_words, is_file}
use Rattle.tm_file.proofs.FileText.{file_are}
use Rattle.tm_net.specs.NetLines.{net_words, is_net}
use Rattle.tm_net.proofs.NetText.{net_are}
use Rattle.tm_cond.specs.Reading.{cond_words}
use Rattle.tm_cond.specs.Written.{is_cond}
use Rattle.tm_cond.proofs.WordLaws.{cond_is}
use Rattle.tm_entry.specs.Entries.{is_of_file, acl_words, entry_words, is_entry}
use Rattle.tm_entry.proofs.EntryLaws.{either, other, net_not, file_not}

acl_are : (a : Args) (p : Perms) → (is_file a p.bits || is_net a p.bits) ≡ true → list_all is_word (acl_words a p) ≡ true
unfolding acl_words
acl_are a p h = by_kind (is_of_file a) refl
  where
    by_kind : (t : Bool) → is_of_file a ≡ t → list_all is_word (cond t (file_words a p.bits) (net_words a p.bits)) ≡ true
    by_kind true e = file_are a p.bits (either (is_file a p.bits) (is_net a p.bits) h (net_not a p.bits e))
    by_kind false e = net_are a p.bits (other (is_file a p.bits) (is_net a p.bits) h (file_not a p.bits e))

pub entry_are : (e : Entry) → is_entry e ≡ true → list_all is_word (entry_words e) ≡ true
unfolding is_entry entry_words
entry_are e h =
    let split = both (is_file e.args e.perms.bits || is_net e.args e.perms.bits) (is_cond e.cond) h in
    list_all-append is_word (acl_words e.args e.perms) (cond_words e.cond)
    ∙ all (list_all is_word (acl_words e.args e.perms)) (list_all is_word (cond_words e.cond)) (acl_are e.args e.perms split.0) (cond_is e.cond split.1)

pub entry_found : (e : Entry) → is_entry e ≡ true → words_of (joined (entry_words e)) ≡ entry_words e
entry_found e h = words_again (entry_words e) (entry_are e h)
