-- Worked examples: quiet lines, and clean steps.
use Rattle.std.proofs.Common.{◌≡◌, true, false, refl}
use Rattle.std.specs.Prelude.{codes}
use Rattle.tm_word.specs.Prelude.{words_of}
use Rattle.tm_rules.specs.Types.{EditReply, FileKind, Reply, Step}
use Rattle.tm_rules.specs.Prelude.{is_clean_step, is_quiet}

-- an ACL line is quiet without execute among its permissions
pub quiet_acl : is_quiet FileKind.Domain (codes " file read/write /a") ≡ true
unfolding is_quiet words_of
quiet_acl = refl

pub loud_acl : is_quiet FileKind.Domain (codes "file read/execute /a") ≡ false
unfolding is_quiet words_of
loud_acl = refl

-- a line that removes isn't quiet
pub loud_delete : is_quiet FileKind.Domain (codes "delete file read /a") ≡ false
unfolding is_quiet words_of
loud_delete = refl

-- one namespace word may stand in front of an ACL group
pub quiet_group : is_quiet FileKind.Exception (codes "<a> acl_group 0 file read /a") ≡ true
unfolding is_quiet words_of
quiet_group = refl

-- an edit that was refused is clean whatever its line, and one that is done only where its line is
-- quiet
pub refused : is_clean_step (Step.Edit 0 FileKind.Profile (codes "a"), Reply.Edit EditReply.NotManager) ≡ true
refused = refl

pub done : is_clean_step (Step.Edit 0 FileKind.Profile (codes "a"), Reply.Edit EditReply.Done) ≡ false
unfolding is_quiet words_of
done = refl
