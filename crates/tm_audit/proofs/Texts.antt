-- Texts that are put together.
use Rattle.std.proofs.Common.{◌≡◌, ◌++◌, append_assoc}
use Rattle.std.specs.Prelude.{codes, decimal}
use Rattle.tm_word.specs.Prelude.{Text}
use Rattle.tm_rules.specs.Types.{Proc}
use Rattle.tm_rules.specs.Prelude.{ids_text}

regrouped : (o a b c d e f g h i j k l m n p q r s t u : Text)
    → o ++ a ++ b ++ c ++ d ++ e ++ f ++ g ++ h ++ i ++ j ++ k ++ l ++ m ++ n ++ p ++ q ++ r ++ s ++ t ++ u
    ≡ o ++ (a ++ b ++ c ++ d ++ e ++ f ++ g ++ h ++ i ++ j ++ k ++ l ++ m ++ n ++ p ++ q ++ r ++ s ++ t ++ u)
regrouped o a b c d e f g h i j k l m n p q r s t u = simp append_assoc

-- the process and its ids, appended one by one
pub ids_appended : (o : Text) (p : Proc)
    → o ++ codes " pid=" ++ decimal p.pid ++ codes " ppid=" ++ decimal p.ppid ++ codes " uid=" ++ decimal p.ids.uid ++ codes " euid=" ++ decimal p.ids.euid ++ codes " suid=" ++ decimal p.ids.suid ++ codes " fsuid=" ++ decimal p.ids.fsuid
    ++ codes " gid=" ++ decimal p.ids.gid ++ codes " egid=" ++ decimal p.ids.egid ++ codes " sgid=" ++ decimal p.ids.sgid ++ codes " fsgid=" ++ decimal p.ids.fsgid
    ≡ o ++ ids_text p
ids_appended o p =
    regrouped o (codes " pid=") (decimal p.pid) (codes " ppid=") (decimal p.ppid) (codes " uid=") (decimal p.ids.uid) (codes " euid=") (decimal p.ids.euid) (codes " suid=") (decimal p.ids.suid) (codes " fsuid=") (decimal p.ids.fsuid)
    (codes " gid=") (decimal p.ids.gid) (codes " egid=") (decimal p.ids.egid) (codes " sgid=") (decimal p.ids.sgid) (codes " fsgid=") (decimal p.ids.fsgid)
