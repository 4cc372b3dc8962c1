-- Worked audit texts.
use Rattle.std.proofs.Common.{◌≡◌, ℕ, Bool, true, false, List, [], ◌∷◌, ◌++◌, Some, None, refl}
use Rattle.std.specs.Prelude.{codes, Option, Err}
use Rattle.std.specs.Fmt.{digits}
use Rattle.tm_word.specs.Prelude.{Text, literal, spelled_pattern}
use Rattle.tm_rules.specs.Types.{Args, Attributes, Domain, Entry, EntryPlace, LineKind, Mode, Move, NamePlace, NameUnion, Namespace, Policy, Proc, Profile, Reason, Request, Verdict, function_of}
use Rattle.tm_rules.specs.Prelude.{Grammar, audit_text, config_of, namespace_named}
use Rattle.tm_line.specs.Permissions.{perm_on}
use Rattle.tm_line.specs.Printing.{name_spelling}
use Rattle.tm_grammar.specs.FileLines.{file_words}
use Rattle.tm_grammar.specs.NetLines.{net_words}
use Rattle.tm_grammar.specs.Entries.{acl_words}
use Rattle.tm_grammar.specs.Attributes.{attr_text}
use Rattle.tm_grammar.specs.Printing.{attribute_words, request_words, request_text, attributes_text}
use Rattle.tm_audit.specs.Parts.{PrintsRequests}

-- all definitions that are shut elsewhere, opened by naming this one
unfoldable pub computed : Unit {0}
unfolding digits literal spelled_pattern function_of config_of namespace_named perm_on name_spelling file_words net_words acl_words attr_text attribute_words request_words audit_text
computed = tt

-- a grammar that reads nothing, and prints requests
abbrev grammar : Grammar
grammar =
    record {
      read_line = λ file line. Err LineKind.Arity;
      is_path = λ text. true;
      print_entry = λ entry. [];
      can_write = λ entry. false;
      print_request = request_text;
      print_attributes = attributes_text;
    }

prints : PrintsRequests grammar
prints = record { request = λ r. refl; attributes = λ r. refl }

-- profile 0 is disabled, 1 is enforcing, 2 is learning, each with both logs; 3 is enforcing without
-- grant log, 4 without reject log
abbrev profile : Mode → Bool → Bool → Profile
profile mode grant reject = record { comment = []; max_audit_log = 1024; max_learning_entry = 2048; config = record { mode = mode; logs = record { grant = grant; reject = reject } }; slots = [] }

abbrev profiles : List (ℕ × Profile)
profiles =
    (0, profile Mode.Disabled true true) ∷ (1, profile Mode.Enforcing true true) ∷ (2, profile Mode.Learning true true) ∷ (3, profile Mode.Enforcing false true) ∷ (4, profile Mode.Enforcing true false) ∷ []

abbrev line : Option Bool → Entry
line logged = record { args = Args.Path (NameUnion.One (literal (codes "/a"))); perms = record { bits = 2 }; cond = record { clauses = []; grant_log = logged } }

-- three lines `file read /a`: without `grant_log`, with yes, with no; ACL group 7 has the last two
abbrev domain : ℕ → Domain
domain number =
    record { name = codes "<kernel>"; live = true; profile = number; groups = (7, tt) ∷ []; quota_exceeded = false; transition_failed = false; entries = line None ∷ line (Some true) ∷ line (Some false) ∷ [] }

abbrev kernel : Namespace
kernel =
    record {
      name = codes "<kernel>";
      profiles = profiles;
      groups = record { paths = []; numbers = []; addrs = [] };
      aggregators = [];
      controls = [];
      acl_groups = (7, line (Some true) ∷ line (Some false) ∷ []) ∷ [];
    }

abbrev policy : Policy
policy =
    record {
      namespaces = kernel ∷ [];
      domains = domain 0 ∷ domain 1 ∷ domain 2 ∷ domain 3 ∷ domain 4 ∷ domain 9 ∷ [];
      by_non_root = false;
      managers = [];
      opened = true;
    }

abbrev process : Proc
process = record { pid = 7; ppid = 0; ids = record { uid = 0; euid = 0; suid = 0; fsuid = 0; gid = 0; egid = 0; sgid = 0; fsgid = 0 } }

abbrev nothing : Attributes
nothing = record { real_path = None; argv = []; envp = []; target = None; stats = [] }

abbrev read : Text → Request
read name = record { args = Args.Path (NameUnion.One (literal name)); perm = 1; attributes = nothing }

abbrev execute : Request
execute = record { args = Args.Path (NameUnion.One (literal (codes "/bin/ls"))); perm = 0; attributes = record nothing { real_path = Some (codes "/bin/ls"); argv = codes "ls" ∷ codes "-l" ∷ [] } }

abbrev manual : Request
manual = record { args = Args.Manual (codes "<kernel> /a"); perm = 0; attributes = nothing }

abbrev verdict : Option Mode → Reason → Verdict
verdict mode reason = record { mode = mode; reason = reason; name = NamePlace.Own; step = Move.Stay; target = None; line = None }

abbrev text : ℕ → Request → Option Mode → Reason → Option Text
text d request mode reason = audit_text grammar policy d process request (verdict mode reason)

abbrev of_process : Text
of_process = codes " pid=7 ppid=0 uid=0 euid=0 suid=0 fsuid=0 gid=0 egid=0 sgid=0 fsgid=0"

-- a denied read
pub denied : text 1 (read (codes "/b")) (Some Mode.Enforcing) Reason.NoEntry
    ≡ Some (codes "profile=1 mode=enforcing granted=no verdict=no_entry pid=7 ppid=0 uid=0 euid=0 suid=0 fsuid=0 gid=0 egid=0 sgid=0 fsgid=0" ++ 10 ∷ (codes "<kernel>" ++ 10 ∷ (codes "file read /b" ++ 10 ∷ 10 ∷ [])))
unfolding computed
denied = refl

-- a read that is granted by an entry of its own or of an ACL group
abbrev granted_read : Text
granted_read = codes "profile=1 mode=enforcing granted=yes verdict=entry" ++ of_process ++ 10 ∷ (codes "<kernel>" ++ 10 ∷ (codes "file read /a" ++ 10 ∷ 10 ∷ []))

pub granted : text 1 (read (codes "/a")) (Some Mode.Enforcing) (Reason.Entry (EntryPlace.Own 0)) ≡ Some granted_read
unfolding computed
granted = refl

pub granted_by_group : text 1 (read (codes "/a")) (Some Mode.Enforcing) (Reason.Entry (EntryPlace.Acl 7 0)) ≡ Some granted_read
unfolding computed
granted_by_group = refl

-- the entry's own `grant_log` decides, whatever the profile's is
pub not_logged : text 1 (read (codes "/a")) (Some Mode.Enforcing) (Reason.Entry (EntryPlace.Own 2)) ≡ None
unfolding computed
not_logged = refl

pub not_logged_by_group : text 1 (read (codes "/a")) (Some Mode.Enforcing) (Reason.Entry (EntryPlace.Acl 7 1)) ≡ None
unfolding computed
not_logged_by_group = refl

pub logged_by_entry : text 3 (read (codes "/a")) (Some Mode.Enforcing) (Reason.Entry (EntryPlace.Own 1))
    ≡ Some (codes "profile=3 mode=enforcing granted=yes verdict=entry" ++ of_process ++ 10 ∷ (codes "<kernel>" ++ 10 ∷ (codes "file read /a" ++ 10 ∷ 10 ∷ [])))
unfolding computed
logged_by_entry = refl

-- without one the profile's grant log
pub no_grant_log : text 3 (read (codes "/a")) (Some Mode.Enforcing) (Reason.Entry (EntryPlace.Own 0)) ≡ None
unfolding computed
no_grant_log = refl

-- every other reason: the profile's reject log
pub no_reject_log : text 4 (read (codes "/b")) (Some Mode.Enforcing) Reason.NoEntry ≡ None
unfolding computed
no_reject_log = refl

pub asked : text 3 (read (codes "/b")) (Some Mode.Enforcing) Reason.Ask
    ≡ Some (codes "profile=3 mode=enforcing granted=no verdict=ask" ++ of_process ++ 10 ∷ (codes "<kernel>" ++ 10 ∷ (codes "file read /b" ++ 10 ∷ 10 ∷ [])))
unfolding computed
asked = refl

-- what is learned is not granted by an entry; the header has the attributes
pub learned : text 2 execute (Some Mode.Learning) Reason.Learn
    ≡ Some (codes "profile=2 mode=learning granted=no verdict=learn" ++ of_process ++ codes " exec.realpath=\"/bin/ls\" exec.argv=\"ls\" exec.argv=\"-l\"" ++ 10 ∷ (codes "<kernel>" ++ 10 ∷ (codes "file execute /bin/ls" ++ 10 ∷ 10 ∷ [])))
unfolding computed
learned = refl

-- none in mode disabled, also where a transition is refused there, and none for a manual transition
pub disabled : text 0 (read (codes "/a")) (Some Mode.Disabled) Reason.Disabled ≡ None
unfolding computed
disabled = refl

pub disabled_not_ready : text 0 execute (Some Mode.Disabled) Reason.NotReady ≡ None
unfolding computed
disabled_not_ready = refl

pub manual_none : text 1 manual None (Reason.Entry (EntryPlace.Own 1)) ≡ None
unfolding computed
manual_none = refl

-- none where the domain or its profile isn't there
pub no_domain : text 6 (read (codes "/a")) (Some Mode.Enforcing) Reason.NoEntry ≡ None
unfolding computed
no_domain = refl

pub no_profile : text 5 (read (codes "/a")) (Some Mode.Enforcing) Reason.NoEntry ≡ None
unfolding computed
no_profile = refl
