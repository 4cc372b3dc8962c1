-- A boot of three trees: learned, and replayed under enforcing.
use Rattle.std.specs.Prelude.{◌≡◌, ℕ, Bool, true, false, ◌&&◌, List, [], ◌∷◌, ◌++◌, Option, Some, None, codes, refl}
use Rattle.tm_word.specs.Prelude.{Pattern, Text, lists_equal, literal, texts_equal}
use Rattle.tm_rules.specs.Prelude.{Trace, is_request, item_is_request, options_equal}
use Rattle.tm_rules.specs.Types.{Addr, AddrUnion, Args, Base, ControlKind, Element, InetKind, Item, Mode, NameUnion, Namespace, NumberUnion, Policy, Profile, Repeat, Request, Run, Take, Tree, no_attributes}
use Rattle.std.specs.List.{list_all}
use Rattle.tm_legal.specs.Prelude.{NobodyCanMove, Scene, domain_names, final_policy, rerun_scene, rounds, run_of, start_of}
use Rattle.tm_rerun.specs.Summary.{summary_text}
use Rattle.tm_examples.proofs.Examples.{computed, «<kernel>», no_groups, domain, policy_of, file_line, read, file_request, execute, begins_with_slash, grammar}

abbrev logged : Mode → Profile
logged mode = record { comment = []; max_audit_log = 1024; max_learning_entry = 2048; config = record { mode = mode; logs = record { grant = false; reject = true } }; slots = [] }

abbrev bytes : List ℕ → List Element
bytes [] = []
bytes (b ∷ bs) = Element.Byte b ∷ bytes bs

abbrev tty : Pattern
tty = record { repeat = Repeat.Once; first = []; minus = [] } ∷ record { repeat = Repeat.Once; first = bytes (codes "dev"); minus = [] } ∷ record { repeat = Repeat.Once; first = bytes (codes "tty") ++ Element.Digits ∷ []; minus = [] } ∷ []

abbrev boot_namespace : Namespace
boot_namespace =
    record {
      name = «<kernel>»;
      profiles = (0, logged Mode.Disabled) ∷ (1, logged Mode.Learning) ∷ (2, logged Mode.Permissive) ∷ (3, logged Mode.Enforcing) ∷ [];
      groups = record no_groups { paths = (codes "TTY", tty) ∷ [] };
      aggregators = [];
      controls =
          record { kind = ControlKind.Initialize; program = Some (codes "/usr/sbin/sshd"); domain = None; last = false }
          ∷ record { kind = ControlKind.Keep; program = None; domain = Some (codes "<kernel> /usr/sbin/sshd /bin/bash"); last = false }
          ∷ [];
      acl_groups = (
        0,
        file_line 2 (literal (codes "/etc/ld.so.cache"))
            ∷ record { args = Args.Path (NameUnion.Group (codes "TTY")); perms = record { bits = 6 }; cond = record { clauses = []; grant_log = None } }
            ∷ [],
      )
          ∷ [];
    }

abbrev boot_policy : Policy
boot_policy = policy_of boot_namespace (record (domain «<kernel>» 1 []) { groups = (0, tt) ∷ [] } ∷ [])

abbrev number : ℕ → NumberUnion
number n = NumberUnion.One (record { low = record { value = n; base = Base.Decimal }; high = record { value = n; base = Base.Decimal } })

abbrev inet : ℕ → Request
inet perm = record { args = Args.Inet InetKind.Stream (AddrUnion.One (record { low = Addr.V4 0; high = Addr.V4 0 })) (number 22); perm = perm; attributes = no_attributes }

abbrev env : Text → Request
env name = record { args = Args.Env (literal name); perm = 0; attributes = no_attributes }

abbrev boot_tree : ℕ → List Item → Tree
boot_tree pid items = record { start = «<kernel>»; pid = pid; records = items }

abbrev boot_trace : Trace
boot_trace =
    boot_tree 1 (
    Item.Do 1 (execute (codes "/sbin/init") (codes "/lib/systemd/systemd") (codes "init"))
    ∷ Item.Do 1 (read (codes "/etc/ld.so.cache"))
    ∷ Item.Do 1 (read (codes "/etc/inittab"))
    ∷ [])
    ∷ boot_tree 2 (
    Item.Do 2 (execute (codes "/usr/sbin/sshd") (codes "/usr/sbin/sshd") (codes "sshd"))
    ∷ Item.Do 2 (inet 0)
    ∷ Item.Do 2 (inet 1)
    ∷ Item.Fork 2 21
    ∷ Item.Do 21 (execute (codes "/bin/bash") (codes "/bin/bash") (codes "-bash"))
    ∷ Item.Do 21 (env (codes "HOME"))
    ∷ Item.Do 21 (execute (codes "/bin/ls") (codes "/bin/ls") (codes "ls"))
    ∷ Item.Do 21 (file_request 5 (codes "/home/"))
    ∷ [])
    ∷ boot_tree 3 (
    Item.Do 3 (execute (codes "/usr/sbin/sshd") (codes "/usr/sbin/sshd") (codes "sshd"))
    ∷ Item.Do 3 (execute (codes "/bin/bash") (codes "/bin/bash") (codes "-bash"))
    ∷ Item.Do 3 (file_request 2 (codes "/dev/tty1"))
    ∷ [])
    ∷ []

abbrev boot : Scene
boot = record { grammar = grammar; policy = boot_policy; trace = boot_trace; editors = []; book = None }

abbrev boot_run : Run
boot_run = run_of (rounds boot (start_of boot) 21)

boot_counts : summary_text boot_run boot.policy (final_policy boot boot_run) ≡ codes "requests 13 granted 13 denied 0 learned 9 steps 14 domains 4 clean yes plain yes\n"
unfolding computed summary_text
boot_counts = refl

boot_over : NobodyCanMove boot (rounds boot (start_of boot) 21)
unfolding computed
boot_over = (refl, (refl, (refl, (refl, tt))))

-- The rerun: no step, every take granted, in the same domains

abbrev again : Scene
again = rerun_scene boot boot_run

abbrev again_run : Run
again_run = run_of (rounds again (start_of again) 8)

again_over : NobodyCanMove again (rounds again (start_of again) 8)
unfolding computed
again_over = (refl, (refl, (refl, (refl, tt))))

no_step : again_run.steps ≡ []
unfolding computed
no_step = refl

all_granted : list_all (λ (t : Take). t.granted) again_run.takes ≡ true
unfolding computed
all_granted = refl

names_equal : Option Text × Option Text → Option Text × Option Text → Bool
names_equal x y = options_equal texts_equal x.0 y.0 && options_equal texts_equal x.1 y.1

same_domains : lists_equal names_equal (domain_names (final_policy boot boot_run) boot_run) (domain_names (final_policy again again_run) again_run) ≡ true
unfolding computed names_equal
same_domains = refl

-- The boot's requests are ones that a trace can hold

boot_requests : list_all (λ (tree : Tree). list_all (item_is_request begins_with_slash) tree.records) boot_trace ≡ true
unfolding computed is_request
boot_requests = refl

-- a pattern in a request, or an execute without its real path, is none
no_pattern : is_request begins_with_slash (record { args = Args.Path (NameUnion.One tty); perm = 1; attributes = no_attributes }) ≡ false
unfolding computed is_request
no_pattern = refl

no_real_path : is_request begins_with_slash (file_request 0 (codes "/bin/ls")) ≡ false
unfolding computed is_request
no_real_path = refl
