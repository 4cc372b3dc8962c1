-- Preferences, resets, long names, and a run whose policy isn't plain.
use Rattle.std.specs.Prelude.{◌≡◌, ℕ, true, false, [], ◌∷◌, replicate, Option, Some, None, codes, refl, option_map}
use Rattle.tm_word.specs.Prelude.{Text, literal}
use Rattle.tm_rules.specs.Types.{Args, Attr, Base, Control, ControlKind, Element, Entry, EntryPlace, IdField, Item, Move, NameUnion, Namespace, NumberUnion, Policy, Prefer, Reason, Repeat, Request, Right, Run, Verdict}
use Rattle.tm_legal.specs.Prelude.{Scene, domain_names, final_policy, rerun_scene, rounds, run_of, start_of, verdict}
use Rattle.tm_rerun.specs.Summary.{summary_text}
use Rattle.tm_examples.proofs.Examples.{computed, «<kernel>», kernel_namespace, domain, policy_of, execute, process, begins_with_slash, grammar}

-- the reason, the move and the target of an execute of this path by a process in domain d
abbrev leads : Policy → ℕ → Text → Option (Reason × Move × Option Text)
leads policy d path = option_map (λ (v : Verdict). (v.reason, v.step, v.target)) (verdict begins_with_slash policy false d (process 7) (execute path path (codes "x")))

abbrev prefers : Text → Prefer → Entry
prefers path prefer = record { args = Args.Execute (NameUnion.One (literal path)) prefer; perms = record { bits = 1 }; cond = record { clauses = []; grant_log = None } }

abbrev with_line : ℕ → Entry → Policy
with_line n line = policy_of kernel_namespace (domain «<kernel>» n (line ∷ []) ∷ [])

abbrev own : Reason
own = Reason.Entry (EntryPlace.Own 0)

keep : leads (with_line 1 (prefers (codes "/bin/ls") Prefer.Keep)) 0 (codes "/bin/ls") ≡ Some (own, Move.Stay, None)
unfolding computed
keep = refl

to_a_domain : leads (with_line 1 (prefers (codes "/bin/sh") (Prefer.Domain (codes "<kernel> /shell")))) 0 (codes "/bin/sh") ≡ Some (own, Move.Make, Some (codes "<kernel> /shell"))
unfolding computed
to_a_domain = refl

reset_disabled : leads (with_line 0 (prefers (codes "/bin/sh") Prefer.Reset)) 0 (codes "/bin/sh") ≡ Some (Reason.NotReady, Move.Stay, None)
unfolding computed
reset_disabled = refl

abbrev parent_policy : Policy
parent_policy = policy_of kernel_namespace (domain «<kernel>» 1 (prefers (codes "/b") Prefer.Parent ∷ []) ∷ domain (codes "<kernel> /a") 1 (prefers (codes "/b") Prefer.Parent ∷ []) ∷ [])

to_parent : leads parent_policy 1 (codes "/b") ≡ Some (own, Move.Enter 0, None)
unfolding computed
to_parent = refl

own_parent : leads parent_policy 0 (codes "/b") ≡ Some (own, Move.Enter 0, None)
unfolding computed
own_parent = refl

-- a preference goes before the controls
abbrev initialize : Text → Control
initialize path = record { kind = ControlKind.Initialize; program = Some path; domain = None; last = false }

child_first : leads (policy_of (record kernel_namespace { controls = initialize (codes "/b") ∷ [] }) (domain «<kernel>» 1 [] ∷ domain (codes "<kernel> /a") 1 (prefers (codes "/b") Prefer.Child ∷ []) ∷ [])) 1 (codes "/b") ≡ Some (own, Move.Make, Some (codes "<kernel> /a /b"))
unfolding computed
child_first = refl

-- A reset wants its domain to be there, in learning mode too

abbrev reset_namespace : Namespace
reset_namespace = record kernel_namespace { controls = record { kind = ControlKind.Reset; program = Some (codes "/bin/sh"); domain = None; last = false } ∷ [] }

reset_missing : leads (policy_of reset_namespace (domain «<kernel>» 2 [] ∷ [])) 0 (codes "/bin/sh") ≡ Some (Reason.NotReady, Move.Stay, None)
unfolding computed
reset_missing = refl

reset_there : leads (policy_of reset_namespace (domain «<kernel>» 2 [] ∷ domain (codes "</bin/sh>") 0 [] ∷ [])) 0 (codes "/bin/sh") ≡ Some (Reason.Learn, Move.Enter 1, None)
unfolding computed
reset_there = refl

-- A name of 4,085 bytes is made, one of 4,086 isn't

abbrev long_path : ℕ → Text
long_path n = 47 ∷ replicate n 97

longest : option_map (λ (v : Reason × Move × Option Text). v.1) (leads (policy_of kernel_namespace (domain «<kernel>» 4 [] ∷ [])) 0 (long_path 4075)) ≡ Some Move.Make
unfolding computed
longest = refl

too_long : leads (policy_of kernel_namespace (domain «<kernel>» 4 [] ∷ [])) 0 (long_path 4076) ≡ Some (Reason.Permissive, Move.Fail, None)
unfolding computed
too_long = refl

-- A group entry with a condition on the uid: the run is clean, but its policy isn't plain, and the
-- rerun ends elsewhere

abbrev any_of_bin : NameUnion
any_of_bin = NameUnion.One (record { repeat = Repeat.Once; first = []; minus = [] } ∷ record { repeat = Repeat.Once; first = Element.Byte 98 ∷ Element.Byte 105 ∷ Element.Byte 110 ∷ []; minus = [] } ∷ record { repeat = Repeat.Once; first = Element.Star ∷ []; minus = [] } ∷ [])

abbrev zero_uid : NumberUnion
zero_uid = NumberUnion.One (record { low = record { value = 0; base = Base.Decimal }; high = record { value = 0; base = Base.Decimal } })

abbrev roots : Namespace
roots = record kernel_namespace { acl_groups = (0, record { args = Args.Path any_of_bin; perms = record { bits = 1 }; cond = record { clauses = record { left = Attr.Task IdField.Uid; equal = true; right = Right.Numbers zero_uid } ∷ []; grant_log = None } } ∷ []) ∷ [] }

abbrev ls : Request
ls = execute (codes "/bin/ls") (codes "/bin/ls") (codes "x")

abbrev by_uid : Scene
by_uid =
    record {
      grammar = grammar;
      policy = policy_of roots (record (domain «<kernel>» 2 []) { groups = (0, tt) ∷ [] } ∷ []);
      trace =
          record { start = «<kernel>»; pid = 7; records = Item.Do 7 ls ∷ [] }
          ∷ record { start = «<kernel>»; pid = 8; records = Item.Ids 8 (record { uid = 5; euid = 5; suid = 5; fsuid = 5; gid = 5; egid = 5; sgid = 5; fsgid = 5 }) ∷ Item.Do 8 ls ∷ [] }
          ∷ [];
      editors = [];
      book = None;
    }

abbrev by_uid_run : Run
by_uid_run = run_of (rounds by_uid (start_of by_uid) 4)

by_uid_counts : summary_text by_uid_run by_uid.policy (final_policy by_uid by_uid_run) ≡ codes "requests 2 granted 2 denied 0 learned 1 steps 3 domains 3 clean yes plain no\n"
unfolding computed summary_text
by_uid_counts = refl

abbrev by_uid_again : Scene
by_uid_again = rerun_scene by_uid by_uid_run

abbrev by_uid_rerun : Run
by_uid_rerun = run_of (rounds by_uid_again (start_of by_uid_again) 4)

first_names : domain_names (final_policy by_uid by_uid_run) by_uid_run ≡ (Some «<kernel>», Some (codes "<kernel> /bin/\\*")) ∷ (Some «<kernel>», Some (codes "<kernel> /bin/ls")) ∷ []
unfolding computed
first_names = refl

second_names : domain_names (final_policy by_uid_again by_uid_rerun) by_uid_rerun ≡ (Some «<kernel>», Some (codes "<kernel> /bin/ls")) ∷ (Some «<kernel>», Some (codes "<kernel> /bin/ls")) ∷ []
unfolding computed
second_names = refl
