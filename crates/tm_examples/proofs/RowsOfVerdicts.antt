-- What the definitions say of small policies: patterns, verdicts and where an execute leads.
use Rattle.std.specs.Prelude.{◌≡◌, ℕ, true, false, List, [], ◌∷◌, Option, Some, None, codes, refl, option_map}
use Rattle.tm_word.specs.Prelude.{Pattern, Text, literal, matches}
use Rattle.tm_rules.specs.Types.{Component, Control, ControlKind, Element, Move, Policy, Repeat, Verdict}
use Rattle.tm_legal.specs.Prelude.{verdict}
use Rattle.tm_examples.proofs.Examples.{computed, «<kernel>», kernel_namespace, domain, policy_of, file_line, execute, process, begins_with_slash}

-- a component of literal bytes, and one of pattern elements
abbrev bytes : List ℕ → Component
bytes bs = record { repeat = Repeat.Once; first = bs_elements bs; minus = [] }
  where
    bs_elements : List ℕ → List Element
    bs_elements [] = []
    bs_elements (b ∷ bs) = Element.Byte b ∷ bs_elements bs

abbrev empty : Component
empty = bytes []

-- `/tmp/\*` matches `/tmp/a` and neither `/tmp/` nor `/tmp/a/b`
abbrev tmp : Pattern
tmp = empty ∷ bytes (codes "tmp") ∷ record { repeat = Repeat.Once; first = Element.Star ∷ []; minus = [] } ∷ []

tmp_folder : matches tmp (codes "/tmp/") ≡ false
unfolding computed
tmp_folder = refl

tmp_file : matches tmp (codes "/tmp/a") ≡ true
unfolding computed
tmp_file = refl

tmp_deep : matches tmp (codes "/tmp/a/b") ≡ false
unfolding computed
tmp_deep = refl

-- `/\{\*\-proc\}/x` matches `/a/b/x`, and neither `/x` nor `/a/proc/x`
abbrev braces : Pattern
braces = empty ∷ record { repeat = Repeat.OneOrMore; first = Element.Star ∷ []; minus = ((bytes (codes "proc")).first) ∷ [] } ∷ bytes (codes "x") ∷ []

braces_none : matches braces (codes "/x") ≡ false
unfolding computed
braces_none = refl

braces_two : matches braces (codes "/a/b/x") ≡ true
unfolding computed
braces_two = refl

braces_proc : matches braces (codes "/a/proc/x") ≡ false
unfolding computed
braces_proc = refl

-- Where `/bin/ls` leads from `<kernel>` under enforcing, with and without controls

abbrev control : ControlKind → Option Text → Option Text → Control
control kind program name = record { kind = kind; program = program; domain = name; last = false }

abbrev with_controls : List Control → Policy
with_controls controls = policy_of (record kernel_namespace { controls = controls }) (domain «<kernel>» 1 (file_line 1 (literal (codes "/bin/ls")) ∷ []) ∷ [])

abbrev ls : Option Text
ls = Some (codes "/bin/ls")

abbrev move_of_ls : Policy → Option (Move × Option Text)
move_of_ls policy = option_map (λ (v : Verdict). (v.step, v.target)) (verdict begins_with_slash policy false 0 (process 7) (execute (codes "/bin/ls") (codes "/bin/ls") (codes "x")))

-- no_initialize skips initialize alone, and keep decides
kept : move_of_ls (with_controls (control ControlKind.NoInitialize ls None ∷ control ControlKind.Initialize ls None ∷ control ControlKind.Keep None (Some «<kernel>») ∷ [])) ≡ Some (Move.Stay, None)
unfolding computed
kept = refl

-- no_keep goes before keep
not_kept : move_of_ls (with_controls (control ControlKind.NoInitialize ls None ∷ control ControlKind.Initialize ls None ∷ control ControlKind.Keep None (Some «<kernel>») ∷ control ControlKind.NoKeep ls None ∷ [])) ≡ Some (Move.Make, Some (codes "<kernel> /bin/ls"))
unfolding computed
not_kept = refl
