-- Each step keeps a policy written, and what is loaded is written.
use Rattle.std.proofs.Common.{◌≡◌, ℕ, zero, suc, Bool, true, false, ◌&&◌, List, [], ◌∷◌, refl, subst, arith}
use Rattle.std.specs.Prelude.{Option, Some, None, Ok, Err, Result, if◌then◌else◌, ◌==◌, nat_lt, nat_le, not, unwrap_or, slice_get, count_ones}
use Rattle.std.specs.List.{IsDistinct, position_from}
use Rattle.std.specs.Option.{IfSome, option_map_or}
use Rattle.tm_word.specs.Prelude.{Text, lines_of, texts_equal}
use Rattle.tm_rules.specs.Prelude.{Cursor, DomainName, and_then, apply_line, apply_parsed, domain_at, fail, in_domain, is_domain_name, is_done, is_manager, is_task, kernel, learn, load, load_file, load_lines, make, namespace_word, new_policy, open_policy, wants_profile}
use Rattle.tm_rules.specs.Types.{Domain, Editor, Entry, FileKind, LineKind, LoadFault, Policy, PolicyFiles, PolicyLine, Reply, Step}
use Rattle.tm_rules.proofs.EqualityLaws.{both}
use Rattle.tm_legal.specs.Prelude.{State, after, apply, edit_step, fits_entry, fits_name, on_policy}
use Rattle.tm_domain.specs.Names.{is_path}
use Rattle.tm_entry.specs.Entries.{is_entry}
use Rattle.tm_policy_line.specs.Reading.{read_line}
use Rattle.tm_policy_line.proofs.ReadLaws.{read_written}
use Rattle.tm_grammar.specs.Tomoyo.{tomoyo_grammar}
use Rattle.tm_policy_laws.specs.Policies.{IsWritten}
use Rattle.tm_policy_laws.proofs.LineKeeps.{new_domain-written, written_opened, line_written, learn_written, make_written, fail_written}

pub new_written : IsWritten new_policy
unfolding IsDistinct is_domain_name is_path
new_written = record { namespaces = tt; names = tt; domains = (new_domain-written kernel 0 [] refl (omega arith) tt tt, tt); managers = tt; managers_once = tt }

-- a line as a text, or its refusal
pub text_written : (p : Policy) (file : FileKind) (cursor : Cursor) (text : Text) → IsWritten p → IsWritten (apply_line tomoyo_grammar p file cursor text).policy
unfolding apply_line
text_written p file cursor text h = go (read_line file text) refl
  where
    go : (r : Result PolicyLine LineKind) → read_line file text ≡ r → IsWritten (apply_parsed p cursor r).policy
    go (Err kind) e = h
    go (Ok line) e = line_written p cursor h line (read_written file text line e)

policy_step : {R : Type 0} (s : State) (reply : R → Reply) (o : Option (Policy × R)) → IsWritten s.policy → IfSome o (λ done. IsWritten done.0) → IsWritten (on_policy s reply o).state.policy
policy_step s reply None h k = h
policy_step s reply (Some done) h k = k

learn_step : (s : State) (d : ℕ) (entry : Entry) → IsWritten s.policy → IsWritten (apply tomoyo_grammar s (Step.Learn d entry)).state.policy
unfolding apply
learn_step s d entry h = go (fits_entry tomoyo_grammar entry) refl
  where
    go : (b : Bool) → fits_entry tomoyo_grammar entry ≡ b → IsWritten (apply tomoyo_grammar s (Step.Learn d entry)).state.policy
    go false e = rw e h
    go true e =
        let one = both (is_entry entry && count_ones entry.perms.bits == 1) (not (is_task entry.args)) e in
        let two = both (is_entry entry) (count_ones entry.perms.bits == 1) one.0 in
        rw e (policy_step s Reply.Learn (learn s.policy d entry) h (learn_written s.policy d entry h two.0))

make_step : (s : State) (d : ℕ) (name : DomainName) → IsWritten s.policy → IsWritten (apply tomoyo_grammar s (Step.Make d name)).state.policy
unfolding apply
make_step s d name h = go (fits_name tomoyo_grammar s d name) refl
  where
    go : (b : Bool) → fits_name tomoyo_grammar s d name ≡ b → IsWritten (apply tomoyo_grammar s (Step.Make d name)).state.policy
    go false e = rw e h
    go true e =
        let one = both (is_domain_name is_path name) (option_map_or (λ (domain : Domain). texts_equal (namespace_word name) (namespace_word domain.name)) (domain_at s.policy d) false) e in
        rw e (policy_step s Reply.Make (make s.policy d name) h (make_written s.policy d name h one.0))

edit_step-written : (s : State) (e : ℕ) (file : FileKind) (text : Text) → IsWritten s.policy → IsWritten (apply tomoyo_grammar s (Step.Edit e file text)).state.policy
unfolding apply edit_step
edit_step-written s zero file text h = h
edit_step-written s (suc e) file text h = by_editor (slice_get s.editors e) refl
  where
    by_manager : (editor : Editor) (b : Bool) → not (is_manager s.policy editor) ≡ b → IsWritten (edit_step tomoyo_grammar s e file text editor (unwrap_or (slice_get s.cursors e) None)).state.policy
    by_manager editor true is = rw is h
    by_manager editor false is = rw is (text_written s.policy file (unwrap_or (slice_get s.cursors e) None) text h)

    by_editor : (o : Option Editor) → slice_get s.editors e ≡ o → IsWritten (apply tomoyo_grammar s (Step.Edit (suc e) file text)).state.policy
    by_editor None is = rw is h
    by_editor (Some editor) is = rw is (by_manager editor (not (is_manager s.policy editor)) refl)

ask_step-written : (s : State) (d retry : ℕ) (text : Text) → IsWritten s.policy → IsWritten (apply tomoyo_grammar s (Step.Ask d retry text)).state.policy
unfolding apply
ask_step-written s d retry text h = go (in_domain s.policy d (λ domain profile. domain.name)) refl
  where
    go : (o : Option Text) → in_domain s.policy d (λ domain profile. domain.name) ≡ o → IsWritten (apply tomoyo_grammar s (Step.Ask d retry text)).state.policy
    go None is = rw is h
    go (Some name) is = rw is h

end_step-written : (s : State) (t : ℕ) → IsWritten s.policy → IsWritten (apply tomoyo_grammar s (Step.End t)).state.policy
unfolding apply
end_step-written s t h = go (nat_lt 0 t && nat_le t s.trees) refl
  where
    go : (b : Bool) → (nat_lt 0 t && nat_le t s.trees) ≡ b → IsWritten (apply tomoyo_grammar s (Step.End t)).state.policy
    go true is = rw is h
    go false is = rw is h

-- whatever the step
pub step_written : (s : State) (step : Step) → IsWritten s.policy → IsWritten (apply tomoyo_grammar s step).state.policy
unfolding apply
step_written s (Step.Learn d entry) h = learn_step s d entry h
step_written s (Step.Make d name) h = make_step s d name h
step_written s (Step.Fail d) h = policy_step s Reply.Fail (fail s.policy d) h (fail_written s.policy d h)
step_written s (Step.Ask d retry text) h = ask_step-written s d retry text h
step_written s (Step.Answer serial code) h = h
step_written s Step.Attach h = h
step_written s Step.Detach h = h
step_written s (Step.Edit e file text) h = edit_step-written s e file text h
step_written s (Step.End t) h = end_step-written s t h

-- whatever the steps
pub steps_written : (s : State) (steps : List Step) → IsWritten s.policy → IsWritten (after tomoyo_grammar s steps).policy
unfolding after
steps_written s [] h = h
steps_written s (step ∷ steps) h = steps_written (apply tomoyo_grammar s step).state steps (step_written s step h)

-- Loading

abbrev Gives : Result Policy LoadFault → Type 0
Gives (Ok p) = IsWritten p
Gives (Err fault) = Unit {0}

lines_written : (file : FileKind) (number : ℕ) (lines : List Text) (p : Policy) (cursor : Cursor) → IsWritten p → Gives (load_lines tomoyo_grammar file number lines p cursor)
unfolding load_lines
lines_written file number [] p cursor h = h
lines_written file number (line ∷ lines) p cursor h =
    let done = apply_line tomoyo_grammar p file cursor line in
    go (is_done done.reply) (lines_written file (suc number) lines done.policy done.cursor (text_written p file cursor line h))
  where
    go : (b : Bool) → Gives (load_lines tomoyo_grammar file (suc number) lines (apply_line tomoyo_grammar p file cursor line).policy (apply_line tomoyo_grammar p file cursor line).cursor) → Gives (if b then load_lines tomoyo_grammar file (suc number) lines (apply_line tomoyo_grammar p file cursor line).policy (apply_line tomoyo_grammar p file cursor line).cursor else Err (LoadFault.Line file number (apply_line tomoyo_grammar p file cursor line).reply))
    go true more = more
    go false more = tt

file_written : (file : FileKind) (text : Text) (p : Policy) → IsWritten p → Gives (load_file tomoyo_grammar file text p)
file_written file text p h = lines_written file 1 (lines_of text) p None h

next_written : (r : Result Policy LoadFault) (next : Policy → Result Policy LoadFault) → Gives r → ((p : Policy) → IsWritten p → Gives (next p)) → Gives (and_then r next)
next_written (Ok p) next h f = f p h
next_written (Err fault) next h f = tt

open_written : (p : Policy) → IsWritten p → Gives (open_policy p)
open_written p h = go (position_from (wants_profile p) 0 p.domains)
  where
    go : (o : Option ℕ) → Gives (option_map_or (λ place. Err (LoadFault.UndefinedProfile place)) o (Ok (record p { opened = true })))
    go None = written_opened p true h
    go (Some place) = tt

load_gives : (files : PolicyFiles) → Gives (load tomoyo_grammar files)
unfolding load
load_gives files =
    next_written _ _ (file_written FileKind.Profile files.profile new_policy new_written)
    (λ one h. next_written _ _ (file_written FileKind.Exception files.exception one h)
    (λ two k. next_written _ _ (file_written FileKind.Domain files.domain two k)
    (λ three l. next_written _ _ (file_written FileKind.Manager files.manager three l) open_written)))

pub load_written : (files : PolicyFiles) (p : Policy) → load tomoyo_grammar files ≡ Ok p → IsWritten p
load_written files p e = subst Gives e (load_gives files)
