-- What a step that was replied is: its reply is of its own kind, a learned entry can be written, a
-- name is a right one, and an editor is there.
use Rattle.std.proofs.Common.{◌≡◌, ℕ, zero, suc, ◌==◌, Bool, true, false, cond, ◌&&◌, not, List, [], ◌∷◌, refl, ap, subst, ◌∙◌, eq-eqb}
use Rattle.std.specs.Prelude.{Option, Some, None, slice_get, unwrap_or, nat_lt, nat_le, count_ones}
use Rattle.std.specs.Option.{option_map_or}
use Rattle.std.specs.List.{list_all, cons_option}
use Rattle.std.proofs.lemmas.Bool.{and_parts}
use Rattle.tm_word.specs.Prelude.{Text, texts_equal}
use Rattle.tm_rules.specs.Prelude.{DomainName, Grammar, ask, domain_at, fail, in_domain, is_domain_name, is_manager, is_task, learn, make, namespace_word, numbered}
use Rattle.tm_rules.specs.Types.{Domain, EditReply, Editor, Entry, FileKind, Policy, Reply, Step}
use Rattle.tm_legal.specs.Prelude.{Applied, History, Replies, State, apply, edit_line, edit_step, fits_entry, fits_name, lines_of_editor, on_policy, on_queries, unfit}
use Rattle.tm_run.specs.Written.{is_learn_reply, is_make_reply, is_fail_reply, is_ask_reply, is_edit_reply, is_end_reply, is_reply_of}
use Rattle.tm_run.specs.Typed.{replies_number}

some_is : {A : Type 0} (x y : A) → Some x ≡ Some y → x ≡ y
some_is x y e = cc

-- ---- the reply's kind

policy_reply : {R : Type 0} (s : State) (f : R → Reply) (o : Option (Policy × R)) (r : Reply) → (on_policy s f o).reply ≡ Some r → (x : R) × (f x ≡ r)
policy_reply s f None r h = absurd cc
policy_reply s f (Some done) r h = (done.1, some_is (f done.1) r h)

learn_reply : (s : State) (o : Option (Policy × _)) (b : Bool) (r : Reply) → (cond b (on_policy s Reply.Learn o) (unfit s)).reply ≡ Some r → is_learn_reply r ≡ true
learn_reply s o true r h = let x = policy_reply s Reply.Learn o r h in subst (λ (y : Reply). is_learn_reply y ≡ true) x.1 refl
learn_reply s o false r h = absurd cc

make_reply : (s : State) (o : Option (Policy × _)) (b : Bool) (r : Reply) → (cond b (on_policy s Reply.Make o) (unfit s)).reply ≡ Some r → replies_number r ≡ true → is_make_reply r ≡ true
make_reply s o true r h n = let x = policy_reply s Reply.Make o r h in subst (λ (y : Reply). replies_number y ≡ true → is_make_reply y ≡ true) x.1 (λ k. k) n
make_reply s o false r h n = absurd cc

fail_reply : (s : State) (o : Option (Policy × Bool)) (r : Reply) → (on_policy s Reply.Fail o).reply ≡ Some r → is_fail_reply r ≡ true
fail_reply s o r h = let x = policy_reply s Reply.Fail o r h in subst (λ (y : Reply). is_fail_reply y ≡ true) x.1 refl

ask_reply : (s : State) (line : Text) (retry : ℕ) (o : Option Text) (r : Reply) → (option_map_or (λ name. on_queries s Reply.Ask (ask s.queries name line retry)) o (unfit s)).reply ≡ Some r → replies_number r ≡ true → is_ask_reply r ≡ true
ask_reply s line retry None r h n = absurd cc
ask_reply s line retry (Some name) r h n = subst (λ (y : Reply). replies_number y ≡ true → is_ask_reply y ≡ true) (some_is (Reply.Ask (ask s.queries name line retry).1) r h) (λ k. k) n

managed_reply : (s : State) (edited : Applied) (b : Bool) (r : Reply) → ((q : Reply) → edited.reply ≡ Some q → is_edit_reply q ≡ true) → (cond b (record { state = s; reply = Some (Reply.Edit EditReply.NotManager) }) edited).reply ≡ Some r → is_edit_reply r ≡ true
managed_reply s edited true r k h = subst (λ (y : Reply). is_edit_reply y ≡ true) (some_is (Reply.Edit EditReply.NotManager) r h) refl
managed_reply s edited false r k h = k r h

-- the editor is there, and its reply is an edit's
edited_by : (g : Grammar) (s : State) (e : ℕ) (file : FileKind) (line : Text) (r : Reply) → (apply g s (Step.Edit e file line)).reply ≡ Some r → ((editor : Editor) × (numbered s.editors e ≡ Some editor)) × (is_edit_reply r ≡ true)
unfolding apply edit_step
edited_by g s zero file line r h = absurd cc
edited_by g s (suc e) file line r h = by_editor (slice_get s.editors e) refl h
  where
    by_editor : (o : Option Editor) → slice_get s.editors e ≡ o → (option_map_or (λ editor. edit_step g s e file line editor (unwrap_or (slice_get s.cursors e) None)) o (unfit s)).reply ≡ Some r
        → ((editor : Editor) × (slice_get s.editors e ≡ Some editor)) × (is_edit_reply r ≡ true)
    by_editor None is k = absurd cc
    by_editor (Some editor) is k = ((editor, is), managed_reply s _ (not (is_manager s.policy editor)) r (λ q m. subst (λ (y : Reply). is_edit_reply y ≡ true) (some_is _ q m) refl) k)

end_reply : (s ended : State) (b : Bool) (r : Reply) → (cond b (record { state = ended; reply = Some Reply.End }) (unfit s)).reply ≡ Some r → is_end_reply r ≡ true
end_reply s ended true r h = subst (λ (y : Reply). is_end_reply y ≡ true) (some_is Reply.End r h) refl
end_reply s ended false r h = absurd cc

pub reply_kind : (g : Grammar) (s : State) (step : Step) (r : Reply) → (apply g s step).reply ≡ Some r → replies_number r ≡ true → is_reply_of step r ≡ true
unfolding apply
reply_kind g s (Step.Learn d entry) r h n = learn_reply s (learn s.policy d entry) (fits_entry g entry) r h
reply_kind g s (Step.Make d name) r h n = make_reply s (make s.policy d name) (fits_name g s d name) r h n
reply_kind g s (Step.Fail d) r h n = fail_reply s (fail s.policy d) r h
reply_kind g s (Step.Ask d retry line) r h n = ask_reply s line retry (in_domain s.policy d (λ domain profile. domain.name)) r h n
reply_kind g s (Step.Answer serial code) r h n = subst (λ (y : Reply). is_reply_of (Step.Answer serial code) y ≡ true) (some_is _ r h) refl
reply_kind g s Step.Attach r h n = subst (λ (y : Reply). is_reply_of Step.Attach y ≡ true) (some_is _ r h) refl
reply_kind g s Step.Detach r h n = subst (λ (y : Reply). is_reply_of Step.Detach y ≡ true) (some_is _ r h) refl
reply_kind g s (Step.Edit e file line) r h n = (edited_by g s e file line r h).1
reply_kind g s (Step.End t) r h n = end_reply s _ (nat_lt 0 t && nat_le t s.trees) r h

-- ---- what fits

fits_if : (s : State) (done : Applied) (b : Bool) (r : Reply) → (cond b done (unfit s)).reply ≡ Some r → b ≡ true
fits_if s done true r h = refl
fits_if s done false r h = absurd cc

pub learns_written : (g : Grammar) (s : State) (d : ℕ) (entry : Entry) (r : Reply) → (apply g s (Step.Learn d entry)).reply ≡ Some r → g.can_write entry ≡ true
unfolding apply
learns_written g s d entry r h =
    let fits = fits_if s (on_policy s Reply.Learn (learn s.policy d entry)) (fits_entry g entry) r h in
    (and_parts (g.can_write entry) (count_ones entry.perms.bits == 1) (and_parts (g.can_write entry && count_ones entry.perms.bits == 1) (not (is_task entry.args)) fits).0).0

pub makes_right : (g : Grammar) (s : State) (d : ℕ) (name : DomainName) (r : Reply) → (apply g s (Step.Make d name)).reply ≡ Some r → is_domain_name g.is_path name ≡ true
unfolding apply
makes_right g s d name r h =
    let fits = fits_if s (on_policy s Reply.Make (make s.policy d name)) (fits_name g s d name) r h in
    (and_parts (is_domain_name g.is_path name) (option_map_or (λ (domain : Domain). texts_equal (namespace_word name) (namespace_word domain.name)) (domain_at s.policy d) false) fits).0

pub edits_of : (g : Grammar) (s : State) (e : ℕ) (file : FileKind) (line : Text) (r : Reply) → (apply g s (Step.Edit e file line)).reply ≡ Some r → (editor : Editor) × (numbered s.editors e ≡ Some editor)
edits_of g s e file line r h = (edited_by g s e file line r h).0

-- ---- the editors stay

policy_editors : {R : Type 0} (s : State) (f : R → Reply) (o : Option (Policy × R)) → (on_policy s f o).state.editors ≡ s.editors
policy_editors s f None = refl
policy_editors s f (Some done) = refl

if_editors : (s : State) (done other : Applied) (b : Bool) → done.state.editors ≡ s.editors → other.state.editors ≡ s.editors → (cond b done other).state.editors ≡ s.editors
if_editors s done other true h k = h
if_editors s done other false h k = k

ask_editors : (s : State) (line : Text) (retry : ℕ) (o : Option Text) → (option_map_or (λ name. on_queries s Reply.Ask (ask s.queries name line retry)) o (unfit s)).state.editors ≡ s.editors
ask_editors s line retry None = refl
ask_editors s line retry (Some name) = refl

edit_editors : (g : Grammar) (s : State) (e : ℕ) (file : FileKind) (line : Text) → (apply g s (Step.Edit e file line)).state.editors ≡ s.editors
unfolding apply edit_step
edit_editors g s zero file line = refl
edit_editors g s (suc e) file line = by_editor (slice_get s.editors e)
  where
    by_editor : (o : Option Editor) → (option_map_or (λ editor. edit_step g s e file line editor (unwrap_or (slice_get s.cursors e) None)) o (unfit s)).state.editors ≡ s.editors
    by_editor None = refl
    by_editor (Some editor) = if_editors s _ _ (not (is_manager s.policy editor)) refl refl

keeps_editors : (g : Grammar) (s : State) (step : Step) → (apply g s step).state.editors ≡ s.editors
unfolding apply
keeps_editors g s (Step.Learn d entry) = if_editors s (on_policy s Reply.Learn (learn s.policy d entry)) (unfit s) (fits_entry g entry) (policy_editors s Reply.Learn (learn s.policy d entry)) refl
keeps_editors g s (Step.Make d name) = if_editors s (on_policy s Reply.Make (make s.policy d name)) (unfit s) (fits_name g s d name) (policy_editors s Reply.Make (make s.policy d name)) refl
keeps_editors g s (Step.Fail d) = policy_editors s Reply.Fail (fail s.policy d)
keeps_editors g s (Step.Ask d retry line) = ask_editors s line retry (in_domain s.policy d (λ domain profile. domain.name))
keeps_editors g s (Step.Answer serial code) = refl
keeps_editors g s Step.Attach = refl
keeps_editors g s Step.Detach = refl
keeps_editors g s (Step.Edit e file line) = edit_editors g s e file line
keeps_editors g s (Step.End t) = if_editors s _ (unfit s) (nat_lt 0 t && nat_le t s.trees) refl refl

-- the state in which the step at a place was replied
pub record RepliedAt (g : Grammar) (editors : List Editor) (pair : Step × Reply) : Type 0 where
  pub state : State
  pub replied : (apply g state pair.0).reply ≡ Some pair.1
  pub same : state.editors ≡ editors

pub replied-at : (g : Grammar) (s : State) (history : History) (k : ℕ) (pair : Step × Reply) → Replies g s history → slice_get history k ≡ Some pair → RepliedAt g s.editors pair
replied-at g s [] k pair h at = absurd cc
replied-at g s (first ∷ rest) zero pair h at =
    let same : first ≡ pair = some_is first pair at in
    subst (RepliedAt g s.editors) same (record { state = s; replied = h.0; same = refl })
replied-at g s (first ∷ rest) (suc k) pair h at =
    let later = replied-at g (apply g s first.0).state rest k pair h.1 at in
    record { state = later.state; replied = later.replied; same = later.same ∙ keeps_editors g s first.0 }

-- ---- an editor's lines

-- a line that an editor had is among its lines
pub among-lines : (p : FileKind × Text → Bool) (e : ℕ) (file : FileKind) (line : Text) (r : Reply) (history : History) (k : ℕ) → slice_get history k ≡ Some (Step.Edit e file line, r) → list_all p (lines_of_editor e history) ≡ true → p (file, line) ≡ true
among-lines p e file line r [] k at h = absurd cc
among-lines p e file line r (first ∷ rest) zero at h =
    let same : first ≡ (Step.Edit e file line, r) = some_is first (Step.Edit e file line, r) at in
    let own : (e == e) ≡ true = eq-eqb e e refl in
    let found : edit_line e (Step.Edit e file line, r) ≡ Some (file, line) = rw own refl in
    by_line (edit_line e first) (ap (edit_line e) same ∙ found) h
  where
    by_line : (o : Option (FileKind × Text)) → o ≡ Some (file, line) → list_all p (cons_option o (lines_of_editor e rest)) ≡ true → p (file, line) ≡ true
    by_line None is k = absurd cc
    by_line (Some x) is k = subst (λ y. p y ≡ true) (some_is x (file, line) is) (and_parts (p x) (list_all p (lines_of_editor e rest)) k).0
among-lines p e file line r (first ∷ rest) (suc k) at h = among-lines p e file line r rest k at (by_line (edit_line e first) h)
  where
    by_line : (o : Option (FileKind × Text)) → list_all p (cons_option o (lines_of_editor e rest)) ≡ true → list_all p (lines_of_editor e rest) ≡ true
    by_line None m = m
    by_line (Some x) m = (and_parts (p x) (list_all p (lines_of_editor e rest)) m).1
