-- A step that doesn't fit changes nothing.
use Rattle.std.proofs.Common.{◌≡◌, ℕ, zero, suc, Bool, true, false, ◌&&◌, not, nat_lt, nat_le, List, [], ◌∷◌, Option, Some, None, refl}
use Rattle.std.specs.Prelude.{if◌then◌else◌, is_some, slice_get, slice_set, unwrap_or}
use Rattle.std.specs.Option.{option_map_or}
use Rattle.tm_word.specs.Prelude.{Text}
use Rattle.tm_rules.specs.Prelude.{DomainName, Edited, Grammar, apply_line, ask, fail, in_domain, is_manager, learn, make, put_member}
use Rattle.tm_rules.specs.Types.{EditReply, Editor, FileKind, Policy, Reply, Step}
use Rattle.tm_legal.specs.Prelude.{Applied, State, apply, edit_step, fits_entry, fits_name, on_policy, on_queries, unfit}

-- where it has no reply, it leaves the state
abbrev Leaves : State → Applied → Type 0
Leaves s a = is_some a.reply ≡ false → a.state ≡ s

by_policy : {R : Type 0} (s : State) (reply : R → Reply) (b : Bool) (changed : Option (Policy × R)) → (let a : Applied = if b then on_policy s reply changed else unfit s in Leaves s a)
by_policy s reply false changed e = refl
by_policy s reply true None e = refl
by_policy s reply true (Some done) e = absurd cc

by_name : (s : State) (line : Text) (retry : ℕ) (name : Option DomainName) → Leaves s (option_map_or (λ name. on_queries s Reply.Ask (ask s.queries name line retry)) name (unfit s))
by_name s line retry None e = refl
by_name s line retry (Some name) e = absurd cc

edited : (g : Grammar) (s : State) (e : ℕ) (file : FileKind) (line : Text) (found : Option Editor) → Leaves s (option_map_or (λ editor. edit_step g s e file line editor (unwrap_or (slice_get s.cursors e) None)) found (unfit s))
unfolding edit_step
edited g s e file line None is = refl
edited g s e file line (Some editor) is = go (is_manager s.policy editor) is
  where
    done : Edited
    done = apply_line g s.policy file (unwrap_or (slice_get s.cursors e) None) line

    refused : Applied
    refused = record { state = s; reply = Some (Reply.Edit EditReply.NotManager) }

    made : Applied
    made = record { state = record s { policy = done.policy; cursors = slice_set s.cursors e done.cursor }; reply = Some (Reply.Edit done.reply) }

    go : (b : Bool) → (let a : Applied = if not b then refused else made in Leaves s a)
    go false h = absurd cc
    go true h = absurd cc

pub unfit_leaves : (g : Grammar) (s : State) (step : Step) → is_some (apply g s step).reply ≡ false → (apply g s step).state ≡ s
unfolding apply
unfit_leaves g s (Step.Learn d entry) = by_policy s Reply.Learn (fits_entry g entry) (learn s.policy d entry)
unfit_leaves g s (Step.Make d name) = by_policy s Reply.Make (fits_name g s d name) (make s.policy d name)
unfit_leaves g s (Step.Fail d) = by_policy s Reply.Fail true (fail s.policy d)
unfit_leaves g s (Step.Ask d retry line) = by_name s line retry (in_domain s.policy d (λ domain profile. domain.name))
unfit_leaves g s (Step.Answer serial code) = λ e. absurd cc
unfit_leaves g s Step.Attach = λ e. absurd cc
unfit_leaves g s Step.Detach = λ e. absurd cc
unfit_leaves g s (Step.Edit zero file line) = λ e. refl
unfit_leaves g s (Step.Edit (suc e) file line) = edited g s e file line (slice_get s.editors e)
unfit_leaves g s (Step.End t) = go (nat_lt 0 t && nat_le t s.trees)
  where
    made : Applied
    made = record { state = record s { ended = put_member t s.ended }; reply = Some Reply.End }

    go : (b : Bool) → (let a : Applied = if b then made else unfit s in Leaves s a)
    go true e = absurd cc
    go false e = refl
