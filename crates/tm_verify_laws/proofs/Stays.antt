-- No step changes who edits and how many trees there are; so what has a reply is of an editor or a
-- tree that is there.
use Rattle.std.proofs.Common.{◌≡◌, ◌<◌, ℕ, zero, suc, Bool, true, false, ◌&&◌, not, nat_lt, nat_le, List, [], ◌∷◌, ◌++◌, length, Option, Some, None, refl, sym, ap, ◌∙◌, subst, arith}
use Rattle.std.specs.Prelude.{if◌then◌else◌, IsSome, slice_get, slice_set, unwrap_or}
use Rattle.std.specs.Option.{option_map_or}
use Rattle.std.proofs.lemmas.List.{map-append}
use Rattle.std.proofs.lemmas.Bool.{leb-true}
use Rattle.tm_word.specs.Prelude.{Text}
use Rattle.tm_rules.specs.Prelude.{DomainName, Edited, Grammar, apply_line, ask, fail, in_domain, is_manager, learn, make, numbered, put_member}
use Rattle.tm_rules.specs.Types.{EditReply, Editor, FileKind, Policy, Reply, Step}
use Rattle.tm_legal.specs.Prelude.{Applied, History, Replies, Scene, State, after, apply, edit_step, fits_entry, fits_name, newest, on_policy, on_queries, opening_of, steps_of, unfit}
use Rattle.tm_verify_laws.specs.First.{AllAfter}
use Rattle.tm_verify_laws.specs.Desk.{EndsAreOfTrees}
use Rattle.tm_verify_laws.proofs.Splits.{cut_at}
use Rattle.tm_verify_laws.proofs.FirstLaws.{at_split}

pub record Stays (s s' : State) : Type 0 where
  pub editors : s'.editors ≡ s.editors
  pub trees : s'.trees ≡ s.trees

same : (s : State) → Stays s s
same s = record { editors = refl; trees = refl }

by_policy : {R : Type 0} (s : State) (reply : R → Reply) (b : Bool) (changed : Option (Policy × R)) → (let a : Applied = if b then on_policy s reply changed else unfit s in Stays s a.state)
by_policy s reply false changed = same s
by_policy s reply true None = same s
by_policy s reply true (Some done) = record { editors = refl; trees = refl }

by_name : (s : State) (line : Text) (retry : ℕ) (name : Option DomainName) → Stays s (option_map_or (λ name. on_queries s Reply.Ask (ask s.queries name line retry)) name (unfit s)).state
by_name s line retry None = same s
by_name s line retry (Some name) = record { editors = refl; trees = refl }

edited : (g : Grammar) (s : State) (e : ℕ) (file : FileKind) (line : Text) (found : Option Editor) → Stays s (option_map_or (λ editor. edit_step g s e file line editor (unwrap_or (slice_get s.cursors e) None)) found (unfit s)).state
unfolding edit_step
edited g s e file line None = same s
edited g s e file line (Some editor) = go (is_manager s.policy editor)
  where
    done : Edited
    done = apply_line g s.policy file (unwrap_or (slice_get s.cursors e) None) line

    refused : Applied
    refused = record { state = s; reply = Some (Reply.Edit EditReply.NotManager) }

    made : Applied
    made = record { state = record s { policy = done.policy; cursors = slice_set s.cursors e done.cursor }; reply = Some (Reply.Edit done.reply) }

    go : (b : Bool) → (let a : Applied = if not b then refused else made in Stays s a.state)
    go false = same s
    go true = record { editors = refl; trees = refl }

pub stays : (g : Grammar) (s : State) (step : Step) → Stays s (apply g s step).state
unfolding apply
stays g s (Step.Learn d entry) = by_policy s Reply.Learn (fits_entry g entry) (learn s.policy d entry)
stays g s (Step.Make d name) = by_policy s Reply.Make (fits_name g s d name) (make s.policy d name)
stays g s (Step.Fail d) = by_policy s Reply.Fail true (fail s.policy d)
stays g s (Step.Ask d retry line) = by_name s line retry (in_domain s.policy d (λ domain profile. domain.name))
stays g s (Step.Answer serial code) = record { editors = refl; trees = refl }
stays g s Step.Attach = record { editors = refl; trees = refl }
stays g s Step.Detach = record { editors = refl; trees = refl }
stays g s (Step.Edit zero file line) = same s
stays g s (Step.Edit (suc e) file line) = edited g s e file line (slice_get s.editors e)
stays g s (Step.End t) = go (nat_lt 0 t && nat_le t s.trees)
  where
    made : Applied
    made = record { state = record s { ended = put_member t s.ended }; reply = Some Reply.End }

    go : (b : Bool) → (let a : Applied = if b then made else unfit s in Stays s a.state)
    go true = record { editors = refl; trees = refl }
    go false = same s

all_stay : (g : Grammar) (s : State) (steps : List Step) → Stays s (after g s steps)
unfolding after
all_stay g s [] = same s
all_stay g s (step ∷ steps) =
    let first = stays g s step in
    let rest = all_stay g (apply g s step).state steps in
    record { editors = rest.editors ∙ first.editors; trees = rest.trees ∙ first.trees }

pub editors_stay : (scene : Scene) (before : History) → (newest scene before).editors ≡ scene.editors
editors_stay scene before = (all_stay scene.grammar (opening_of scene) (steps_of before)).editors

pub trees_stay : (scene : Scene) (before : History) → (newest scene before).trees ≡ length scene.trace
trees_stay scene before = (all_stay scene.grammar (opening_of scene) (steps_of before)).trees

-- ---- one step more

after_more : (g : Grammar) (s : State) (xs : List Step) (step : Step) → after g s (xs ++ step ∷ []) ≡ (apply g (after g s xs) step).state
unfolding after
after_more g s [] step = refl
after_more g s (x ∷ xs) step = after_more g (apply g s x).state xs step

pub state_more : (scene : Scene) (before : History) (pair : Step × Reply) → newest scene (before ++ pair ∷ []) ≡ (apply scene.grammar (newest scene before) pair.0).state
state_more scene before pair =
    ap (after scene.grammar (opening_of scene)) (map-append (λ (p : Step × Reply). p.0) before (pair ∷ [])) ∙ after_more scene.grammar (opening_of scene) (steps_of before) pair.0

-- each step has its reply after those before it
abbrev pub RepliesAt : Scene → History → Step × Reply → Type 0
RepliesAt scene before pair = (apply scene.grammar (newest scene before) pair.0).reply ≡ Some pair.1

pub replies_at : (scene : Scene) (rest before : History) → Replies scene.grammar (newest scene before) rest → AllAfter (RepliesAt scene) before rest
replies_at scene [] before h = tt
replies_at scene (pair ∷ rest) before h = (h.0, replies_at scene rest (before ++ pair ∷ []) (subst (λ s. Replies scene.grammar s rest) (sym (state_more scene before pair)) h.1))

pub at_replies : (scene : Scene) (rest before : History) → AllAfter (RepliesAt scene) before rest → Replies scene.grammar (newest scene before) rest
at_replies scene [] before h = tt
at_replies scene (pair ∷ rest) before h = (h.0, subst (λ s. Replies scene.grammar s rest) (state_more scene before pair) (at_replies scene rest (before ++ pair ∷ []) h.1))

-- ---- what has a reply is there

there_in : {A : Type 0} (xs : List A) (k : ℕ) → k < length xs → IsSome (slice_get xs k)
there_in [] k h = absurd (omega (arith, h))
there_in (x ∷ xs) zero h = refl
there_in (x ∷ xs) (suc k) h = there_in xs k (omega (arith, h))

both : (a b : Bool) → (a && b) ≡ true → (a ≡ true) × (b ≡ true)
both true b e = (refl, e)
both false b e = absurd cc

abbrev ended_with : State → ℕ → Applied
ended_with s t = record { state = record s { ended = put_member t s.ended }; reply = Some Reply.End }

end_there : (s : State) (t : ℕ) (b : Bool) (r : Reply) → (let a : Applied = if b then ended_with s t else unfit s in a.reply ≡ Some r) → b ≡ true
end_there s t true r e = refl
end_there s t false r e = absurd cc

tree_there : (scene : Scene) (before : History) (t : ℕ) (r : Reply) → (apply scene.grammar (newest scene before) (Step.End t)).reply ≡ Some r → IsSome (numbered scene.trace t)
unfolding apply
tree_there scene before zero r e = absurd cc
tree_there scene before (suc k) r e =
    let b = end_there (newest scene before) (suc k) (nat_lt 0 (suc k) && nat_le (suc k) (newest scene before).trees) r e in
    let le = leb-true (suc k) (newest scene before).trees (both (nat_lt 0 (suc k)) _ b).1 in
    let long = trees_stay scene before in
    there_in scene.trace k (omega (arith, le, long))

-- each End is of a tree that is there
pub ends_are_of_trees : (scene : Scene) (history : History) → Replies scene.grammar (opening_of scene) history → EndsAreOfTrees scene history
unfolding after
ends_are_of_trees scene history replies t zero e = absurd cc
ends_are_of_trees scene history replies t (suc version) e =
    let c = cut_at history version (Step.End t) e in
    let all = replies_at scene history [] replies in
    tree_there scene c.before t c.reply (at_split (RepliesAt scene) c.before (Step.End t, c.reply) c.rest [] (subst (AllAfter (RepliesAt scene) []) c.cut all))
