-- The lines of an editor from a seat.
use Rattle.std.proofs.Common.{◌≡◌, ◌≤◌, ◌<◌, ℕ, zero, suc, List, [], ◌∷◌, ◌++◌, length, Bool, true, false, refl, sym, ap, ◌∙◌, subst, arith, append_assoc}
use Rattle.std.specs.Prelude.{Option, Some, None, IsSome, is_some, slice_get, not, if◌then◌else◌, unwrap_or}
use Rattle.std.specs.Option.{option_map_or}
use Rattle.tm_word.specs.Prelude.{Text}
use Rattle.tm_rules.specs.Types.{EditReply, Editor, FileKind, Made, Maker, Reply, Start, Step}
use Rattle.tm_rules.specs.Prelude.{is_manager}
use Rattle.tm_take.specs.Tomoyo.{tomoyo_grammar}
use Rattle.tm_legal.specs.Prelude.{Applied, State, apply, edit_step, opening, unfit}
use Rattle.tm_made.specs.Made.{steps_made}
use Rattle.tm_made.proofs.Fits.{steps-last}
use Rattle.tm_joint.proofs.Later.{lines-push}
use Rattle.tm_seat.specs.Seats.{state_of, FitsFrom, IsMade}
use Rattle.tm_seat.specs.Editing.{EditsOn}
use Rattle.tm_seat.proofs.Opening.{begins-further}
use Rattle.tm_seat.proofs.Claiming.{by-step, last-number}

get-inside : {A : Type 0} (xs : List A) (n : ℕ) → suc n ≤ length xs → is_some (slice_get xs n) ≡ true
get-inside [] n le = absurd (omega (arith, le))
get-inside (x ∷ xs) zero le = refl
get-inside (x ∷ xs) (suc n) le = get-inside xs n (omega (arith, le))

-- a line of an editor that is there fits, whatever steps there are
pub edit-fits : (start : Start) (list : List Made) (editor : ℕ) (file : FileKind) (text : Text) → 0 < editor → editor ≤ length start.editors → IsSome (apply tomoyo_grammar (state_of start list) (Step.Edit editor file text)).reply
unfolding apply edit_step
edit-fits start list zero file text above inside = absurd (omega (arith, above))
edit-fits start list (suc e) file text above inside =
    let s : State = state_of start list in
    let editors : s.editors ≡ start.editors = (steps-last tomoyo_grammar (opening start) (steps_made list)).editors in
    by_editor s (slice_get s.editors e) (rw editors (get-inside start.editors e inside))
  where
    by_manager : (s : State) (b : Bool) (done : Applied) → is_some done.reply ≡ true → is_some (if b then (let a : Applied = record { state = s; reply = Some (Reply.Edit EditReply.NotManager) } in a) else done).reply ≡ true
    by_manager s true done has = refl
    by_manager s false done has = has

    by_editor : (s : State) (o : Option Editor) → is_some o ≡ true → is_some (option_map_or (λ editor. edit_step tomoyo_grammar s e file text editor (unwrap_or (slice_get s.cursors e) None)) o (unfit s)).reply ≡ true
    by_editor s None has = has
    by_editor s (Some editor) has = by_manager s (not (is_manager s.policy editor)) _ refl

-- a line more
pub edits-on : (start start' : Start) (editor : ℕ) (old new : List Made) (before own : List ℕ) (file : FileKind) (text : Text) (made : Made) (number : ℕ) (reply : Reply) → start' ≡ start → made ≡ (record { maker = Maker.Editor editor; step = Step.Edit editor file text }) → IsMade start old made new reply → FitsFrom start' new → number ≡ length new → own ≡ before ++ number ∷ [] → EditsOn start editor old before new own (file, text)
edits-on start start' editor old new before own file text made number reply same is_made (others, is, replied) fitted numbered noted shift done h =
    let last : number ≡ suc (length (old ++ others)) = numbered ∙ ap (λ (l : List Made). length l) is ∙ last-number old others made in
    record {
      fitted = subst (λ (s : Start). FitsFrom s new) same fitted;
      begins = begins-further shift.known old new h.begins (others ++ made ∷ [], is ∙ append_assoc old others (made ∷ []));
      numbers = h.numbers ++ number ∷ [];
      made = noted ∙ ap (λ (ns : List ℕ). ns ++ number ∷ []) h.made ∙ append_assoc shift.before h.numbers (number ∷ []);
      lines = rw (is, last) (lines-push old others made editor done (file, text) h.numbers (ap (λ (m : Made). m.step) is_made) h.lines);
      makers = by-step (Maker.Editor editor ∷ []) start shift.known old new shift.before before own made number reply (λ P all. subst (λ (m : Made). P m.maker) (sym is_made) all.0) (others, is, replied) numbered noted h.makers;
    }

-- the same after a call that changes nothing
pub edits-from : (start first start' : Start) (editor : ℕ) (old at new : List Made) (before so_far own : List ℕ) (file : FileKind) (text : Text) (made : Made) (number : ℕ) (reply : Reply) → first ≡ start → at ≡ old → so_far ≡ before → start' ≡ first → made ≡ (record { maker = Maker.Editor editor; step = Step.Edit editor file text }) → IsMade first at made new reply → FitsFrom start' new → number ≡ length new → own ≡ so_far ++ number ∷ [] → EditsOn start editor old before new own (file, text)
edits-from start first start' editor old at new before so_far own file text made number reply a b c same is_made settled fitted numbered noted =
    edits-on start start' editor old new before own file text made number reply (same ∙ a) is_made (subst (λ (s : Start). IsMade s old made new reply) a (subst (λ (l : List Made). IsMade first l made new reply) b settled)) fitted numbered (noted ∙ ap (λ (ns : List ℕ). ns ++ number ∷ []) c)
