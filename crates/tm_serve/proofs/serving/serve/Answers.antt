-- The supervisor answers, and then leaves.
use Rattle.std.proofs.Common.{◌≡◌, ◌≤◌, ◌<◌, ℕ, [], ◌∷◌, ◌++◌, length, sym, ap, ◌∙◌, subst, arith, inl, inr, ◌⊎◌, ⊎_elim}
use Rattle.std.specs.Prelude.{IfSome}
use Rattle.tm_desk.specs.Desks.{desk_book}
use Rattle.tm_legal.specs.Prelude.{last_from}
use Rattle.tm_publish.specs.Words.{known}
use Rattle.tm_publish.proofs.Prefixes.{prefix_take}
use Rattle.tm_serve.proofs.Answering.{from_later, rises_push}
use Rattle.tm_serve.proofs.serving.serve.Goals as goal

pub make-requires : goal.make-requires
make-requires g c = record { fits = λ p xs. rw c.detach_step.ensures (g.met.H.DeskHall.detach_fits p xs) }

pub returns-clause-served : goal.returns-clause-served
returns-clause-served g c =
    let s = c.in_ok-count.ensures.serving in
    let made = c.in_ok-make.ensures.made in
    let left : ℕ = c.in_ok-make.field-0 in
    let old = known c.args.pass.now in
    let mid = known c.answer_all.new.pass in
    let last : ℕ = last_from (length old) s.answers in
    let low : last ≤ length mid = s.low in
    let after : length mid < left = made.after in
    record {
      answers = s.answers;
      left = left;
      made = made.made ∙ ap (λ ns. ns ++ left ∷ []) s.made;
      rising = rises_push (length old) s.answers left s.rising (omega arith);
      counted = s.counted;
      each = λ p e. from_later _ _ p _ mid _ (length old) s.answers made.begins (s.each p e);
      leaves = rw c.detach_step.ensures at made.there;
      due = ⊎_elim inl (λ over. inr (λ p e.
          record {
            version = length mid;
            since = low;
            before = after;
            none = ap (g.H.Hall.first_at p) (prefix_take mid _ made.begins) ∙ (over p e).0;
            over = ap (g.H.Hall.over_at p) (prefix_take mid _ made.begins) ∙ (over p e).1;
          })) c.in_ok-count.ensures.due;
      few = subst (λ (k : ℕ). IfSome (desk_book c.args.desk.now).stop (λ most. k ≤ most)) (sym s.counted) s.few;
    }

pub returns-in_err-make-clause-knows : goal.returns-in_err-make-clause-knows
returns-in_err-make-clause-knows g c xs has = c.in_err-make.ensures.knows xs (c.in_ok-count.ensures.knows xs has)
