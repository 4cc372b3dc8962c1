use Rattle.std.proofs.Common.{rules, ◌≡◌, ◌≤◌, ◌++◌, ◌∷◌, [], length, sym, ap, ◌∙◌, subst, arith, length-append}
use mathlib.Core.List.{IsPrefix}
use Rattle.tm_publish.specs.declared.event.Event.TheVariants.{Made}
use Rattle.tm_publish.specs.Fitting.{AllFit}
use Rattle.tm_publish.specs.History.{opening_of, steps_of}
use Rattle.tm_publish.proofs.Fits.{AllFit-push}
use Rattle.tm_publish.proofs.Prefixes.{knows_same, steps_of-append, opening_more}
use Rattle.tm_publish.proofs.board.BoardOf.publish.Goals as goal

pub returns-in_default-clause-knows : goal.returns-in_default-clause-knows
returns-in_default-clause-knows g c xs k =
    let same = c.room.ensures.same in
    c.told.ensures.knows xs (knows_same _ _ _ _ xs (ap (λ s. s.log) same.1) (ap (λ f. f.version) same.0) k)

pub returns-clause-list : goal.returns-clause-list
returns-clause-list g c =
    let step = c.args.step in
    let log = ap (λ s. s.log) c.twin.ensures.0 ∙ (c.in-Ok.ensures.1.1 ∙ ap (λ l. l ++ Made step c.in-Ok.ensures.1.0 ∷ []) c.published-now.ensures.same) in
    let old = c.args.self.now.front.seen.log in
    ap steps_of log ∙ steps_of-append old (Made step c.in-Ok.ensures.1.0 ∷ [])

pub returns-clause-number : goal.returns-clause-number
returns-clause-number g c =
    let step = c.args.step in
    let log = c.in-Ok.ensures.1.1 ∙ ap (λ l. l ++ Made step c.in-Ok.ensures.1.0 ∷ []) c.published-now.ensures.same in
    let old = c.args.self.now.front.seen.log in
    let steps : steps_of c.in-Ok.next.seen.log ≡ steps_of old ++ step ∷ [] = ap steps_of log ∙ steps_of-append old (Made step c.in-Ok.ensures.1.0 ∷ []) in
    c.in-Ok.next.counted ∙ (ap length steps ∙ length-append (steps_of old) (step ∷ []))

pub returns-clause-before : goal.returns-clause-before
returns-clause-before g c xs k =
    let same = c.room.ensures.same in
    let le : c.room.new.self.front.version ≤ c.published-now.result.version = c.meet.ensures.met in
    subst (λ l. IsPrefix xs (steps_of l)) c.published-now.ensures.same (c.told.ensures.met le xs (knows_same _ _ _ _ xs (ap (λ s. s.log) same.1) (ap (λ f. f.version) same.0) k))

pub returns-clause-goes_on : goal.returns-clause-goes_on
returns-clause-goes_on g c p e =
    let same = c.room.ensures.same in
    let le : c.room.new.self.front.version ≤ c.published-now.result.version = c.meet.ensures.met in
    let opened = c.told.ensures.opening.0 ∙ (ap (λ f. opening_of f.seen.log) same.0 ∙ e) in
    record {
      opened = e;
      begins = λ xs k. subst (λ l. IsPrefix xs (steps_of l)) c.published-now.ensures.same (c.told.ensures.met le xs (knows_same _ _ _ _ xs (ap (λ s. s.log) same.1) (ap (λ f. f.version) same.0) k));
      fitting = subst (λ l. AllFit g.O.Office.fits p (steps_of l)) c.published-now.ensures.same (c.published-now.ensures.fitting p opened);
    }

pub returns-clause-fitting : goal.returns-clause-fitting
returns-clause-fitting g c p e =
    let same = c.room.ensures.same in
    let le : c.room.new.self.front.version ≤ c.published-now.result.version = c.meet.ensures.met in
    let opened = c.told.ensures.opening.0 ∙ (ap (λ f. opening_of f.seen.log) same.0 ∙ e) in
    let now = c.published-now.result.seen.log in
    let fits = c.published-now.ensures.fitting p opened in
    let list = ap steps_of c.in-Ok.ensures.1.1 ∙ steps_of-append now (Made c.args.step c.in-Ok.ensures.1.0 ∷ []) in
    let le2 : c.told.new.self.front.version ≤ c.in-Ok.next.version = (let a = c.told.new.self.front.counted in let b = ap length (c.told.ensures.newer le) in let d = c.in-Ok.next.counted in let h = ap length list ∙ length-append (steps_of now) (c.args.step ∷ []) in omega arith) in
    let more = ap (λ f. steps_of f.seen.log) c.make.ensures.same.0 ∙ (c.told-2.ensures.newer le2 ∙ list) in
    subst (λ xs. AllFit g.O.Office.fits p xs) (sym more) (AllFit-push g.O.Office.fits p (steps_of now) c.args.step fits
    (c.requires.fits p (steps_of now) (record {
      opened = e;
      begins = λ xs k. c.told.ensures.met le xs (knows_same _ _ _ _ xs (ap (λ s. s.log) same.1) (ap (λ f. f.version) same.0) k);
      fitting = fits;
    })))

pub returns-clause-knows : goal.returns-clause-knows
returns-clause-knows g c xs k =
    let same = c.room.ensures.same in
    let end = c.make.ensures.same in
    knows_same _ _ _ _ xs (ap (λ s. s.log) end.1) (ap (λ f. f.version) end.0)
    (c.told-2.ensures.knows xs (c.told.ensures.knows xs (knows_same _ _ _ _ xs (ap (λ s. s.log) same.1) (ap (λ f. f.version) same.0) k)))

pub replace_with-printed-requires : goal.replace_with-printed-requires
replace_with-printed-requires g c =
    let same = c.room.ensures.same in
    let le : c.room.new.self.front.version ≤ c.published-now.result.version = c.meet.ensures.met in (
      search rules,
      (
        (λ p e. c.requires.fits p (steps_of c.published-now.result.seen.log) (record {
          opened = ap (λ f. opening_of f.seen.log) (sym same.0) ∙ (sym c.told.ensures.opening.0 ∙ e);
          begins = λ xs k. c.told.ensures.met le xs (knows_same _ _ _ _ xs (ap (λ s. s.log) same.1) (ap (λ f. f.version) same.0) k);
          fitting = c.published-now.ensures.fitting p e;
        })),
        search rules,
      ),
    )

pub returns-clause-same : goal.returns-clause-same
returns-clause-same g c =
    let now = c.published-now.result in
    let step = c.args.step in
    let log = ap (λ s. s.log) c.twin.ensures.0 ∙ c.in-Ok.ensures.1.1 in
    ap opening_of log ∙ (opening_more now.seen.log (Made step c.in-Ok.ensures.1.0 ∷ []) now.opened ∙ (c.told.ensures.opening.0 ∙ ap (λ f. opening_of f.seen.log) c.room.ensures.same.0))

pub returns-clause-origin : goal.returns-clause-origin
returns-clause-origin g c =
    let now = c.published-now.result in
    let log = ap (λ s. s.log) c.twin.ensures.0 ∙ c.in-Ok.ensures.1.1 in
    ap opening_of log ∙ (opening_more now.seen.log (Made c.args.step c.in-Ok.ensures.1.0 ∷ []) now.opened ∙ ap opening_of c.published-now.ensures.same)
