use Rattle.std.proofs.Common.{rules, ◌≡◌, Some, sym, ap, ◌∙◌}
use Rattle.tm_publish.specs.Boards.{board_list}
use Rattle.tm_publish.specs.Words.{known}
use Rattle.tm_engine.proofs.engine.settle_on.Goals as goal

pub returns-clause-settled : goal.returns-clause-settled
returns-clause-settled g c =
    let done = c.in-Ok.ensures in
    let some : c.reply.result ≡ Some c.unwrap-reply.result = search rules in
    record {
      before = board_list c.args.board.now;
      knows = done.known ∙ done.list;
      numbered = done.number;
      made = done.made;
      begins = done.before;
      goes_on = done.goes_on;
      fitting = done.fitting;
      replied = λ p e.
          let office = c.office.result.now in
          let opening : g.H.Office.opening office ≡ p = cc (sym c.office.ensures.shown.0 ∙ (done.same ∙ e)) in
          let steps = done.known ∙ c.office.ensures.shown.1 in
          ap (λ q. g.H.Hall.reply_at q (known c.publish.new.pass) c.in-Ok.number) (sym opening)
          ∙ (ap (λ l. g.H.Hall.reply_at (g.H.Office.opening office) l c.in-Ok.number) steps ∙ (sym c.reply.ensures.value ∙ some));
    }
