use Rattle.std.proofs.Common.{rules, ◌≡◌, sym}
use Rattle.tm_word.specs.Prelude.{spell}
use Rattle.tm_except.specs.Printing.{range_text, number_group_words}
use Rattle.tm_except.proofs.printing.push_number_group.Goals as goal

pub returns : goal.returns
unfolding number_group_words
returns c =
    let first : c.deref.result.now ≡ spell c.args.name.now = search rules in
    let second : c.deref-2.result.now ≡ range_text c.args.member.now = search rules in
    rw (sym first, sym second) c.push_three.ensures
