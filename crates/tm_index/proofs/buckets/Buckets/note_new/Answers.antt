use Rattle.std.proofs.Common.{rules}
use Rattle.std.proofs.lemmas.Result.{on_ok_weaker}
use Rattle.tm_index.proofs.BucketLaws.{on_err, noted_entry, kept_entry}
use Rattle.tm_index.proofs.buckets.Buckets.note_new.Goals as goal

pub returns-clause-done : goal.returns-clause-done
returns-clause-done c =
    let made = c.in_ok-self-inside.ensures.update.1 c.push.new.self in
    on_ok_weaker c.push.result
    (λ added. noted_entry (λ k. k.items) c.in_ok-from_slice.field-0 c.args.key.now c.args.place c.self.inside.lists.entries _ c.or_insert-list.result.now c.push.new.self c.none.result _ c.args.self.now
    c.or_insert-list.ensures.value c.in_ok-self-inside.ensures.value c.none.ensures c.in_ok-from_slice.ensures.items (search rules) added c.self.view_is)
    c.push.ensures.ok

pub returns-clause-kept : goal.returns-clause-kept
returns-clause-kept c =
    let made = c.in_ok-self-inside.ensures.update.1 c.push.new.self in
    on_err c.push.result
    (λ kept. kept_entry (λ k. k.items) c.in_ok-from_slice.field-0 c.self.inside.lists.entries _ c.or_insert-list.result.now c.push.new.self c.none.result _ c.args.self.now
    c.or_insert-list.ensures.value c.in_ok-self-inside.ensures.value c.none.ensures (search rules) kept c.self.view_is)
    c.push.ensures.err
