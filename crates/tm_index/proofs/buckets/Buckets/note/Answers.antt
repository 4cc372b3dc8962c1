use Rattle.std.proofs.Common.{sym, rules}
use Rattle.std.proofs.lemmas.Result.{on_ok_weaker}
use Rattle.tm_index.proofs.BucketLaws.{on_err, noted_there, noted_new, kept_there}
use Rattle.tm_index.proofs.buckets.Buckets.note.Goals as goal

pub returns-in-Some-clause-done : goal.returns-in-Some-clause-done
returns-in-Some-clause-done c =
    on_ok_weaker c.push.result
    (λ added. noted_there (λ k. k.items) c.args.key.now c.args.place c.self.inside.lists.entries (c.get_mut.follows.lender c.push.new.self).entries c.in-Some.list.now c.push.new.self c.args.self.now
    (sym c.in-Some.ensures.value) (c.get_mut.follows.holds c.push.new.self).0 added c.self.view_is)
    c.push.ensures.ok

pub returns-in-Some-clause-kept : goal.returns-in-Some-clause-kept
returns-in-Some-clause-kept c =
    on_err c.push.result
    (λ kept. kept_there (λ k. k.items) c.args.key.now c.self.inside.lists.entries (c.get_mut.follows.lender c.push.new.self).entries c.in-Some.list.now c.push.new.self c.args.self.now
    (sym c.in-Some.ensures.value) (c.get_mut.follows.holds c.push.new.self).0 kept c.self.view_is)
    c.push.ensures.err

pub returns-in_ok-insert-in-None-clause-done : goal.returns-in_ok-insert-in-None-clause-done
returns-in_ok-insert-in-None-clause-done c =
    noted_new (λ k. k.items) c.in_ok-from_slice-in-None.field-0 c.args.key.now c.args.place c.self.inside.lists.entries c.insert.new.self.entries c.one.result c.args.self.now
    (sym c.in-None.ensures.value) c.in_ok-from_slice-in-None.ensures.items (rw c.get_mut.follows.holds-at-none at c.in_ok-insert-in-None.ensures.entries)
    (search rules) c.self.view_is
