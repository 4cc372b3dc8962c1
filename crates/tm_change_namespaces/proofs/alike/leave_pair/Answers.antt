use Rattle.std.proofs.Common.{◌≡◌, ap, ◌∙◌, rules}
use Rattle.std.proofs.lemmas.Fn.{filter_same}
use Rattle.tm_change_namespaces.specs.Pairs.{leaving_pair}
use Rattle.tm_change_namespaces.proofs.alike.leave_pair.Goals as goal

pub returns-clause-done : goal.returns-clause-done
returns-clause-done g c =
    let made : c.from_vec.result ≡ c.retain.new.self.items = search rules in
    let taken = c.take-pairs.ensures.taken in
    let kept : c.retain.new.self.items ≡ leaving_pair g.A.Alike.alike g.B.Alike.alike c.args.first.now c.args.second.now c.take-pairs.result.items = filter_same _ _ _ (λ x b f' k. search rules) _ _ c.retain.ensures.filtered in
    made ∙ kept ∙ ap (leaving_pair g.A.Alike.alike g.B.Alike.alike c.args.first.now c.args.second.now) taken
