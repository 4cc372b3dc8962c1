use Rattle.std.proofs.Common.{◌≡◌, ap, ◌∙◌, rules}
use Rattle.std.proofs.lemmas.Fn.{filter_same}
use Rattle.tm_rules.specs.Prelude.{leaving}
use Rattle.tm_change_namespaces.proofs.alike.leave.Goals as goal

pub returns-clause-done : goal.returns-clause-done
returns-clause-done g c =
    let made : c.from_vec.result ≡ c.retain.new.self.items = search rules in
    let taken = c.take-members.ensures.taken in
    let kept : c.retain.new.self.items ≡ leaving g.T.Alike.alike c.args.item.now c.take-members.result.items = filter_same _ _ _ (λ x b f' k. search rules) _ _ c.retain.ensures.filtered in
    made ∙ kept ∙ ap (leaving g.T.Alike.alike c.args.item.now) taken
