use Rattle.std.proofs.Common.{◌≡◌, filter, ap, ◌∙◌, rules}
use Rattle.std.specs.Prelude.{not}
use Rattle.std.proofs.lemmas.Fn.{filter_same}
use Rattle.tm_word.specs.Prelude.{Text, texts_equal}
use Rattle.tm_change_domains.proofs.managers.remove_manager.Goals as goal

pub returns : goal.returns
returns c =
    let made : c.from_vec.result ≡ c.retain.new.self.items = search rules in
    let kept : c.retain.new.self.items ≡ filter (λ (manager : Text). not (texts_equal c.args.name.now manager)) c.take-list.result.items = filter_same _ _ _ (λ x b f' k. search rules) _ _ c.retain.ensures.filtered in
    made ∙ kept ∙ ap (filter (λ (manager : Text). not (texts_equal c.args.name.now manager))) c.take-list.ensures.taken
