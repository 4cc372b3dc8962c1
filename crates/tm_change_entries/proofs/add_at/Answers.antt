use Rattle.std.proofs.Common.{◌≡◌, ◌++◌, ◌∷◌, [], Some, None, sym, ◌∙◌, rules}
use Rattle.std.specs.List.{position_from}
use Rattle.tm_rules.specs.Types.{Entry}
use Rattle.tm_rules.specs.Prelude.{same_line}
use Rattle.tm_change_entries.proofs.Edits.{place_within, adding_last}
use Rattle.tm_change_entries.proofs.add_at.Goals as goal

pub join_at-change-requires-clause-within : goal.join_at-change-requires-clause-within
join_at-change-requires-clause-within c =
    let found : position_from (λ (entry : Entry). same_line entry c.args.line) 0 c.args.entries.now ≡ Some c.in-Some.place = sym c.requires ∙ c.in-Some.is in
    place_within c.args.line c.args.entries.now c.in-Some.place found

pub returns-in_ok-push-in-None-clause-done : goal.returns-in_ok-push-in-None-clause-done
returns-in_ok-push-in-None-clause-done c =
    let found : position_from (λ (entry : Entry). same_line entry c.args.line) 0 c.args.entries.now ≡ None = search rules in
    let made : c.push.new.self ≡ c.args.entries.now ++ c.args.line ∷ [] = search rules in
    made ∙ sym (adding_last c.args.line c.args.entries.now found)
