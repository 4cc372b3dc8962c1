-- What an exception line finds, takes out and adds.
use Rattle.std.proofs.Common.{◌≡◌, true, false, List, refl, sym, ap, ◌∙◌}
use Rattle.std.specs.Prelude.{Option, None, unwrap_or}
use Rattle.std.specs.List.{find, position_from}
use Rattle.tm_word.specs.Prelude.{Text, texts_equal}
use Rattle.tm_rules.specs.Types.{ExceptRule, Namespace}
use Rattle.tm_rules.specs.Prelude.{empty_namespace, except_there}
use Rattle.tm_change_namespaces.specs.Named.{named}
use Rattle.tm_change_namespaces.proofs.Places.{none_found}

-- nothing is in a namespace of which nothing was written
pub there_nowhere : (rule : ExceptRule) (name : Text) → except_there rule (empty_namespace name) ≡ false
unfolding except_there
there_nowhere (ExceptRule.PathGroup group member) name = refl
there_nowhere (ExceptRule.NumberGroup group member) name = refl
there_nowhere (ExceptRule.AddressGroup group member) name = refl
there_nowhere (ExceptRule.Aggregator first second) name = refl
there_nowhere (ExceptRule.Control control) name = refl
there_nowhere (ExceptRule.Acl n words) name = refl

-- where something is, the namespace has a place
pub there_somewhere : (rule : ExceptRule) (name : Text) (spaces : List Namespace) → position_from (λ (ns : Namespace). texts_equal ns.name name) 0 spaces ≡ None → except_there rule (named name spaces) ≡ true → ⊥
there_somewhere rule name spaces e h =
    let none : find (λ (ns : Namespace). texts_equal ns.name name) spaces ≡ None = none_found (λ (ns : Namespace). texts_equal ns.name name) 0 spaces e in
    let is : except_there rule (named name spaces) ≡ except_there rule (empty_namespace name) = ap (λ (o : Option Namespace). except_there rule (unwrap_or o (empty_namespace name))) none in
    let nowhere = there_nowhere rule name in
    let both : true ≡ false = sym h ∙ is ∙ nowhere in
    cc
