-- What is noted of the groups of a namespace when the list of one changes.
use Rattle.std.proofs.Common.{◌≡◌, ℕ, ◌==◌, Bool, true, false, if◌then◌else◌, List, [], ◌∷◌, ◌++◌, refl, sym, ap, ◌∙◌, eqb-true, eq-eqb}
use mathlib.Core.Path.{fun_ext}
use Rattle.std.specs.Prelude.{Some, None}
use Rattle.std.specs.Option.{option_map_or}
use Rattle.tm_word.specs.Prelude.{texts_equal}
use Rattle.tm_rules.specs.Prelude.{at_key, put_key}
use Rattle.tm_rules.proofs.EqualityLaws.{same_texts}
use Rattle.tm_change_namespaces.proofs.MapLaws.{put_there}
use Rattle.tm_index.specs.declared.label.Label.{Label}
use Rattle.tm_index.specs.declared.list.ListIndex.{ListIndex}
use Rattle.tm_index.specs.Listing.{Listed, listed, listing, noting, closed}
use Rattle.tm_index.specs.Index.{groups_listed}
use Rattle.tm_index.specs.Groups.{group_with}
use Rattle.tm_index.proofs.IndexLaws.{put_other}

with-here : (group : ℕ) (change : Listed → Listed) (lists : ℕ → Listed) → group_with group change lists group ≡ change (lists group)
with-here group change lists = let here : (group == group) ≡ true = eq-eqb group group refl in rw here refl

with-other : (group number : ℕ) (change : Listed → Listed) (lists : ℕ → Listed) → (group == number) ≡ false → group_with group change lists number ≡ lists number
with-other group number change lists h = rw h refl

-- a list that is left as it is changes nothing
pub with-same : (group : ℕ) (lists : ℕ → Listed) → group_with group (λ x. x) lists ≡ lists
with-same group lists = fun_ext (λ number. go number (group == number))
  where
    go : (number : ℕ) (b : Bool) → (if b then lists number else lists number) ≡ lists number
    go number true = refl
    go number false = refl

-- the list of a group that is noted
pub list_there : (group : ℕ) (list : ListIndex) (lists : List (ℕ × ListIndex)) → Some list ≡ at_key lists group → listed list ≡ groups_listed lists group
list_there group list lists e = ap (λ o. option_map_or listed o (listing [])) e

-- and of one that isn't
pub list_nowhere : (group : ℕ) (lists : List (ℕ × ListIndex)) → at_key lists group ≡ None → listing [] ≡ groups_listed lists group
list_nowhere group lists e = ap (λ o. option_map_or listed o (listing [])) (sym e)

-- another list in the place of a group's
pub list_put : (group : ℕ) (list : ListIndex) (change : Listed → Listed) (lists after : List (ℕ × ListIndex)) → after ≡ put_key group list lists → listed list ≡ change (groups_listed lists group) → groups_listed after ≡ group_with group change (groups_listed lists)
list_put group list change lists after is e = ap groups_listed is ∙ fun_ext (λ number. go number (group == number) refl)
  where
    go : (number : ℕ) (b : Bool) → (group == number) ≡ b → groups_listed (put_key group list lists) number ≡ (if b then change (groups_listed lists number) else groups_listed lists number)
    go number true h =
        let same : number ≡ group = sym (eqb-true group number h) in
        ap (λ n. groups_listed (put_key group list lists) n) same ∙ ap (λ o. option_map_or listed o (listing [])) (put_there group list lists) ∙ e ∙ ap (λ n. change (groups_listed lists n)) (sym same)
    go number false h = ap (λ o. option_map_or listed o (listing [])) (put_other group number list lists h)

-- one that is seen as the one before
pub list_kept : (group : ℕ) (list : ListIndex) (lists after : List (ℕ × ListIndex)) → after ≡ put_key group list lists → listed list ≡ groups_listed lists group → groups_listed after ≡ groups_listed lists
list_kept group list lists after is e = list_put group list (λ x. x) lists after is e ∙ with-same group (groups_listed lists)

-- the one that was there before a change
pub list_back : (group : ℕ) (list old : ListIndex) (change : Listed → Listed) (lists after : List (ℕ × ListIndex)) (before : ℕ → Listed) → after ≡ put_key group list lists → Some old ≡ at_key lists group → groups_listed lists ≡ group_with group change before
    → (listed old ≡ change (before group) → listed list ≡ before group) → groups_listed after ≡ before
list_back group list old change lists after before is there e back = ap groups_listed is ∙ fun_ext (λ number. go number (group == number) refl)
  where
    go : (number : ℕ) (b : Bool) → (group == number) ≡ b → groups_listed (put_key group list lists) number ≡ before number
    go number true h =
        let same : number ≡ group = sym (eqb-true group number h) in
        ap (λ n. groups_listed (put_key group list lists) n) same ∙ ap (λ o. option_map_or listed o (listing [])) (put_there group list lists)
        ∙ back (list_there group old lists there ∙ ap (λ (f : ℕ → Listed). f group) e ∙ with-here group change before) ∙ ap before (sym same)
    go number false h = ap (λ o. option_map_or listed o (listing [])) (put_other group number list lists h) ∙ ap (λ (f : ℕ → Listed). f number) e ∙ with-other group number change before h

some-last : (places : List ℕ) (place : ℕ) → [] ≡ places ++ place ∷ [] → ⊥
some-last [] place e = cc
some-last (p ∷ ps) place e = cc

noted-some : (label : Label) (place : ℕ) (x : Listed) → listing [] ≡ noting label place x → ⊥
unfolding listing noting
noted-some label place x e =
    let here : texts_equal label.key label.key ≡ true = same_texts.full label.key in
    some-last (x.lines label.key) place (ap (λ (y : Listed). y.lines label.key) e ∙ rw here refl)

-- a group with an entry that was noted is there
pub noted_there : (group : ℕ) (label : Label) (place : ℕ) (lists : List (ℕ × ListIndex)) (before : ℕ → Listed) → at_key lists group ≡ None → groups_listed lists ≡ group_with group (noting label place) before → ⊥
noted_there group label place lists before none e =
    noted-some label place (before group) (list_nowhere group lists none ∙ ap (λ (f : ℕ → Listed). f group) e ∙ with-here group (noting label place) before)

-- no entries stay none
pub none_closed : (place : ℕ) → listing [] ≡ closed place (listing [])
unfolding closed listing
none_closed place = refl

-- a list of none that a change leaves so
pub list_none : (group : ℕ) (change : Listed → Listed) (lists : List (ℕ × ListIndex)) → at_key lists group ≡ None → listing [] ≡ change (listing []) → groups_listed lists ≡ group_with group change (groups_listed lists)
list_none group change lists none e = fun_ext (λ number. go number (group == number) refl)
  where
    go : (number : ℕ) (b : Bool) → (group == number) ≡ b → groups_listed lists number ≡ (if b then change (groups_listed lists number) else groups_listed lists number)
    go number true h =
        let same : number ≡ group = sym (eqb-true group number h) in
        let is : groups_listed lists number ≡ listing [] = ap (λ n. groups_listed lists n) same ∙ sym (list_nowhere group lists none) in
        is ∙ e ∙ ap change (sym is)
    go number false h = refl
