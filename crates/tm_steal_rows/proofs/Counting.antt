-- The steps of all that the workers give back are those of the rows.
use Rattle.std.proofs.Common.{◌≡◌, ◌+◌, ℕ, suc, List, [], ◌∷◌, ◌++◌, map, Bool, refl, sym, ap, ◌∙◌, arith, append-nil}
use Rattle.std.specs.Prelude.{Option, Some, None, flat_map, option_to_list}
use Rattle.std.proofs.lemmas.Grind.{flat_map-append}
use Rattle.std.proofs.lemmas.List.{map-append}
use Rattle.tm_rules.specs.Types.{Take, Tree}
use Rattle.tm_rules.specs.Prelude.{Trace}
use Rattle.tm_legal.specs.Prelude.{own_numbers, times}
use Rattle.tm_legal.proofs.Laws.{times-append}
use Rattle.tm_joint.specs.Joint.{takes_in}
use Rattle.tm_joint.specs.Played.{row_own}
use Rattle.tm_seat.specs.declared.tree.PlayedTree.{PlayedTree}
use Rattle.tm_seat.specs.Rows.{row_of}
use Rattle.tm_steal_rows.specs.declared.played.PlayedTake.{PlayedTake}
use Rattle.tm_steal_rows.specs.Playing.{Event, all_own}
use Rattle.tm_steal_rows.specs.Gathering.{takes_of, ends_of, takes_own, taken, TakesRow, RowsAreOf}

-- the numbers of Ends
abbrev pub ends_own : List (ℕ × ℕ) → List ℕ
ends_own ends = map (λ (end : ℕ × ℕ). end.1) ends

-- takes and Ends apart
pub parts-own : (n : ℕ) (all : List Event) → times n (all_own all) ≡ times n (takes_own (takes_of all)) + times n (ends_own (ends_of all))
parts-own n [] = refl
parts-own n (Event.Take played ∷ all) =
    let whole = times-append n (own_numbers (played.take ∷ [])) (all_own all) in
    let takes = times-append n (own_numbers (played.take ∷ [])) (takes_own (takes_of all)) in
    sums _ _ _ _ _ _ whole takes (parts-own n all)
  where
    sums : (a b c d e f : ℕ) → a ≡ b + c → d ≡ b + e → c ≡ e + f → a ≡ d + f
    sums a b c d e f h k l = omega arith
parts-own n (Event.End tree number ∷ all) =
    let whole = times-append n (number ∷ []) (all_own all) in
    let ends = times-append n (number ∷ []) (ends_own (ends_of all)) in
    sums _ _ _ _ _ _ whole ends (parts-own n all)
  where
    sums : (a b c d e f : ℕ) → a ≡ b + c → d ≡ b + f → c ≡ e + f → a ≡ e + d
    sums a b c d e f h k l = omega arith

-- a row's takes
taken-own : (own : List PlayedTake) → own_numbers (taken own) ≡ takes_own own
taken-own [] = refl
taken-own (played ∷ own) =
    ap (λ (ns : List ℕ). ns ++ own_numbers (taken own)) (sym (append-nil _)) ∙ ap (λ (ns : List ℕ). own_numbers (played.take ∷ []) ++ ns) (taken-own own)

-- a row's End
end-own : (t : ℕ) (end : Option ℕ) → ends_own (map (λ number. (t, number)) (option_to_list end)) ≡ option_to_list end
end-own t None = refl
end-own t (Some number) = refl

row-counted : (n : ℕ) (supervised : Bool) (t : ℕ) (tree : Tree) (home : Option ℕ) (takes : List PlayedTake) (ends : List (ℕ × ℕ)) (row : PlayedTree) (takes_left : List PlayedTake) (ends_left : List (ℕ × ℕ)) → TakesRow supervised t tree home takes ends row takes_left ends_left → times n (takes_own takes) + times n (ends_own ends) ≡ times n (row_own (row_of row)) + (times n (takes_own takes_left) + times n (ends_own ends_left))
row-counted n supervised t tree home takes ends row takes_left ends_left r =
    let own = r.of_tree.own in
    let front : takes_own own ≡ own_numbers row.takes = sym (ap own_numbers r.of_tree.are.are ∙ taken-own own) in
    let all_takes : times n (takes_own takes) ≡ times n (own_numbers row.takes) + times n (takes_own takes_left) =
    ap (λ (l : List PlayedTake). times n (takes_own l)) r.of_tree.all
    ∙ ap (times n) (flat_map-append (λ (played : PlayedTake). own_numbers (played.take ∷ [])) own takes_left)
    ∙ times-append n (takes_own own) (takes_own takes_left)
    ∙ ap (λ (ns : List ℕ). times n ns + times n (takes_own takes_left)) front in
    let all_ends : times n (ends_own ends) ≡ times n (option_to_list row.end) + times n (ends_own ends_left) =
    ap (λ (l : List (ℕ × ℕ)). times n (ends_own l)) r.end.1
    ∙ ap (times n) (map-append (λ (end : ℕ × ℕ). end.1) (map (λ number. (t, number)) (option_to_list row.end)) ends_left)
    ∙ times-append n (ends_own (map (λ number. (t, number)) (option_to_list row.end))) (ends_own ends_left)
    ∙ ap (λ (ns : List ℕ). times n ns + times n (ends_own ends_left)) (end-own t row.end) in
    let whole : times n (row_own (row_of row)) ≡ times n (own_numbers row.takes) + times n (option_to_list row.end) = times-append n (own_numbers row.takes) (option_to_list row.end) in
    sums _ _ _ _ _ _ _ all_takes all_ends whole
  where
    sums : (a b c d e f g : ℕ) → a ≡ b + c → d ≡ e + f → g ≡ b + e → a + d ≡ g + (c + f)
    sums a b c d e f g h k l = omega arith

-- all rows
pub rows-own : (n : ℕ) (supervised : Bool) (t : ℕ) (trace : Trace) (homes : List (Option ℕ)) (takes : List PlayedTake) (ends : List (ℕ × ℕ)) (rows : List PlayedTree) → RowsAreOf supervised t trace homes takes ends rows → times n (takes_own takes) + times n (ends_own ends) ≡ times n (flat_map row_own (map row_of rows))
rows-own n supervised t [] homes takes ends [] h = rw (h.0, h.1) refl
rows-own n supervised t [] homes takes ends (row ∷ rows) h = absurd h
rows-own n supervised t (tree ∷ trace) homes takes ends [] h = absurd h
rows-own n supervised t (tree ∷ trace) [] takes ends (row ∷ rows) h = absurd h
rows-own n supervised t (tree ∷ trace) (home ∷ homes) takes ends (row ∷ rows) (takes_left, ends_left, r, rest) =
    row-counted n supervised t tree home takes ends row takes_left ends_left r
    ∙ ap (λ m. times n (row_own (row_of row)) + m) (rows-own n supervised (suc t) trace homes takes_left ends_left rows rest)
    ∙ sym (times-append n (row_own (row_of row)) (flat_map row_own (map row_of rows)))

-- the takes of all rows are all these
pub rows-taken : (supervised : Bool) (t : ℕ) (trace : Trace) (homes : List (Option ℕ)) (takes : List PlayedTake) (ends : List (ℕ × ℕ)) (rows : List PlayedTree) → RowsAreOf supervised t trace homes takes ends rows → takes_in (map row_of rows) ≡ taken takes
rows-taken supervised t [] homes takes ends [] h = rw h.0 refl
rows-taken supervised t [] homes takes ends (row ∷ rows) h = absurd h
rows-taken supervised t (tree ∷ trace) homes takes ends [] h = absurd h
rows-taken supervised t (tree ∷ trace) [] takes ends (row ∷ rows) h = absurd h
rows-taken supervised t (tree ∷ trace) (home ∷ homes) takes ends (row ∷ rows) (takes_left, ends_left, r, rest) =
    ap (λ (l : List Take). l ++ takes_in (map row_of rows)) r.of_tree.are.are
    ∙ ap (λ (l : List Take). taken r.of_tree.own ++ l) (rows-taken supervised (suc t) trace homes takes_left ends_left rows rest)
    ∙ sym (ap taken r.of_tree.all ∙ map-append (λ (played : PlayedTake). played.take) r.of_tree.own takes_left)
