-- Queues whose rows are taken out, one after another.
use Rattle.std.proofs.Common.{◌≡◌, ℕ, zero, suc, ◌+◌, List, [], ◌∷◌, ◌++◌, length, map, Bool, true, false, refl, sym, ap, ◌∙◌, subst, arith, append_assoc, append-nil}
use Rattle.std.specs.Prelude.{Some, slice_get, slice_set, ◌==◌}
use Rattle.std.proofs.lemmas.Bool.{eqb-true}
use Rattle.std.proofs.lemmas.List.{map-append}
use Rattle.std.proofs.lemmas.Grind.{flat_map-append}
use Rattle.tm_legal.specs.Prelude.{numbers_to, times}
use Rattle.tm_legal.proofs.Laws.{times-append}
use Rattle.tm_joint.specs.Played.{row_own}
use Rattle.tm_joint.proofs.Gathering.{queued-take}
use Rattle.tm_seat.specs.declared.tree.PlayedTree.{PlayedTree}
use Rattle.tm_seat.specs.Rows.{row_of, rows_own}
use Rattle.tm_seat.specs.Dealing.{TakesFirst, queues_own, IsAmong}
use Rattle.tm_seat.proofs.Hands.{get-set-same, get-set-other, length-set}

-- so many rows have been gathered from queues that are these by now
pub record Gathering (queues : List (List PlayedTree)) (count : ℕ) (left : List (List PlayedTree)) (rows : List PlayedTree) : Type 0 where
  pub numbers : map (λ (row : PlayedTree). row.number) rows ≡ numbers_to count
  pub same : length left ≡ length queues
  pub fronts : (worker : ℕ) (queue : List PlayedTree) → slice_get left worker ≡ Some queue → (front : List PlayedTree) × (slice_get queues worker ≡ Some (front ++ queue))
  pub among : (k : ℕ) (row : PlayedTree) → slice_get rows k ≡ Some row → IsAmong queues row
  pub counted : (number : ℕ) → times number (queues_own queues) ≡ times number (rows_own rows) + times number (queues_own left)

-- an element of a list that was made longer by one
last-get : {A : Type 0} (P : A → Type 0) (xs : List A) (x : A) (k : ℕ) (y : A) → slice_get (xs ++ x ∷ []) k ≡ Some y → ((j : ℕ) (z : A) → slice_get xs j ≡ Some z → P z) → P x → P y
last-get P [] x zero y at before last = let same : x ≡ y = cc in subst P same last
last-get P [] x (suc k) y at before last = absurd cc
last-get P (z ∷ xs) x zero y at before last = before 0 y at
last-get P (z ∷ xs) x (suc k) y at before last = last-get P xs x k y at (λ j w there. before (suc j) w there) last

get-behind : {A : Type 0} (front : List A) (x : A) (xs : List A) → slice_get (front ++ x ∷ xs) (length front) ≡ Some x
get-behind [] x xs = refl
get-behind (y ∷ front) x xs = get-behind front x xs

-- a row more
pub gathers-more : (queues : List (List PlayedTree)) (count : ℕ) (left next : List (List PlayedTree)) (rows : List PlayedTree) (place : ℕ) (row : PlayedTree) → row.number ≡ suc count → TakesFirst left place row next → Gathering queues count left rows → Gathering queues (suc count) next (rows ++ row ∷ [])
gathers-more queues count left next rows place row number (rest, at, is) h =
    record {
      numbers = map-append (λ (r : PlayedTree). r.number) rows (row ∷ []) ∙ rw (h.numbers, number) refl;
      same = rw is (length-set left place rest ∙ h.same);
      fronts = λ worker queue there. go worker queue (place == worker) refl (rw is at there);
      among = λ k r there. last-get (IsAmong queues) rows row k r there h.among its;
      counted = λ n.
          let taken = queued-take (λ (r : PlayedTree). row_own (row_of r)) n left place row rest at in
          let all : rows_own (rows ++ row ∷ []) ≡ rows_own rows ++ row_own (row_of row) = flat_map-append (λ (r : PlayedTree). row_own (row_of r)) rows (row ∷ []) ∙ ap (λ (ns : List ℕ). rows_own rows ++ ns) (append-nil (row_own (row_of row))) in
          let both = ap (times n) all ∙ times-append n (rows_own rows) (row_own (row_of row)) in
          rw is (parts (times n (queues_own queues)) (times n (rows_own rows)) (times n (queues_own left)) (times n (row_own (row_of row))) (times n (queues_own (slice_set left place rest))) (times n (rows_own (rows ++ row ∷ []))) (h.counted n) taken both);
    }
  where
    parts : (a b c d e f : ℕ) → a ≡ b + c → c ≡ d + e → f ≡ b + d → a ≡ f + e
    parts a b c d e f h k l = omega arith

    its : IsAmong queues row
    its =
        let (front, there) = h.fronts place (row ∷ rest) at in
        record { worker = place; queue = front ++ row ∷ rest; there = there; place = length front; at = get-behind front row rest }

    go : (worker : ℕ) (queue : List PlayedTree) (b : Bool) → (place == worker) ≡ b → slice_get (slice_set left place rest) worker ≡ Some queue → (front : List PlayedTree) × (slice_get queues worker ≡ Some (front ++ queue))
    go worker queue true e there =
        let same : place ≡ worker = eqb-true place worker e in
        let both : Some rest ≡ Some queue = sym (get-set-same left place (row ∷ rest) rest at) ∙ ap (slice_get (slice_set left place rest)) same ∙ there in
        let is_rest : rest ≡ queue = cc in
        let (front, was) = h.fronts place (row ∷ rest) at in
        (front ++ row ∷ [], rw (← same, ← is_rest, append_assoc front (row ∷ []) rest) was)
    go worker queue false e there = h.fronts worker queue (sym (get-set-other left place worker rest e) ∙ there)

pub gathers-next : (queues : List (List PlayedTree)) (count : ℕ) (left next : List (List PlayedTree)) (rows : List PlayedTree) (place : ℕ) (row : PlayedTree) → row.number ≡ count + 1 → TakesFirst left place row next → Gathering queues count left rows → Gathering queues (count + 1) next (rows ++ row ∷ [])
gathers-next queues count left next rows place row number first h =
    let one : suc count ≡ count + 1 = omega arith in
    subst (λ (n : ℕ). Gathering queues n next (rows ++ row ∷ [])) one (gathers-more queues count left next rows place row (number ∙ sym one) first h)
