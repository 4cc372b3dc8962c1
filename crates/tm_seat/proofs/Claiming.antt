-- Whose the steps are that a seat has made.
use Rattle.std.proofs.Common.{◌≡◌, ◌≤◌, ℕ, suc, List, [], ◌∷◌, ◌++◌, length, ap, ◌∙◌, arith}
use Rattle.std.specs.Prelude.{Some}
use Rattle.std.specs.List.{AllByRecursion}
use Rattle.std.proofs.lemmas.List.{length-append}
use Rattle.tm_rules.specs.Types.{Look, Made, Maker, Reply, Start, Take}
use Rattle.tm_legal.proofs.Walks.{All-map}
use Rattle.tm_joint.proofs.Later.{claims-later, claims-push}
use Rattle.tm_joint.proofs.Rows.{All-left, All-right}
use Rattle.tm_seat.specs.Seats.{Begins, IsMade, MadeBy}
use Rattle.tm_seat.specs.Playing.{LooksSince}

-- a list that goes on
pub by-later : (makers : List Maker) (known list later : List Made) (before own own' : List ℕ) → Begins list later → own' ≡ own → MadeBy makers known before list own → MadeBy makers known before later own'
by-later makers known list later before own own' begins same h who i all claims =
    rw (same, begins.1) (claims-later who i list begins.0 own (h who i all claims))

-- nothing was made
pub by-nobody : (makers : List Maker) (list later : List Made) (own own' : List ℕ) → Begins list later → own' ≡ own → MadeBy makers list own later own'
by-nobody makers list later own own' begins same who i all claims = rw (same, begins.1) (claims-later who i list begins.0 own claims)

-- the last of a list that a step has made longer
pub last-number : (list others : List Made) (made : Made) → length ((list ++ others) ++ made ∷ []) ≡ suc (length (list ++ others))
last-number list others made = let long = length-append (list ++ others) (made ∷ []) in omega arith

-- a step more
pub by-step : (makers : List Maker) (start : Start) (known list later : List Made) (before own own' : List ℕ) (made : Made) (number : ℕ) (reply : Reply) → ((P : Maker → Type 0) → AllByRecursion P makers → P made.maker) → IsMade start list made later reply → number ≡ length later → own' ≡ own ++ number ∷ [] → MadeBy makers known before list own → MadeBy makers known before later own'
by-step makers start known list later before own own' made number reply among (others, is, replied) numbered noted h who i all claims =
    let last : number ≡ suc (length (list ++ others)) = numbered ∙ ap (λ (l : List Made). length l) is ∙ last-number list others made in
    rw (noted, last, is) (claims-push who i list others made own (among (λ maker. who maker ≡ Some i) all) (h who i all claims))

-- one after another
pub by-both : (first second : List Maker) (xs ys zs : List Made) (own own' own'' : List ℕ) → MadeBy first xs own ys own' → MadeBy second ys own' zs own'' → MadeBy (first ++ second) xs own zs own''
by-both first second xs ys zs own own' own'' h k who i all claims =
    k who i (All-right (λ maker. who maker ≡ Some i) first second all) (h who i (All-left (λ maker. who maker ≡ Some i) first second all) claims)

-- what is no older than a longer list is no older than one that it goes on from
pub since-later : (xs ys : List Made) (k : Take) → Begins xs ys → LooksSince (length ys) k → LooksSince (length xs) k
since-later xs ys k begins h =
    let long : length xs ≤ length ys = rw begins.1 (let all = length-append xs begins.0 in omega arith) in
    All-map (λ (look : Look). length ys ≤ look.version) (λ (look : Look). length xs ≤ look.version) k.looks (λ look le. omega (arith, long, le)) h
