-- How hands are made, and how they come together again.
use Rattle.std.proofs.Common.{◌≡◌, ℕ, suc, ◌+◌, ◌<◌, List, [], ◌∷◌, ◌++◌, length, map, refl, ap, sym, ◌∙◌, subst, arith, append-nil, append_assoc, length-append}
use Rattle.std.specs.Prelude.{Result, Ok, Err, IfOk}
use Rattle.std.specs.List.{AllByRecursion}
use Rattle.tm_share.specs.Weights.{weigh}
use Rattle.tm_share.specs.Deques.{Deque, Own, Way, lending, way_into, with_way}
use Rattle.tm_share.specs.Hands.{Hand, hand, place, Sits, IsPool, stolen_by, all_put, all_taken}
use Rattle.tm_share.specs.Pools.{deques_of, ways_of, all_own_put, all_own_taken, all_stolen, AllLend, AreEmpty, IsUnused, IsOpened, paired, Fit, closed, AreSettled}
use Rattle.tm_share.proofs.Weights.{weigh-append}

all_push : {X : Type 0} (P : X → Type 0) (xs : List X) (x : X) → AllByRecursion P xs → P x → AllByRecursion P (xs ++ x ∷ [])
all_push P [] x all one = (one, tt)
all_push P (y ∷ ys) x all one = (all.0, all_push P ys x all.1 one)

all_pop : {X : Type 0} (P : X → Type 0) (xs : List X) (x : X) → AllByRecursion P (xs ++ x ∷ []) → AllByRecursion P xs × P x
all_pop P [] x all = (tt, all.0)
all_pop P (y ∷ ys) x all = (let r = all_pop P ys x all.1 in ((all.0, r.0), r.1))

pub none-left : {X : Type 0} (xs : List X) (i n : ℕ) → length xs + i ≡ n → n ≡ i → xs ≡ []
none-left [] i n e f = refl
none-left (x ∷ xs) i n e f = absurd (omega arith)

-- what holds of a list holds of what has its items
pub ok-at : {A E X : Type 0} (r : Result A E) (items : A → List X) (xs : List X) (Q : List X → Type 0) → IfOk r (λ a. items a ≡ xs) → Q xs → IfOk r (λ a. Q (items a))
ok-at (Ok a) items xs Q is q = subst Q (sym is) q
ok-at (Err e) items xs Q is q = tt

length_map : {X Y : Type 0} (f : X → Y) (xs : List X) → length (map f xs) ≡ length xs
length_map f [] = refl
length_map f (x ∷ xs) = ap (λ n. suc n) (length_map f xs)

tail_of : List Deque → List Deque
tail_of [] = []
tail_of (d ∷ ds) = ds

first_of : Deque → List Deque → Deque
first_of d [] = d
first_of d (e ∷ ds) = e

module _ {J : Type 0} where
  put_push : (owns : List (Own J)) (own : Own J) → all_own_put (owns ++ own ∷ []) ≡ all_own_put owns ++ own.put
  put_push [] own = append-nil own.put
  put_push (o ∷ os) own = ap (λ l. o.put ++ l) (put_push os own) ∙ sym (append_assoc o.put (all_own_put os) own.put)

  taken_push : (owns : List (Own J)) (own : Own J) → all_own_taken (owns ++ own ∷ []) ≡ all_own_taken owns ++ own.taken
  taken_push [] own = append-nil own.taken
  taken_push (o ∷ os) own = ap (λ l. o.taken ++ l) (taken_push os own) ∙ sym (append_assoc o.taken (all_own_taken os) own.taken)

  both_none : (xs ys : List J) → xs ≡ [] → ys ≡ [] → xs ++ ys ≡ []
  both_none xs ys e f = ap (λ l. l ++ ys) e ∙ f

  -- an empty deque more
  pub empty-push : (owns : List (Own J)) (own : Own J) → AreEmpty owns → (own.lent ≡ 0) × (own.put ≡ []) × (own.taken ≡ []) → AreEmpty (owns ++ own ∷ [])
  empty-push owns own all one = (
    all_push (λ o. o.lent ≡ 0) owns own all.0 one.0,
    put_push owns own ∙ both_none (all_own_put owns) own.put all.1 one.1,
    taken_push owns own ∙ both_none (all_own_taken owns) own.taken all.2 one.2,
  )

  pub empty-more : (owns now : List (Own J)) (own : Own J) (n : ℕ) → now ≡ owns ++ own ∷ [] → (length owns ≡ n) × AreEmpty owns
      → (own.lent ≡ 0) × (own.put ≡ []) × (own.taken ≡ []) → (length now ≡ n + 1) × AreEmpty now
  empty-more owns now own n pushed before one =
      subst (λ l. (length l ≡ n + 1) × AreEmpty l) (sym pushed)
      (length-append owns (own ∷ []) ∙ ap (λ k. k + 1) before.0, empty-push owns own before.1 one)

  lend_deques : (owns : List (Own J)) → deques_of (map lending owns) ≡ deques_of owns
  lend_deques [] = refl
  lend_deques (o ∷ os) = ap (λ ds. o.deque ∷ ds) (lend_deques os)

  lend_all : (k : ℕ) (owns : List (Own J)) → AllLend k owns → AllLend (k + 1) (map lending owns)
  lend_all k [] all = tt
  lend_all k (o ∷ os) all = (ap (λ n. n + 1) all.0, lend_all k os all.1)

  lend_put : (owns : List (Own J)) → all_own_put (map lending owns) ≡ all_own_put owns
  lend_put [] = refl
  lend_put (o ∷ os) = ap (λ l. o.put ++ l) (lend_put os)

  lend_taken : (owns : List (Own J)) → all_own_taken (map lending owns) ≡ all_own_taken owns
  lend_taken [] = refl
  lend_taken (o ∷ os) = ap (λ l. o.taken ++ l) (lend_taken os)

  ways_into_all : (owns : List (Own J)) → ways_of (map way_into owns) ≡ deques_of owns
  ways_into_all [] = refl
  ways_into_all (o ∷ os) = ap (λ ds. o.deque ∷ ds) (ways_into_all os)

  ways_unused : (owns : List (Own J)) → stolen_by (map way_into owns) ≡ []
  ways_unused [] = refl
  ways_unused (o ∷ os) = ways_unused os

  pub opened-none : (owns : List (Own J)) → AreEmpty owns → IsOpened (deques_of owns) 0 owns []
  opened-none owns empty = record {
    same = refl;
    lent = empty.0;
    put = empty.1;
    taken = empty.2;
    unused = tt;
    count = refl;
  }

  opened_now : (ds : List Deque) (k : ℕ) (owns : List (Own J)) (rounds : List (List (Way J))) → IsOpened ds k owns rounds
      → IsOpened ds (k + 1) (map lending owns) (rounds ++ map way_into owns ∷ [])
  opened_now ds k owns rounds o = record {
    same = lend_deques owns ∙ o.same;
    lent = lend_all k owns o.lent;
    put = lend_put owns ∙ o.put;
    taken = lend_taken owns ∙ o.taken;
    unused = all_push (IsUnused ds) rounds (map way_into owns) o.unused (ways_into_all owns ∙ o.same, ways_unused owns);
    count = length-append rounds (map way_into owns ∷ []) ∙ ap (λ n. n + 1) o.count;
  }

  -- a worker more has its ways
  pub opened-more : (ds : List Deque) (k : ℕ) (owns lent : List (Own J)) (rounds : List (List (Way J))) (ways : List (Way J)) → IsOpened ds k owns rounds
      → lent ≡ map lending owns → ways ≡ map way_into owns → IsOpened ds (k + 1) lent (rounds ++ ways ∷ [])
  opened-more ds k owns lent rounds ways o e f =
      subst (λ l. IsOpened ds (k + 1) l (rounds ++ ways ∷ [])) (sym e)
      (subst (λ w. IsOpened ds (k + 1) (map lending owns) (rounds ++ w ∷ [])) (sym f) (opened_now ds k owns rounds o))

  pub opened-push : (ds : List Deque) (k : ℕ) (owns lent : List (Own J)) (rounds now : List (List (Way J))) (ways : List (Way J)) → IsOpened ds k owns rounds
      → lent ≡ map lending owns → ways ≡ map way_into owns → now ≡ rounds ++ ways ∷ [] → IsOpened ds (k + 1) lent now
  opened-push ds k owns lent rounds now ways o e f pushed = subst (λ r. IsOpened ds (k + 1) lent r) (sym pushed) (opened-more ds k owns lent rounds ways o e f)

  -- a hand more is made
  pub paired-more : (hands : List (Hand J)) (made : Hand J) (all : List (Hand J)) (owns more : List (Own J)) (rounds others : List (List (Way J))) (own : Own J) (ways : List (Way J))
      → hands ++ paired owns rounds ≡ all → owns ≡ own ∷ more → rounds ≡ ways ∷ others → made ≡ hand own ways → (hands ++ made ∷ []) ++ paired more others ≡ all
  paired-more hands made all owns more rounds others own ways e f g m =
      append_assoc hands (made ∷ []) (paired more others) ∙ ap (λ x. hands ++ x ∷ paired more others) m
      ∙ ap (λ l. hands ++ paired l (ways ∷ others)) (sym f) ∙ ap (λ l. hands ++ paired owns l) (sym g) ∙ e

  -- no deque is left, or no ways are
  pub paired-end : (hands all : List (Hand J)) (owns : List (Own J)) (rounds : List (List (Way J))) → hands ++ paired owns rounds ≡ all → owns ≡ [] → hands ≡ all
  paired-end hands all owns rounds e f = sym (append-nil hands) ∙ ap (λ l. hands ++ paired l rounds) (sym f) ∙ e

  paired_alone : (owns : List (Own J)) → paired owns [] ≡ []
  paired_alone [] = refl
  paired_alone (o ∷ os) = refl

  pub paired-out : (hands all : List (Hand J)) (owns : List (Own J)) (rounds : List (List (Way J))) → hands ++ paired owns rounds ≡ all → rounds ≡ [] → hands ≡ all
  paired-out hands all owns rounds e f = sym (append-nil hands) ∙ ap (λ l. hands ++ l) (sym (paired_alone owns)) ∙ ap (λ l. hands ++ paired owns l) (sym f) ∙ e

  pair_deques : (owns : List (Own J)) (rounds : List (List (Way J))) → length rounds ≡ length owns → map (λ p. p.deque) (map place (paired owns rounds)) ≡ deques_of owns
  pair_deques [] rounds e = refl
  pair_deques (o ∷ os) [] e = absurd (omega arith)
  pair_deques (o ∷ os) (r ∷ rs) e = ap (λ ds. o.deque ∷ ds) (pair_deques os rs (omega arith))

  pair_length : (owns : List (Own J)) (rounds : List (List (Way J))) → length rounds ≡ length owns → length (paired owns rounds) ≡ length owns
  pair_length [] rounds e = refl
  pair_length (o ∷ os) [] e = absurd (omega arith)
  pair_length (o ∷ os) (r ∷ rs) e = ap (λ n. suc n) (pair_length os rs (omega arith))

  pair_sits : (n : ℕ) (ds : List Deque) (owns : List (Own J)) (rounds : List (List (Way J))) → AllLend n owns → AllByRecursion (IsUnused ds) rounds
      → AllByRecursion (Sits n ds) (map place (paired owns rounds))
  pair_sits n ds [] rounds lent unused = tt
  pair_sits n ds (o ∷ os) [] lent unused = tt
  pair_sits n ds (o ∷ os) (r ∷ rs) lent unused = ((lent.0, unused.0.0), pair_sits n ds os rs lent.1 unused.1)

  pair_put : (owns : List (Own J)) (rounds : List (List (Way J))) → length rounds ≡ length owns → all_put (paired owns rounds) ≡ all_own_put owns
  pair_put [] rounds e = refl
  pair_put (o ∷ os) [] e = absurd (omega arith)
  pair_put (o ∷ os) (r ∷ rs) e = ap (λ l. o.put ++ l) (pair_put os rs (omega arith))

  pair_taken : (ds : List Deque) (owns : List (Own J)) (rounds : List (List (Way J))) → length rounds ≡ length owns → AllByRecursion (IsUnused ds) rounds
      → all_taken (paired owns rounds) ≡ all_own_taken owns
  pair_taken ds [] rounds e unused = refl
  pair_taken ds (o ∷ os) [] e unused = absurd (omega arith)
  pair_taken ds (o ∷ os) (r ∷ rs) e unused =
      ap (λ l. (o.taken ++ l) ++ all_taken (paired os rs)) unused.0.1 ∙ ap (λ l. l ++ all_taken (paired os rs)) (append-nil o.taken)
      ∙ ap (λ l. o.taken ++ l) (pair_taken ds os rs (omega arith) unused.1)

  -- the hands that are made are those of one pool
  pub made-pool : (deques owns : List (Own J)) (rounds : List (List (Way J))) → IsOpened (deques_of deques) (length deques) owns rounds
      → IsPool (map place (paired owns rounds)) × (length (paired owns rounds) ≡ length deques) × (all_put (paired owns rounds) ≡ []) × (all_taken (paired owns rounds) ≡ [])
  made-pool deques owns rounds o =
      let as_many : length owns ≡ length deques = sym (length_map (λ own. own.deque) owns) ∙ ap length o.same ∙ length_map (λ own. own.deque) deques in
      let even : length rounds ≡ length owns = o.count ∙ sym as_many in
      let hands = paired owns rounds in
      let count : length (map place hands) ≡ length deques = length_map place hands ∙ pair_length owns rounds even ∙ as_many in
      let same : map (λ p. p.deque) (map place hands) ≡ deques_of deques = pair_deques owns rounds even ∙ o.same in
      let sit : AllByRecursion (Sits (length deques) (deques_of deques)) (map place hands) = pair_sits (length deques) (deques_of deques) owns rounds o.lent o.unused in (
        subst (λ n. AllByRecursion (Sits n (map (λ p. p.deque) (map place hands))) (map place hands)) (sym count)
            (subst (λ ds. AllByRecursion (Sits (length deques) ds) (map place hands)) (sym same) sit),
        pair_length owns rounds even ∙ as_many,
        pair_put owns rounds even ∙ o.put,
        pair_taken (deques_of deques) owns rounds even o.unused ∙ o.taken,
      )

  hands_deques : (hands : List (Hand J)) → map (λ p. p.deque) (map place hands) ≡ deques_of (map (λ hand. hand.own) hands)
  hands_deques [] = refl
  hands_deques (h ∷ hs) = ap (λ ds. h.own.deque ∷ ds) (hands_deques hs)

  hands_lend : (n : ℕ) (ds : List Deque) (hands : List (Hand J)) → AllByRecursion (Sits n ds) (map place hands) → AllLend n (map (λ hand. hand.own) hands)
  hands_lend n ds [] all = tt
  hands_lend n ds (h ∷ hs) all = (all.0.0, hands_lend n ds hs all.1)

  hands_ways : (n : ℕ) (ds : List Deque) (hands : List (Hand J)) → AllByRecursion (Sits n ds) (map place hands)
      → AllByRecursion (λ ways. ways_of ways ≡ ds) (map (λ hand. hand.ways) hands)
  hands_ways n ds [] all = tt
  hands_ways n ds (h ∷ hs) all = (all.0.1, hands_ways n ds hs all.1)

  -- all hands of a pool are there, and no way has come back yet
  pub settled-none : (hands : List (Hand J)) → IsPool (map place hands)
      → AreSettled (map (λ hand. hand.own) hands) (map (λ hand. hand.ways) hands) (map (λ hand. hand.own) hands) (map (λ hand. hand.ways) hands)
  settled-none hands pool =
      let owns : List (Own J) = map (λ hand. hand.own) hands in
      let rounds : List (List (Way J)) = map (λ hand. hand.ways) hands in
      let ds = map (λ p. p.deque) (map place hands) in
      let n = length (map place hands) in
      let count : n ≡ length rounds = length_map place hands ∙ sym (length_map (λ hand. hand.ways) hands) in
      record {
        ways = subst (λ (d : List Deque). AllByRecursion (λ ways. ways_of ways ≡ d) rounds) (hands_deques hands) (hands_ways n ds hands pool);
        lent = subst (λ (k : ℕ). AllLend k owns) count (hands_lend n ds hands pool);
        put = refl;
        taken = λ h. refl;
      }

  -- ways into these deques, each of which has lent one more than k
  pub fits : (k : ℕ) (owns : List (Own J)) (ways : List (Way J)) → ways_of ways ≡ deques_of owns → AllLend (suc k) owns → Fit owns ways
  unfolding first_of tail_of
  fits k [] [] same lent = tt
  fits k [] (w ∷ ws) same lent = absurd (let e = ap length same in omega arith)
  fits k (o ∷ os) [] same lent = absurd (let e = ap length same in omega arith)
  fits k (o ∷ os) (w ∷ ws) same lent =
      (ap (first_of w.deque) same, (let e = lent.0 in omega arith), fits k os ws (ap tail_of same) lent.1)

  -- the first deque, and the first way
  pub fit-first : (owns more : List (Own J)) (ways others : List (Way J)) (own : Own J) (way : Way J) → Fit owns ways → owns ≡ own ∷ more → ways ≡ way ∷ others
      → (way.deque ≡ own.deque) × (0 < own.lent) × Fit more others
  fit-first owns more ways others own way fit e f = subst (λ w. Fit (own ∷ more) w) f (subst (λ o. Fit o ways) e fit)

  -- there is a way where there is a deque
  pub fit-none : (owns more : List (Own J)) (ways : List (Way J)) (own : Own J) → Fit owns ways → owns ≡ own ∷ more → ways ≡ [] → ⊥
  fit-none owns more ways own fit e f = subst (λ w. Fit (own ∷ more) w) f (subst (λ o. Fit o ways) e fit)

  -- a way more has come back
  pub closed-more : (done : List (Own J)) (now : Own J) (all owns more : List (Own J)) (ways others : List (Way J)) (own : Own J) (way : Way J)
      → done ++ closed owns ways ≡ all → owns ≡ own ∷ more → ways ≡ way ∷ others → now ≡ with_way own way → (done ++ now ∷ []) ++ closed more others ≡ all
  closed-more done now all owns more ways others own way e f g m =
      append_assoc done (now ∷ []) (closed more others) ∙ ap (λ x. done ++ x ∷ closed more others) m
      ∙ ap (λ l. done ++ closed l (way ∷ others)) (sym f) ∙ ap (λ l. done ++ closed owns l) (sym g) ∙ e

  pub closed-end : (done all owns : List (Own J)) (ways : List (Way J)) → done ++ closed owns ways ≡ all → owns ≡ [] → done ≡ all
  closed-end done all owns ways e f = sym (append-nil done) ∙ ap (λ l. done ++ closed l ways) (sym f) ∙ e

  close_deques : (owns : List (Own J)) (ways : List (Way J)) → Fit owns ways → deques_of (closed owns ways) ≡ deques_of owns
  close_deques [] ways fit = refl
  close_deques (o ∷ os) [] fit = absurd fit
  close_deques (o ∷ os) (w ∷ ws) fit = ap (λ ds. o.deque ∷ ds) (close_deques os ws fit.2)

  close_lent : (k : ℕ) (owns : List (Own J)) (ways : List (Way J)) → Fit owns ways → AllLend (suc k) owns → AllLend k (closed owns ways)
  close_lent k [] ways fit lent = tt
  close_lent k (o ∷ os) [] fit lent = absurd fit
  close_lent k (o ∷ os) (w ∷ ws) fit lent = ((let e = lent.0 in omega arith), close_lent k os ws fit.2 lent.1)

  close_put : (owns : List (Own J)) (ways : List (Way J)) → Fit owns ways → all_own_put (closed owns ways) ≡ all_own_put owns
  close_put [] ways fit = refl
  close_put (o ∷ os) [] fit = absurd fit
  close_put (o ∷ os) (w ∷ ws) fit = ap (λ l. o.put ++ l) (close_put os ws fit.2)

  close_taken : (h : J → ℕ) (owns : List (Own J)) (ways : List (Way J)) → Fit owns ways
      → weigh h (all_own_taken (closed owns ways)) ≡ weigh h (all_own_taken owns) + weigh h (stolen_by ways)
  close_taken h [] [] fit = refl
  close_taken h [] (w ∷ ws) fit = absurd fit
  close_taken h (o ∷ os) [] fit = absurd fit
  close_taken h (o ∷ os) (w ∷ ws) fit =
      let r = close_taken h os ws fit.2 in
      omega (arith, weigh-append h (o.taken ++ w.taken) (all_own_taken (closed os ws)), weigh-append h o.taken w.taken, weigh-append h o.taken (all_own_taken os), weigh-append h w.taken (stolen_by ws))

  -- a worker's ways come back
  pub settled-fit : (before : List (Own J)) (rounds : List (List (Way J))) (owns : List (Own J)) (out rest : List (List (Way J))) (ways : List (Way J))
      → AreSettled before rounds owns out → out ≡ ways ∷ rest → Fit owns ways
  settled-fit before rounds owns out rest ways s e = (let t = subst (λ o. AreSettled before rounds owns o) e s in fits (length rest) owns ways t.ways.0 t.lent)

  settled_now : (before : List (Own J)) (rounds : List (List (Way J))) (owns : List (Own J)) (rest : List (List (Way J))) (ways : List (Way J))
      → AreSettled before rounds owns (ways ∷ rest) → AreSettled before rounds (closed owns ways) rest
  settled_now before rounds owns rest ways s =
      let fit = fits (length rest) owns ways s.ways.0 s.lent in
      record {
        ways = subst (λ (d : List Deque). AllByRecursion (λ w. ways_of w ≡ d) rest) (sym (close_deques owns ways fit)) s.ways.1;
        lent = close_lent (length rest) owns ways fit s.lent;
        put = close_put owns ways fit ∙ s.put;
        taken = λ h. (let e = s.taken h in let c = close_taken h owns ways fit in omega (arith, weigh-append h (stolen_by ways) (all_stolen rest)));
      }

  pub settled-more : (before : List (Own J)) (rounds : List (List (Way J))) (owns now : List (Own J)) (out rest : List (List (Way J))) (ways : List (Way J))
      → AreSettled before rounds owns out → out ≡ ways ∷ rest → now ≡ closed owns ways → AreSettled before rounds now rest
  settled-more before rounds owns now out rest ways s e f =
      subst (λ o. AreSettled before rounds o rest) (sym f) (settled_now before rounds owns rest ways (subst (λ o. AreSettled before rounds owns o) e s))

  pub settled-end : (before : List (Own J)) (rounds : List (List (Way J))) (owns : List (Own J)) (out : List (List (Way J)))
      → AreSettled before rounds owns out → out ≡ [] → AreSettled before rounds owns []
  settled-end before rounds owns out s e = subst (λ o. AreSettled before rounds owns o) e s

  -- what is left of one deque more
  pub drained-more : (owns : List (Own J)) (own : Own J) (left now : List J)
      → (AllLend 0 owns → (h : J → ℕ) → weigh h (all_own_put owns) ≡ weigh h (all_own_taken owns) + weigh h left)
      → (own.lent ≡ 0 → (h : J → ℕ) → weigh h own.taken + weigh h now ≡ weigh h own.put + weigh h left)
      → AllLend 0 (owns ++ own ∷ []) → (h : J → ℕ) → weigh h (all_own_put (owns ++ own ∷ [])) ≡ weigh h (all_own_taken (owns ++ own ∷ [])) + weigh h now
  drained-more owns own left now before one lent h =
      let l = all_pop (λ o. o.lent ≡ 0) owns own lent in
      let e = before l.0 h in
      let f = one l.1 h in
      let p = ap (weigh h) (put_push owns own) in
      let t = ap (weigh h) (taken_push owns own) in
      omega (arith, weigh-append h (all_own_put owns) own.put, weigh-append h (all_own_taken owns) own.taken)

  hands_put : (hands : List (Hand J)) → all_own_put (map (λ hand. hand.own) hands) ≡ all_put hands
  hands_put [] = refl
  hands_put (h ∷ hs) = ap (λ l. h.own.put ++ l) (hands_put hs)

  hands_taken : (h : J → ℕ) (hands : List (Hand J))
      → weigh h (all_taken hands) ≡ weigh h (all_own_taken (map (λ hand. hand.own) hands)) + weigh h (all_stolen (map (λ hand. hand.ways) hands))
  hands_taken h [] = refl
  hands_taken h (x ∷ xs) =
      let r = hands_taken h xs in
      omega (arith, weigh-append h (x.own.taken ++ stolen_by x.ways) (all_taken xs), weigh-append h x.own.taken (stolen_by x.ways), weigh-append h x.own.taken (all_own_taken (map (λ hand. hand.own) xs)), weigh-append h (stolen_by x.ways) (all_stolen (map (λ hand. hand.ways) xs)))

  -- what is left of all deques is what is left of all hands
  pub settled-left : (hands : List (Hand J)) (owns : List (Own J)) (left : List J)
      → AreSettled (map (λ hand. hand.own) hands) (map (λ hand. hand.ways) hands) owns []
      → (AllLend 0 owns → (h : J → ℕ) → weigh h (all_own_put owns) ≡ weigh h (all_own_taken owns) + weigh h left)
      → (h : J → ℕ) → weigh h (all_put hands) ≡ weigh h (all_taken hands) + weigh h left
  settled-left hands owns left s drained h =
      let e = drained s.lent h in
      let p = ap (weigh h) (s.put ∙ hands_put hands) in
      let t = s.taken h in
      let a = hands_taken h hands in
      omega arith

  pub settled-from : (hands : List (Hand J)) (owns : List (Own J)) (rounds : List (List (Way J))) → owns ≡ map (λ hand. hand.own) hands → rounds ≡ map (λ hand. hand.ways) hands
      → IsPool (map place hands) → AreSettled owns rounds owns rounds
  settled-from hands owns rounds e f pool =
      subst (λ o. AreSettled o rounds o rounds) (sym e) (subst (λ r. AreSettled (map (λ hand. hand.own) hands) r (map (λ hand. hand.own) hands) r) (sym f) (settled-none hands pool))

  pub settled-ok : {A E : Type 0} (r : Result A E) (items : A → List J) (hands : List (Hand J)) (first owns : List (Own J)) (rounds : List (List (Way J)))
      → first ≡ map (λ hand. hand.own) hands → rounds ≡ map (λ hand. hand.ways) hands → AreSettled first rounds owns []
      → IfOk r (λ a. AllLend 0 owns → (h : J → ℕ) → weigh h (all_own_put owns) ≡ weigh h (all_own_taken owns) + weigh h (items a))
      → IfOk r (λ a. (h : J → ℕ) → weigh h (all_put hands) ≡ weigh h (all_taken hands) + weigh h (items a))
  settled-ok (Ok a) items hands first owns rounds e f s drained =
      settled-left hands owns (items a) (subst (λ o. AreSettled o (map (λ hand. hand.ways) hands) owns []) e (subst (λ r. AreSettled first r owns []) f s)) drained
  settled-ok (Err fault) items hands first owns rounds e f s drained = tt
