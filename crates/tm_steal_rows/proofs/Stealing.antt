-- What a worker has played that takes processes from others: at its beginning, when others' steps
-- follow, and when it plays something more.
use Rattle.std.proofs.Common.{◌≡◌, ◌≤◌, ◌<◌, ◌+◌, ℕ, suc, List, [], ◌∷◌, ◌++◌, length, map, take, refl, sym, ap, ◌∙◌, subst, arith, append_assoc, append-nil}
use Rattle.std.specs.Prelude.{Option, Some, IsSome, IfSome, flat_map}
use Rattle.std.specs.List.{AllByRecursion}
use Rattle.std.proofs.lemmas.Bool.{lt-ltb, le-leb}
use Rattle.std.proofs.lemmas.Grind.{flat_map-append}
use Rattle.std.proofs.lemmas.List.{map-append, length-append, length-take-le}
use Rattle.tm_rules.specs.Types.{Look, Made, Maker, Reply, Request, Start, Step, Take}
use Rattle.tm_rules.specs.Prelude.{Trace}
use Rattle.tm_take.specs.Tomoyo.{tomoyo_grammar}
use Rattle.tm_legal.specs.Prelude.{History, IsLegalTake, apply, opening, own_numbers}
use Rattle.tm_legal.proofs.Histories.{All-push}
use Rattle.tm_legal.proofs.Walks.{All-map, IsLegalTake-later}
use Rattle.tm_made.specs.Made.{history_made, steps_made, made_step}
use Rattle.tm_made.proofs.Telling.{made-append, more_made}
use Rattle.tm_made.proofs.Fits.{steps-last}
use Rattle.tm_joint.specs.Makers.{Claims}
use Rattle.tm_joint.proofs.Later.{claims-later, claims-push, made_step-later, made_step-last}
use Rattle.tm_joint.proofs.Rows.{All-left, All-right}
use Rattle.tm_take.specs.declared.situations.ProcessSituation.{ProcessSituation}
use Rattle.tm_take.specs.Situations.{situation_of}
use Rattle.tm_seat.specs.Seats.{scene_of, state_of, Begins, IsMade, MadeBy}
use Rattle.tm_seat.specs.Playing.{TakeIsLegal, HasEnded}
use Rattle.tm_seat.specs.Rows.{Shift}
use Rattle.tm_seat.proofs.Opening.{begins-further}
use Rattle.tm_seat.proofs.Rising.{looks-since-lower, legal-sees, made-within, within-later, begun-within, within-push, rises-push, rises-lower}
use Rattle.tm_seat.specs.Parts.{Deed, deed}
use Rattle.tm_seat.proofs.Moving.{claimed-later, deed_at}
use Rattle.tm_steal_rows.specs.declared.played.Played.{Played}
use Rattle.tm_steal_rows.specs.declared.played.PlayedTake.{PlayedTake}
use Rattle.tm_steal_rows.specs.declared.records.RecordPlace.{RecordPlace}
use Rattle.tm_steal_rows.specs.Records.{request_at}
use Rattle.tm_steal_rows.specs.Playing.{Event, IsPlayed, own_of, all_own, maker_of, IsSince, event_seen, IsStealing, StealsOn, ends_from, events_in, events_of, IsOfProcess, ThiefDid}

-- What was played

-- the events of one more
pub events-more : (all : List Played) (played : Played) → events_of (all ++ played ∷ []) ≡ events_of all ++ events_in played
events-more all played = flat_map-append events_in all (played ∷ []) ∙ ap (λ (l : List Event). events_of all ++ l) (append-nil (events_in played))

-- What was played stays so

legal-later : (start : Start) (known xs ys : List Made) (played : PlayedTake) (request : Request) → TakeIsLegal start known xs (situation_of played.stood) request played.take → TakeIsLegal start known (xs ++ ys) (situation_of played.stood) request played.take
legal-later start known xs ys played request h trace book t walked trees process domain low =
    subst (λ (k : History). IsLegalTake (scene_of start trace book) k (record { tree = t; now = walked; request = request; taken = played.take })) (sym (made-append (scene_of start trace book) xs ys))
    (IsLegalTake-later (scene_of start trace book) (history_made (scene_of start trace book) xs) (more_made (scene_of start trace book) xs ys) (record { tree = t; now = walked; request = request; taken = played.take }) (h trace book t walked trees process domain low))

played-later : (start : Start) (trace : Trace) (xs ys : List Made) (played : Event) → IsPlayed start trace xs played → IsPlayed start trace (xs ++ ys) played
played-later start trace xs ys (Event.Take played) h =
    record {
      request = h.request;
      asked = h.asked;
      known = h.known;
      since = h.since;
      legal = legal-later start h.known xs ys played h.request h.legal;
      pid = h.pid;
    }
played-later start trace xs ys (Event.End tree number) h = made_step-later xs ys number (Step.End tree) h

pub all-later : (start : Start) (trace : Trace) (xs ys : List Made) (all : List Event) → Begins xs ys → AllByRecursion (IsPlayed start trace xs) all → AllByRecursion (IsPlayed start trace ys) all
all-later start trace xs ys all begins h =
    rw begins.1 (All-map (IsPlayed start trace xs) (IsPlayed start trace (xs ++ begins.0)) all (played-later start trace xs begins.0) h)

-- what is no older than a version is no older than one before it
pub since-lower : (low high : ℕ) (event : Event) → low ≤ high → IsSince high event → IsSince low event
since-lower low high (Event.Take played) le h = looks-since-lower low high played.take le h
since-lower low high (Event.End tree number) le h = tt

-- all that it has seen is of the list
event-sees : (start : Start) (trace : Trace) (list : List Made) (event : Event) → IsPlayed start trace list event → AllByRecursion (λ version. version ≤ length list) (event_seen event)
event-sees start trace list (Event.Take played) h = legal-sees start h.known list (situation_of played.stood) h.request played.take h.legal
event-sees start trace list (Event.End tree number) h = (made-within list number (Step.End tree) h, tt)

-- A worker

-- at its beginning
pub stealing-starts : (start : Start) (trace : Trace) (list : List Made) (own : List ℕ) → IsStealing start trace (record { known = list; before = own }) list own []
stealing-starts start trace list own =
    record {
      begins = ([], sym (append-nil list));
      each = tt;
      made = sym (append-nil own);
      makers = λ who i all claims. claims;
      seen = tt;
      rises = tt;
    }

-- when others' steps follow
pub stealing-later : (start : Start) (trace : Trace) (shift : Shift) (xs ys : List Made) (own : List ℕ) (all : List Event) → Begins xs ys → IsStealing start trace shift xs own all → IsStealing start trace shift ys own all
stealing-later start trace shift xs ys own all begins h =
    record {
      begins = begins-further shift.known xs ys h.begins begins;
      each = all-later start trace xs ys all begins h.each;
      made = h.made;
      makers = λ who i belong claims. rw begins.1 (claims-later who i xs begins.0 own (h.makers who i belong claims));
      seen = within-later xs ys (flat_map event_seen all) begins h.seen;
      rises = h.rises;
    }

module _ (start : Start) (trace : Trace) where
  -- something more
  steals-one : (xs ys : List Made) (own own' : List ℕ) (played : Event) → Begins xs ys → IsPlayed start trace ys played → own' ≡ own ++ own_of played → MadeBy (maker_of played ∷ []) xs own ys own' → IsSince (length xs) played → StealsOn start trace xs own ys own' (played ∷ [])
  steals-one xs ys own own' played begins is noted by since shift all h =
      record {
        begins = begins-further shift.known xs ys h.begins begins;
        each = All-push (IsPlayed start trace ys) all played (all-later start trace xs ys all begins h.each) is;
        made =
            noted ∙ ap (λ (ns : List ℕ). ns ++ own_of played) h.made
            ∙ append_assoc shift.before (all_own all) (own_of played)
            ∙ ap (λ (ns : List ℕ). shift.before ++ ns) (sym (flat_map-append own_of all (played ∷ []) ∙ ap (λ (ns : List ℕ). all_own all ++ ns) (append-nil (own_of played))));
        makers = λ who i belong claims.
            let both : AllByRecursion (λ maker. who maker ≡ Some i) (map maker_of all ++ maker_of played ∷ []) = subst (λ (makers : List Maker). AllByRecursion (λ maker. who maker ≡ Some i) makers) (map-append maker_of all (played ∷ [])) belong in
            by who i (All-right (λ maker. who maker ≡ Some i) (map maker_of all) (maker_of played ∷ []) both)
            (h.makers who i (All-left (λ maker. who maker ≡ Some i) (map maker_of all) (maker_of played ∷ []) both) claims);
        seen = within-push IsSince event_seen since-lower xs ys all played begins h.seen (event-sees start trace ys played is);
        rises = rises-push IsSince event_seen since-lower (length shift.known) (length xs) all played (begun-within shift.known xs h.begins) h.seen since h.rises;
      }

  -- a take that has ended, by what was known at its first look, whose version comes with it
  abbrev pub EndedSince : Start → List Made → List Made → List ℕ → List ℕ → ℕ → ProcessSituation → Request → Take × ℕ → Type 0
  EndedSince start' xs' ys before own' domain now request ended =
      (known : List Made) × (ended.1 ≡ length known) × Begins xs' known
      × HasEnded start' (record { now = situation_of now; domain = domain; request = request; known = known; before = before }) ys own' ended.0

  pub steals-take : (start' : Start) (xs xs' ys : List Made) (own before own' : List ℕ) (place : RecordPlace) (since domain : ℕ) (now : ProcessSituation) (request : Request) (take' : Take) (found : Option (Take × ℕ)) → start' ≡ start → xs' ≡ xs → before ≡ own → Begins xs' ys → request_at trace place ≡ Some request → found ≡ Some (take', since) → IfSome found (EndedSince start' xs' ys before own' domain now request) → StealsOn start trace xs own ys own' (Event.Take (record { place = place; stood = now; since = since; take = take' }) ∷ [])
  steals-take start' xs xs' ys own before own' place since domain now request take' found same at first begins asked is ended_so =
      let (known, long, more, ended) = subst (λ (o : Option (Take × ℕ)). IfSome o (EndedSince start' xs' ys before own' domain now request)) is ended_so in
      let older : Begins xs known = subst (λ (l : List Made). Begins l known) at more in
      steals-one xs ys own own' (Event.Take (record { place = place; stood = now; since = since; take = take' }))
      (subst (λ (l : List Made). Begins l ys) at begins)
      (record {
        request = request;
        asked = asked;
        known = known;
        since = sym long;
        legal = subst (λ (s : Start). TakeIsLegal s known ys (situation_of now) request take') same ended.legal;
        pid = ended.pid;
      })
      (ended.made ∙ ap (λ (ns : List ℕ). ns ++ own_numbers (take' ∷ [])) first)
      (λ who i belong claims.
      ended.makers who i (subst (λ pid. who (Maker.Process pid) ≡ Some i) ended.pid belong.0, tt)
      (subst (λ (l : List Made). Claims who i l before) (sym older.1) (subst (λ (ns : List ℕ). Claims who i (xs ++ older.0) ns) (sym first) (claims-later who i xs older.0 own claims))))
      (looks-since-lower (length xs) (length known) take' (begun-within xs known older) ended.fresh)

  -- an End
  pub steals-end : (xs ys : List Made) (own own' : List ℕ) (tree number : ℕ) (made : Made) (reply : Reply) → made.maker ≡ Maker.Tree tree → made.step ≡ Step.End tree → IsMade start xs made ys reply → number ≡ length ys → own' ≡ own ++ number ∷ [] → StealsOn start trace xs own ys own' (Event.End tree number ∷ [])
  steals-end xs ys own own' tree number made reply maker step (others, is, replied) numbered noted =
      let last : number ≡ suc (length (xs ++ others)) = numbered ∙ ap (λ (l : List Made). length l) is ∙ length-last (xs ++ others) made in
      steals-one xs ys own own' (Event.End tree number)
      (others ++ made ∷ [], is ∙ append_assoc xs others (made ∷ []))
      (ap (λ (l : List Made). made_step l number) is ∙ ap (made_step ((xs ++ others) ++ made ∷ [])) last ∙ made_step-last (xs ++ others) made ∙ ap Some step)
      noted
      (λ who i belong claims. rw (noted, last, is) (claims-push who i xs others made own (ap who maker ∙ belong.0) claims))
      tt
    where
      length-last : (l : List Made) (m : Made) → length (l ++ m ∷ []) ≡ suc (length l)
      length-last l m = let all = length-append l (m ∷ []) in omega arith

  -- nothing
  pub steals-none : (xs : List Made) (own : List ℕ) → StealsOn start trace xs own xs own []
  steals-none xs own shift all h = subst (IsStealing start trace shift xs own) (sym (append-nil all)) h

  -- something, and then something more
  pub steals-both : (xs ys zs : List Made) (own own' own'' : List ℕ) (first second : List Event) → StealsOn start trace xs own ys own' first → StealsOn start trace ys own' zs own'' second → StealsOn start trace xs own zs own'' (first ++ second)
  steals-both xs ys zs own own' own'' first second h k shift all is =
      subst (IsStealing start trace shift zs own'') (append_assoc all first second) (k shift (all ++ first) (h shift all is))

-- an End fits, whatever steps there are
pub end-fits : (start : Start) (list : List Made) (tree : ℕ) → 0 < tree → tree ≤ start.trees → IsSome (apply tomoyo_grammar (state_of start list) (Step.End tree)).reply
unfolding apply
end-fits start list tree above inside =
    let trees : (state_of start list).trees ≡ start.trees = (steps-last tomoyo_grammar (opening start) (steps_made list)).trees in
    let within : tree ≤ (state_of start list).trees = rw trees inside in
    rw (lt-ltb 0 tree above, le-leb tree (state_of start list).trees within) refl

-- Ends, one after another

ends-append : (t : ℕ) (numbers : List ℕ) (number : ℕ) → ends_from t (numbers ++ number ∷ []) ≡ ends_from t numbers ++ Event.End (t + length numbers) number ∷ []
ends-append t [] number = ap (λ n. Event.End n number ∷ []) (omega arith)
ends-append t (first ∷ numbers) number = ap (λ (l : List Event). Event.End t first ∷ l) (ends-append (suc t) numbers number ∙ ap (λ n. ends_from (suc t) numbers ++ Event.End n number ∷ []) (omega arith))

-- so many trees have been ended
pub record Ended (start : Start) (first : List Made) (before : List ℕ) (old : List Played) (trees : ℕ) (list : List Made) (own : List ℕ) (all : List Played) : Type 0 where
  pub numbers : List ℕ
  pub count : length numbers ≡ trees
  pub are : events_of all ≡ events_of old ++ ends_from 1 numbers
  pub whose : AllByRecursion IsOfProcess old → AllByRecursion IsOfProcess all
  pub steals : (trace : Trace) → StealsOn start trace first before list own (ends_from 1 numbers)

pub ended-none : (start : Start) (list : List Made) (own : List ℕ) (all : List Played) → Ended start list own all 0 list own all
ended-none start list own all = record { numbers = []; count = refl; are = sym (append-nil (events_of all)); whose = λ h. h; steals = λ trace. steals-none start trace list own }

pub ended-more : (start start' : Start) (first xs ys : List Made) (before own own' : List ℕ) (old all new : List Played) (trees tree number : ℕ) → start' ≡ start → tree ≡ trees + 1 → new ≡ all ++ Played.End tree number ∷ [] → ((trace : Trace) → StealsOn start' trace xs own ys own' (Event.End tree number ∷ [])) → Ended start first before old trees xs own all → Ended start first before old (trees + 1) ys own' new
ended-more start start' first xs ys before own own' old all new trees tree number same is pushed steals h =
    let place : 1 + length h.numbers ≡ tree = let count = h.count in omega (arith, count, is) in
    let ends : ends_from 1 (h.numbers ++ number ∷ []) ≡ ends_from 1 h.numbers ++ Event.End tree number ∷ [] = ends-append 1 h.numbers number ∙ ap (λ n. ends_from 1 h.numbers ++ Event.End n number ∷ []) place in
    let long = length-append h.numbers (number ∷ []) in
    let count = h.count in
    record {
      numbers = h.numbers ++ number ∷ [];
      count = omega (arith, long, count);
      are =
          ap events_of pushed ∙ events-more all (Played.End tree number)
          ∙ ap (λ (l : List Event). l ++ Event.End tree number ∷ []) h.are ∙ append_assoc (events_of old) (ends_from 1 h.numbers) (Event.End tree number ∷ []) ∙ ap (λ (l : List Event). events_of old ++ l) (sym ends);
      whose = λ before_all. rw pushed (All-push IsOfProcess all (Played.End tree number) (h.whose before_all) tt);
      steals = λ trace.
          rw ends
          (steals-both start trace first xs ys before own own' (ends_from 1 h.numbers) (Event.End tree number ∷ []) (h.steals trace) (subst (λ (s : Start). StealsOn s trace xs own ys own' (Event.End tree number ∷ [])) same (steals trace)));
    }

-- a worker that had made nothing when it began, and knew the coming of the supervisor
pub thief-did : (start : Start) (trace : Trace) (shift : Shift) (floor : ℕ) (list : List Made) (own : List ℕ) (all : List Played) → shift.before ≡ [] → floor ≤ length shift.known → IsStealing start trace shift list own (events_of all) → AllByRecursion IsOfProcess all → ThiefDid start trace floor (deed list own all)
thief-did start trace shift floor list own all none low h whose =
    record {
      each = h.each;
      own_is = h.made ∙ ap (λ (ns : List ℕ). ns ++ all_own (events_of all)) none;
      claims = λ who i belong. h.makers who i belong (rw none (tt, tt));
      rises = rises-lower IsSince event_seen since-lower floor (length shift.known) (events_of all) low h.rises;
      whose = whose;
    }

-- what it has done stays so when others' steps follow
pub thief-later : (start : Start) (trace : Trace) (floor : ℕ) (done : Deed Played) (list : List Made) → Begins done.known list → ThiefDid start trace floor done → ThiefDid start trace floor (deed_at list done)
thief-later start trace floor done list begins h =
    record {
      each = all-later start trace done.known list (events_of done.rows) begins h.each;
      own_is = h.own_is;
      claims = claimed-later (map maker_of (events_of done.rows)) done.known list done.own begins h.claims;
      rises = h.rises;
      whose = h.whose;
    }
