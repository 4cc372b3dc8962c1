-- What a worker has stolen, event by event.
use Rattle.std.proofs.Common.{◌≡◌, ℕ, true, List, [], ◌∷◌, ◌++◌, map, ap, ◌∙◌, subst, sym, append_assoc, append-nil}
use Rattle.std.specs.Prelude.{Option, Some, Result, Ok, Err, IfOk, IfSome}
use Rattle.std.specs.List.{AllByRecursion}
use Rattle.std.proofs.lemmas.List.{map-append}
use Rattle.tm_rules.specs.Types.{Made, Request, Start}
use Rattle.tm_rules.specs.Prelude.{Trace, is_request}
use Rattle.tm_replay.specs.Tomoyo.{tomoyo_grammar}
use Rattle.tm_legal.proofs.Histories.{All-push}
use Rattle.tm_replay.specs.SeatSeats.{Begins}
use Rattle.tm_steal_rows.specs.declared.played.Played.{Played}
use Rattle.tm_steal_rows.specs.declared.played.PlayedProcess.{PlayedProcess}
use Rattle.tm_steal_rows.specs.declared.played.PlayedTake.{PlayedTake}
use Rattle.tm_steal_rows.specs.Playing.{Event, IsStealing, StealsOn, events_of, IsTakeOf, IsOfProcess}
use Rattle.tm_steal_rows.proofs.Stealing.{events-more}
use Rattle.tm_steal.specs.Boards.{GoesOn, GoesOnWith}

-- what holds of what was found
pub found-so : {A : Type 0} (P : A → Type 0) (found : Option A) (x : A) → found ≡ Some x → IfSome found P → P x
found-so P found x is h = subst (λ o. IfSome o P) is h

-- what holds holds for each hand
pub for-each : {H : Type 0} (P : Type 0) (hands : List H) → P → AllByRecursion (λ (hand : H). P) hands
for-each P [] h = tt
for-each P (hand ∷ hands) h = (h, for-each P hands h)

module _ (start : Start) (trace : Trace) where
  -- nothing more
  pub goes-none : (at : List Made) (own : List ℕ) (all : List Played) → GoesOn start trace at own all at own all
  goes-none at own all = record { steals = λ shift h. h; whose = λ h. h }

  -- one after another
  pub goes-then : (start' : Start) (at at' at'' : List Made) (own own' own'' : List ℕ) (all all' all'' : List Played) → start' ≡ start → GoesOn start trace at own all at' own' all' → GoesOn start' trace at' own' all' at'' own'' all'' → GoesOn start trace at own all at'' own'' all''
  goes-then start' at at' at'' own own' own'' all all' all'' same first next =
      let then : GoesOn start trace at' own' all' at'' own'' all'' = subst (λ (s : Start). GoesOn s trace at' own' all' at'' own'' all'') same next in
      record { steals = λ shift h. then.steals shift (first.steals shift h); whose = λ h. then.whose (first.whose h) }

  -- Ends that stand behind the others
  pub goes-ended : (start' : Start) (at at' : List Made) (own own' : List ℕ) (all all' : List Played) (more : List Event) → start' ≡ start → StealsOn start' trace at own at' own' more → events_of all' ≡ events_of all ++ more → (AllByRecursion IsOfProcess all → AllByRecursion IsOfProcess all') → GoesOn start trace at own all at' own' all'
  goes-ended start' at at' own own' all all' more same steals is whose =
      let steals-here : StealsOn start trace at own at' own' more = subst (λ (s : Start). StealsOn s trace at own at' own' more) same steals in
      record { steals = λ shift h. subst (IsStealing start trace shift at' own') (sym is) (steals-here shift (events_of all) h); whose = whose }

  -- nothing more of a process
  pub with-none : (pid : ℕ) (at : List Made) (own : List ℕ) (takes : List PlayedTake) → GoesOnWith start trace pid at own takes at own takes
  with-none pid at own takes = record { steals = λ shift all h. h; whose = λ h. h }

  -- one line after another
  pub with-then : (start' : Start) (pid pid' : ℕ) (at at' at'' : List Made) (own own' own'' : List ℕ) (takes takes' takes'' : List PlayedTake) → start' ≡ start → pid' ≡ pid → GoesOnWith start trace pid at own takes at' own' takes' → GoesOnWith start' trace pid' at' own' takes' at'' own'' takes'' → GoesOnWith start trace pid at own takes at'' own'' takes''
  with-then start' pid pid' at at' at'' own own' own'' takes takes' takes'' same its first next =
      let then : GoesOnWith start trace pid at' own' takes' at'' own'' takes'' = subst (λ (s : Start). GoesOnWith s trace pid at' own' takes' at'' own'' takes'') same (subst (λ n. GoesOnWith start' trace n at' own' takes' at'' own'' takes'') its next) in
      record { steals = λ shift all h. then.steals shift all (first.steals shift all h); whose = λ h. then.whose (first.whose h) }

  -- a take more
  pub with-more : (pid : ℕ) (at at' : List Made) (own own' : List ℕ) (takes takes' : List PlayedTake) (one : PlayedTake) → StealsOn start trace at own at' own' (Event.Take one ∷ []) → takes' ≡ takes ++ one ∷ [] → one.stood.process.pid ≡ pid → GoesOnWith start trace pid at own takes at' own' takes'
  with-more pid at at' own own' takes takes' one steals is its =
      record {
        steals = λ shift all h.
            let together : all ++ map Event.Take takes' ≡ (all ++ map Event.Take takes) ++ Event.Take one ∷ [] =
            ap (λ (l : List PlayedTake). all ++ map Event.Take l) is
            ∙ ap (λ (l : List Event). all ++ l) (map-append Event.Take takes (one ∷ []))
            ∙ sym (append_assoc all (map Event.Take takes) (Event.Take one ∷ [])) in
            subst (IsStealing start trace shift at' own') (sym together) (steals shift (all ++ map Event.Take takes) h);
        whose = λ h. rw is (All-push (IsTakeOf pid) takes one h its);
      }

  -- a process, from its first line to its last
  pub goes-process : (at at' : List Made) (own own' : List ℕ) (all all' : List Played) (process : PlayedProcess) → all' ≡ all ++ Played.Process process ∷ [] → GoesOnWith start trace process.pid at own [] at' own' process.takes.items → GoesOn start trace at own all at' own' all'
  goes-process at at' own own' all all' process is h =
      record {
        steals = λ shift before.
            subst (IsStealing start trace shift at' own') (sym (ap events_of is ∙ events-more all (Played.Process process)))
            (h.steals shift (events_of all) (subst (IsStealing start trace shift at own) (sym (append-nil (events_of all))) before));
        whose = λ before. rw is (All-push IsOfProcess all (Played.Process process) before (h.whose tt));
      }

-- a request that can be asked can be asked of its copy
pub asked-copied : {E : Type 0} (copy : Result Request E) (request : Request) → is_request tomoyo_grammar.is_path request ≡ true → IfOk copy (λ found. found ≡ request) → IfOk copy (λ found. is_request tomoyo_grammar.is_path found ≡ true)
asked-copied (Ok found) request asked same = ap (is_request tomoyo_grammar.is_path) same ∙ asked
asked-copied (Err fault) request asked same = tt

-- a list begins itself
pub begins-same : (list : List Made) → Begins list list
begins-same list = ([], sym (append-nil list))
