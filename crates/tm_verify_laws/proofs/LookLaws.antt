-- The tests of looks are their relations.
use Rattle.std.proofs.Common.{◌≡◌, ◌<◌, ℕ, suc, ◌+◌, nat_lt, Bool, true, false, ◌&&◌, not, List, [], ◌∷◌, Option, Some, None, refl, sym, ap, ◌∙◌, arith, eq-eqb, eqb-true}
use Rattle.std.specs.Prelude.{◌↔◌}
use Rattle.std.specs.List.{AllByRecursion, list_all}
use Rattle.std.proofs.lemmas.Bool.{ltb-true, lt-ltb}
use Rattle.tm_rules.specs.Types.{Heard, Look, Reason}
use Rattle.tm_legal.specs.Prelude.{AfterAnswer, AsksWith, History, LooksFollow, RisesFrom, is_retry, retry_written}
use Rattle.tm_verify_laws.specs.Looks.{rises_from, is_after_answer, asks_so, goes_on, do_follow}
use Rattle.tm_verify_laws.proofs.Splits.{not_false, not_true}

both : (a b : Bool) → (a && b) ≡ true → (a ≡ true) × (b ≡ true)
both true b e = (refl, e)
both false b e = absurd cc

all : (a b : Bool) → a ≡ true → b ≡ true → (a && b) ≡ true
all a b h k = rw (h, k) refl

rises : (low : ℕ) (own : List ℕ) → rises_from low own ≡ true → RisesFrom low own
rises low [] h = tt
rises low (n ∷ ns) h = let p = both (nat_lt low n) _ h in (ltb-true low n p.0, rises n ns p.1)

risen : (low : ℕ) (own : List ℕ) → RisesFrom low own → rises_from low own ≡ true
risen low [] h = refl
risen low (n ∷ ns) h = all (nat_lt low n) _ (lt-ltb low n h.0) (risen n ns h.1)

above : (v : ℕ) (ns : List ℕ) → list_all (λ n. nat_lt v n) ns ≡ true → AllByRecursion (λ n. v < n) ns
above v [] h = tt
above v (n ∷ ns) h = let p = both (nat_lt v n) _ h in (ltb-true v n p.0, above v ns p.1)

are_above : (v : ℕ) (ns : List ℕ) → AllByRecursion (λ n. v < n) ns → list_all (λ n. nat_lt v n) ns ≡ true
are_above v [] h = refl
are_above v (n ∷ ns) h = all (nat_lt v n) _ (lt-ltb v n h.0) (are_above v ns h.1)

answer_after : (reason : Reason) (heard : Option Heard) (own : List ℕ) → (is_after_answer reason heard own ≡ true) ↔ AfterAnswer reason heard own
answer_after Reason.Ask (Some heard) (ask ∷ make) = (above heard.version make, are_above heard.version make)
answer_after Reason.Ask (Some heard) [] = (λ h. tt, λ h. refl)
answer_after Reason.Ask None own = (λ h. tt, λ h. refl)
answer_after (Reason.Entry place) heard own = (λ h. tt, λ h. refl)
answer_after Reason.Disabled heard own = (λ h. tt, λ h. refl)
answer_after Reason.Permissive heard own = (λ h. tt, λ h. refl)
answer_after Reason.Quota heard own = (λ h. tt, λ h. refl)
answer_after Reason.Learn heard own = (λ h. tt, λ h. refl)
answer_after Reason.NoEntry heard own = (λ h. tt, λ h. refl)
answer_after Reason.NotReady heard own = (λ h. tt, λ h. refl)
answer_after Reason.NoManual heard own = (λ h. tt, λ h. refl)

pub own_order : ((low : ℕ) (own : List ℕ) → (rises_from low own ≡ true) ↔ RisesFrom low own) × ((reason : Reason) (heard : Option Heard) (own : List ℕ) → (is_after_answer reason heard own ≡ true) ↔ AfterAnswer reason heard own)
own_order = (λ low own. (rises low own, risen low own), answer_after)

-- a look with its reason in the open
asks_at : (history : History) (retry : ℕ) (look : Look) (reason : Reason) → look.reason ≡ reason → (asks_so look.reason (retry_written history look) retry ≡ true) ↔ AsksWith history retry look
asks_at history retry look Reason.Ask e = (λ h. rw e (eqb-true (retry_written history look) retry (rw e at h)), λ h. rw e (eq-eqb (retry_written history look) retry (rw e at h)))
asks_at history retry look (Reason.Entry place) e = (λ h. rw e tt, λ h. rw e refl)
asks_at history retry look Reason.Disabled e = (λ h. rw e tt, λ h. rw e refl)
asks_at history retry look Reason.Permissive e = (λ h. rw e tt, λ h. rw e refl)
asks_at history retry look Reason.Quota e = (λ h. rw e tt, λ h. rw e refl)
asks_at history retry look Reason.Learn e = (λ h. rw e tt, λ h. rw e refl)
asks_at history retry look Reason.NoEntry e = (λ h. rw e tt, λ h. rw e refl)
asks_at history retry look Reason.NotReady e = (λ h. rw e tt, λ h. rw e refl)
asks_at history retry look Reason.NoManual e = (λ h. rw e tt, λ h. rw e refl)

follows : (history : History) (retry : ℕ) (looks : List Look) → do_follow history retry looks ≡ true → LooksFollow history retry looks
follows history retry [] h = tt
follows history retry (look ∷ []) h =
    let p = both (asks_so look.reason (retry_written history look) retry) _ (both (asks_so look.reason (retry_written history look) retry && not (is_retry look.heard)) true h).0 in
    ((asks_at history retry look look.reason refl).0 p.0, not_false (is_retry look.heard) p.1)
follows history retry (look ∷ next ∷ looks) h =
    let q = both (asks_so look.reason (retry_written history look) retry && is_retry look.heard) _ h in
    let p = both (asks_so look.reason (retry_written history look) retry) _ q.0 in
    ((asks_at history retry look look.reason refl).0 p.0, p.1, follows history (suc retry) (next ∷ looks) q.1)

followed : (history : History) (retry : ℕ) (looks : List Look) → LooksFollow history retry looks → do_follow history retry looks ≡ true
followed history retry [] h = refl
followed history retry (look ∷ []) h =
    all (asks_so look.reason (retry_written history look) retry && not (is_retry look.heard)) true
    (all (asks_so look.reason (retry_written history look) retry) _ ((asks_at history retry look look.reason refl).1 h.0) (not_true (is_retry look.heard) h.1)) refl
followed history retry (look ∷ next ∷ looks) h =
    all (asks_so look.reason (retry_written history look) retry && is_retry look.heard) _
    (all (asks_so look.reason (retry_written history look) retry) _ ((asks_at history retry look look.reason refl).1 h.0) h.1)
    (followed history (suc retry) (next ∷ looks) h.2)

pub following : (history : History) (retry : ℕ) (looks : List Look) → (do_follow history retry looks ≡ true) ↔ LooksFollow history retry looks
following history retry looks = (follows history retry looks, followed history retry looks)

-- one look more
pub next_look : (history : History) (retry next : ℕ) (rest more : List Look) (look : Look) (whole : Bool) → rest ≡ look ∷ more → goes_on history retry more look ≡ true → next ≡ retry + 1 → do_follow history retry rest ≡ whole → do_follow history next more ≡ whole
next_look history retry next rest more look whole e goes n before =
    let same : next ≡ suc retry = omega (arith, n) in
    let step : do_follow history retry (look ∷ more) ≡ do_follow history (suc retry) more = rw goes refl in
    ap (λ k. do_follow history k more) same ∙ sym step ∙ ap (do_follow history retry) (sym e) ∙ before
