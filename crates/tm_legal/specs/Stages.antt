-- What a request in progress has come to, by a history: its looks so far, the steps that it owes,
-- and what it waits for.
use Rattle.std.specs.Prelude.{◌≡◌, ◌≤◌, ◌⊎◌, ℕ, suc, Bool, true, false, ◌&&◌, List, [], ◌∷◌, ◌++◌, length, map, Option, Some, None, IsSome}
use Rattle.std.specs.Option.{IfSome}
use Rattle.std.specs.List.{AllByRecursion}
use Rattle.tm_word.specs.Prelude.{Text, texts_equal}
use Rattle.tm_rules.specs.Prelude.{DomainName, Grammar, Standing, audit_text, domain_at, is_domain_name, namespace_word, numbered, profile_of}
use Rattle.tm_rules.specs.Types.{Domain, Entry, Held, Look, Move, Policy, Profile, Reason, Reply, Step, Verdict}
use Rattle.tm_legal.specs.Steps.{State, fits_entry}
use Rattle.tm_legal.specs.Run.{History, Situation, Situations, step_at, reply_at, seen, raised}
use Rattle.tm_legal.specs.Legal.{Scene, Subject, state_at, verdict_at, IsShown, RisesFrom, MakesAfterYes, steps_asked, look_grants, last_number, made_number, LookHears, AsksWith, is_retry}
use Rattle.tm_legal.specs.Cases.{LookDone}
use Rattle.tm_legal.specs.Play.{InProgress, Stage, entered}

-- Domains and steps

-- a domain is there, with its profile
pub record DomainIn (p : Policy) (d : ℕ) : Type 0 where
  pub domain : Domain
  pub there : domain_at p d ≡ Some domain
  pub profile : Profile
  pub profiled : profile_of p domain ≡ Some profile

-- such a step fits: its domain is there, a line can be learned, a name can be made
abbrev pub Ready : Grammar → Policy → Step → Type 0
Ready g p (Step.Learn d entry) = (fits_entry g entry ≡ true) × DomainIn p d
Ready g p (Step.Make d name) =
    (h : DomainIn p d)
    × ((is_domain_name g.is_path name && texts_equal (namespace_word name) (namespace_word h.domain.name)) ≡ true)
Ready g p (Step.Fail d) = DomainIn p d
Ready g p step = ⊥

-- Verdicts

-- any reason but `ask`
abbrev pub NotAsk : Reason → Type 0
NotAsk Reason.Ask = ⊥
NotAsk _ = Unit {0}

-- a line to be learned can be learned, and one to be asked for is there
abbrev pub LineFits : Grammar → Reason → Option Entry → Type 0
LineFits g Reason.Learn line = IfSome line (λ entry. fits_entry g entry ≡ true)
LineFits g Reason.Ask line = IsSome line
LineFits g reason line = Unit {0}

-- a move enters a domain that is there, or makes one that can be made
abbrev pub MoveFits : Grammar → Policy → ℕ → Move → Option DomainName → Type 0
MoveFits g p d (Move.Enter n) target = DomainIn p n
MoveFits g p d Move.Make target =
    (name : DomainName) × (target ≡ Some name) × Ready g p (Step.Make d name)
MoveFits g p d move target = Unit {0}

-- Looks

-- a look shows its verdict, and its own steps so far are the first of those that are asked; the
-- rest is still to be made
pub record Looked (scene : Scene) (history : History) (s : Subject) (retry : ℕ) (look : Look) (v : Verdict)
    (rest : List Step) (audit : Option Text) : Type 0 where
  pub judged : verdict_at scene history s look.version ≡ Some v
  pub shown : IsShown v look
  pub version : look.version ≤ length history
  pub rising : RisesFrom look.version look.own
  pub bounds : AllByRecursion (λ n. n ≤ length history) look.own
  pub heard_at : IfSome look.heard (λ heard. heard.version ≤ length history)
  pub after_yes : MakesAfterYes look
  pub steps : map (step_at history) look.own ++ map Some rest
      ≡ map Some (steps_asked scene.grammar s.domain retry v (look_grants look))
  pub audited : audit
      ≡ audit_text scene.grammar
      (state_at scene history look.version).policy s.domain s.process s.request v

-- these looks rise from a floor, and lift it as high as this
abbrev pub RisesTo : History → ℕ → List Look → ℕ → Type 0
RisesTo history floor [] low = floor ≡ low
RisesTo history floor (look ∷ looks) low =
    (floor ≤ look.version) × (look.version ≤ length history)
    × RisesTo history (raised floor (seen look)) looks low

-- these looks were followed by another each, and the next has this retry number
abbrev pub FollowsTo : History → ℕ → List Look → ℕ → Type 0
FollowsTo history k [] retry = k ≡ retry
FollowsTo history k (look ∷ looks) retry =
    AsksWith history k look × (is_retry look.heard ≡ true) × FollowsTo history (suc k) looks retry

-- Where a look leads

-- a domain is made
abbrev pub is_make : Step → Bool
is_make (Step.Make d name) = true
is_make _ = false

-- steps without a Make
abbrev pub NoMake : List Step → Type 0
NoMake steps = AllByRecursion (λ step. is_make step ≡ false) steps

-- steps with a Make at their end, and nowhere else
abbrev pub EndsMake : List Step → Type 0
EndsMake [] = ⊥
EndsMake (step ∷ []) = is_make step ≡ true
EndsMake (step ∷ next ∷ rest) = (is_make step ≡ false) × EndsMake (next ∷ rest)

-- while steps are owed: the domain that is entered; the Make that is still to come, or what its
-- reply named; none
abbrev pub Leads : History → Policy → Move → List ℕ → Option ℕ → List Step → Type 0
Leads history p (Move.Enter n) own led rest = NoMake rest × (led ≡ Some n) × DomainIn p n
Leads history p Move.Make own led rest =
    EndsMake rest
    ⊎ ((rest ≡ []) × (n : ℕ) × (led ≡ Some n)
    × (made_number (reply_at history (last_number own)) ≡ Some n) × DomainIn p n)
Leads history p move own led rest = NoMake rest × (led ≡ None)

-- What the request waits for

-- who asks, in which domain
abbrev pub subject_now : InProgress → Subject
subject_now b = record { domain = b.before; process = b.now.process; request = b.request }

-- the looks before, the look that it is at, and where its verdict can lead
pub record Begins (scene : Scene) (history : History) (p : Policy) (b : InProgress) (rest : List Step) : Type 0 where
  pub looked : Looked scene history (subject_now b) b.retry b.look b.verdict rest b.audit
  pub line : LineFits scene.grammar b.verdict.reason b.verdict.line
  pub moves : MoveFits scene.grammar p b.before b.verdict.step b.verdict.target
  pub done : AllByRecursion (LookDone scene history (subject_now b)) b.looked
  pub follow : FollowsTo history 0 b.looked b.retry

-- all was heard, and this is owed
pub record Settles (scene : Scene) (history : History) (p : Policy) (b : InProgress) (rest : List Step) : Type 0 where
  pub heard : LookHears scene history b.look
  pub last : is_retry b.look.heard ≡ false
  pub ready : AllByRecursion (Ready scene.grammar p) rest
  pub leads : look_grants b.look ≡ true → Leads history p b.look.step b.look.own b.after rest

-- somebody is to be asked
pub record ToAsk (scene : Scene) (b : InProgress) (rest : List Step) : Type 0 where
  pub ask : b.look.reason ≡ Reason.Ask
  pub none : b.look.own ≡ []
  pub unheard : b.look.heard ≡ None
  pub text : Text
  pub is : rest ≡ Step.Ask b.before b.retry text ∷ []
  pub led : b.after ≡ entered scene.grammar b.look.step

-- somebody was asked
pub record Waits (scene : Scene) (history : History) (queries : List Standing) (b : InProgress)
    (serial : ℕ) : Type 0 where
  pub ask : b.look.reason ≡ Reason.Ask
  pub number : ℕ
  pub own : b.look.own ≡ number ∷ []
  pub unheard : b.look.heard ≡ None
  pub replied : reply_at history number ≡ Some (Reply.Ask (Held.Serial serial))
  pub led : b.after ≡ entered scene.grammar b.look.step
  pub standing : Standing
  pub there : numbered queries serial ≡ Some standing
  pub same_retry : standing.query.retry ≡ b.retry

-- by what the take waits for
abbrev pub StageHolds : Scene → History → State → InProgress → Stage → Type 0
StageHolds scene history state b (Stage.Owing rest) =
    Begins scene history state.policy b rest
    × (Settles scene history state.policy b rest ⊎ ToAsk scene b rest)
StageHolds scene history state b (Stage.Waiting serial) =
    Begins scene history state.policy b [] × Waits scene history state.queries.all b serial
StageHolds scene history state b Stage.Looking =
    Begins scene history state.policy b [] × LookHears scene history b.look
    × (is_retry b.look.heard ≡ true)

-- Processes

-- the walk and the play have the same process in the same domain, which is there; the walk's floor
-- is no newer than the history
pub record Agrees (p : Policy) (n : ℕ) (pid : ℕ) (walked played : Situation) : Type 0 where
  pub process : walked.process ≡ played.process
  pub domain : walked.domain ≡ played.domain
  pub floor : walked.floor ≤ n
  pub pid_is : played.process.pid ≡ pid
  pub number : ℕ
  pub numbered : played.domain ≡ Some number
  pub there : DomainIn p number

-- of every process
abbrev pub AllAgree : Policy → ℕ → Situations → Situations → Type 0
AllAgree p n walked played = (pid : ℕ) → Agrees p n pid (walked pid) (played pid)
