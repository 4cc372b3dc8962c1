-- What a call that is done has stored, and what every call leaves.
use Rattle.std.proofs.Common.{◌≡◌, ◌∙◌, ℕ, ◌∷◌, [], ◌++◌, List, Bool, ◌&&◌, not, take, drop, true, false, Ok, ap, refl, sym, subst, append_assoc, arith, Result, Err, map, nat_lt, length, if◌then◌else◌}
use Rattle.std.specs.Prelude.{Option, Some, None}
use Rattle.std.specs.List.{AllByRecursion, list_all}
use Rattle.std.proofs.lemmas.Bool.{and_parts}
use Rattle.tm_rules.specs.Types.{Policy, ScriptKind}
use Rattle.tm_io.specs.declared.names.FileName.{FileName}
use Rattle.tm_io.specs.Names.{same_name}
use Rattle.tm_io.specs.Files.{FileState, Files}
use Rattle.tm_io.specs.Bytes.{then_bytes}
use Rattle.tm_call.specs.declared.status.Status.{Status}
use Rattle.tm_call.specs.declared.status.OutName.{OutName}
use Rattle.tm_call.specs.declared.carry.Outcome.{Outcome}
use Rattle.tomoyo.specs.declared.play.Played.{Played}
use Rattle.tomoyo.specs.declared.learn.RerunTexts.{RerunTexts}
use Rattle.tomoyo.specs.declared.learn.Learned.{Learned}
use Rattle.tomoyo.specs.declared.sort.Sorting.{Sorting}
use Rattle.tm_call.specs.declared.words.How.{How}
use Rattle.tm_call.specs.declared.words.Command.{Command}
use Rattle.tm_call.specs.Fetches.{Texts, IsTold, TellsAll}
use Rattle.tm_call.specs.Stores.{stored, Leaves, names_of, is_named}
use Rattle.tm_call.specs.Ends.{Outside, Ends, CarriedOut}
use Rattle.tomoyo.specs.Play.{Plays}
use Rattle.tm_gen_laws.specs.Generated.{generated_files}
use Rattle.tm_gen_laws.specs.Policies.{policy_of}
use Rattle.tm_gen_laws.specs.Judging.{Judging}
use Rattle.tm_gen_laws.specs.Reading.{judging_reading}
use Rattle.tomoyo.specs.Rerun.{Learns}
use Rattle.tomoyo.specs.Print.{printed_policy}
use Rattle.tomoyo.specs.Sort.{part_store, sort_reading}
use Rattle.tomoyo.specs.Call.{played_wants, wants_of, stored_by, step_stores, rerun_stores, learn_stores, with_stores, policy_stores, Refuses, Allows, Hold, IsPlayed, IsLearned, IsGenerated, IsShown, IsJudged, IsSorted, IsDone, HasDone}
use Rattle.tomoyo.proofs.Refusals.{refusal-kind}
use Rattle.tomoyo.proofs.Named.{names-allowed, unnamed-by}
use Rattle.tm_call.proofs.Others.{changed-other, not-first, not-later, stored-other, leaves-other, first-other, self-same}
use Rattle.tm_call.proofs.Told.{texts-told}
use Rattle.tm_call.specs.Fetches.{content}
use Rattle.tm_call.specs.declared.status.What.{What}
use Rattle.tm_word.specs.Prelude.{◌>>=◌}
use Rattle.tm_sort.specs.declared.record.Record.{Record}
use Rattle.tm_sort.specs.declared.rules.Rule.{Rule}
use Rattle.tm_sort.specs.declared.parts.Part.{Part}
use Rattle.tm_sort.specs.Records.{records_of}
use Rattle.tm_sort.specs.Rules.{is_rule, rules_of}
use Rattle.tm_sort.specs.Parts.{part_numbers, is_part, named_numbers, part_of, parts_of}
use Rattle.tm_sort.proofs.RuleLaws.{rules_right}
use Rattle.tm_sort.proofs.PartLaws.{parts_share}
use Rattle.tomoyo.specs.Sort.{of_audit, of_rules, few_rules}
use Rattle.tomoyo.proofs.Sorted.{Rising, filter-rising, changed-self, all-stored, not-stored}

-- files that the outcome doesn't store
carried-others : (old new : Outside) (outcome : Outcome) (status : Status) (name : FileName) → CarriedOut outcome old new status → is_named (names_of outcome.stores) name ≡ false → new.files name ≡ old.files name
carried-others old new outcome Status.Done name h e = leaves-other outcome.stores old.files new.files name h.0 e
carried-others old new outcome (Status.ReadFault named) name h e = absurd h.0
carried-others old new outcome (Status.WriteFault (OutName.File named)) name h e = first-other outcome.stores h.0.0.made old.files new.files name h.0.0.files e
carried-others old new outcome (Status.WriteFault OutName.StandardOutput) name h e = leaves-other outcome.stores old.files new.files name h.files e
carried-others old new outcome Status.OutOfMemory name h e = first-other outcome.stores h.0.0 old.files new.files name h.0.1 e
carried-others old new outcome (Status.BadWords place) name h e = absurd h.0
carried-others old new outcome (Status.Absent named) name h e = absurd h.0
carried-others old new outcome (Status.TooLong named) name h e = absurd h.0
carried-others old new outcome (Status.BadPolicy file line reply) name h e = absurd h.0
carried-others old new outcome (Status.UndefinedProfile domain) name h e = absurd h.0
carried-others old new outcome (Status.BadTrace line kind) name h e = absurd h.0
carried-others old new outcome (Status.BadScript named line kind) name h e = absurd h.0
carried-others old new outcome (Status.TooMany what) name h e = absurd h.0
carried-others old new outcome (Status.BadRules line kind) name h e = absurd h.0
carried-others old new outcome (Status.BadAudit line) name h e = absurd h.0
carried-others old new outcome (Status.BadRun line) name h e = absurd h.0

pub kept-of : (command : Command) (old new : Outside) (status : Status) → Ends (wants_of command) (Refuses command) (Allows command) old new status → (name : FileName) → is_named (stored_by command) name ≡ false → new.files name ≡ old.files name
kept-of command old new status (Ends.Not_fetched stops untouched) name e = untouched.files name
kept-of command old new status (Ends.Refused texts given refused untouched) name e = untouched.files name
kept-of command old new status (Ends.Made texts outcome given allowed carried) name e =
    carried-others old new outcome status name carried (unnamed-by command (names_of outcome.stores) name (names-allowed command texts outcome allowed) e)

not-true : (b : Bool) → not b ≡ true → b ≡ false
not-true true e = absurd cc
not-true false e = refl

-- a file that is stored once among others holds its text
stored-holds : (before after : Texts) (name : FileName) (bytes : List ℕ) (state : FileState) → IsTold state → same_name name name ≡ true → is_named (names_of before) name ≡ false → is_named (names_of after) name ≡ false → stored (before ++ (name, bytes) ∷ after) name state ≡ FileState.Holds bytes
stored-holds [] after name bytes state told self none later = ap (stored after name) (changed-self name bytes state told self) ∙ stored-other after name (FileState.Holds bytes) later
stored-holds (s ∷ before) after name bytes state told self none later =
    ap (stored (before ++ (name, bytes) ∷ after) name) (changed-other s.0 s.1 name state (not-first (same_name s.0 name) (is_named (names_of before) name) none))
    ∙ stored-holds before after name bytes state told self (not-later (same_name s.0 name) (is_named (names_of before) name) none) later

-- each name is stored once, and none of those before it
abbrev are_once : Texts → Texts → Bool
are_once before [] = true
are_once before (store ∷ after) = not (is_named (names_of before) store.0) && not (is_named (names_of after) store.0) && are_once (before ++ store ∷ []) after

-- told files that are stored, each once, hold their texts
all-hold : (before after : Texts) (old new : Files) → TellsAll old → Leaves (before ++ after) old new → are_once before after ≡ true → Hold new after
all-hold before [] old new tells leaves once = tt
all-hold before (store ∷ after) old new tells leaves once =
    let parts = and_parts (not (is_named (names_of before) store.0) && not (is_named (names_of after) store.0)) (are_once (before ++ store ∷ []) after) once in
    let alone = and_parts (not (is_named (names_of before) store.0)) (not (is_named (names_of after) store.0)) parts.0 in (
      leaves store.0 ∙ stored-holds before after store.0 store.1 (old store.0) (tells store.0) (self-same store.0) (not-true _ alone.0) (not-true _ alone.1),
      all-hold (before ++ store ∷ []) after old new tells (subst (λ (stores : Texts). Leaves stores old new) (sym (append_assoc before (store ∷ []) after)) leaves) parts.1,
    )

-- a play that is done
played-done : (how : How) (old new : Outside) → Ends (wants_of (Command.Play how false)) (Refuses (Command.Play how false)) (Allows (Command.Play how false)) old new Status.Done → TellsAll old.files → IsPlayed how old new
played-done how old new (Ends.Not_fetched stops untouched) tells = absurd stops.cause
played-done how old new (Ends.Refused texts given refused untouched) tells = absurd (refusal-kind (Command.Play how false) texts Status.Done refused)
played-done how old new (Ends.Made texts outcome given allowed carried) tells =
    let (played, plays, is) = allowed.1 in
    let leaves : Leaves (step_stores played) old.files new.files = subst (λ (o : Outcome). Leaves o.stores old.files new.files) is carried.0 in
    record {
      played = played;
      plays = subst (λ (ts : Texts). Plays how ts played) (texts-told old.files (played_wants how) texts tells given) plays;
      stored = all-hold [] (step_stores played) old.files new.files tells leaves refl;
      summary = carried.1 ∙ ap (λ (o : Outcome). then_bytes o.line old.written) is;
    }

-- what a play that is done has stored, without its rerun and with it
learn-holds : (played : Played) (rerun : Option RerunTexts) (old new : Files) → TellsAll old → Leaves (step_stores played ++ rerun_stores rerun) old new
    → Hold new (step_stores played ++ rerun_stores rerun)
learn-holds played None old new tells leaves = all-hold [] (step_stores played ++ rerun_stores None) old new tells leaves refl
learn-holds played (Some rerun) old new tells leaves = all-hold [] (step_stores played ++ rerun_stores (Some rerun)) old new tells leaves refl

-- a rerun that is left out leaves its files as they were
learn-keeps : (learned : Learned) (old new : Files) → Leaves (learn_stores learned) old new → learned.rerun ≡ None → (new FileName.Run2 ≡ old FileName.Run2) × (new FileName.Audit2 ≡ old FileName.Audit2)
learn-keeps learned old new leaves none =
    let stores : Texts = step_stores learned.played ++ rerun_stores None in
    let left : Leaves stores old new = subst (λ (rerun : Option RerunTexts). Leaves (step_stores learned.played ++ rerun_stores rerun) old new) none leaves in
    (leaves-other stores old new FileName.Run2 left refl, leaves-other stores old new FileName.Audit2 left refl)

-- a play with a rerun that is done
learned-done : (how : How) (old new : Outside) → Ends (wants_of (Command.Play how true)) (Refuses (Command.Play how true)) (Allows (Command.Play how true)) old new Status.Done → TellsAll old.files → IsLearned how old new
learned-done how old new (Ends.Not_fetched stops untouched) tells = absurd stops.cause
learned-done how old new (Ends.Refused texts given refused untouched) tells = absurd (refusal-kind (Command.Play how true) texts Status.Done refused)
learned-done how old new (Ends.Made texts outcome given allowed carried) tells =
    let (learned, learns, is) = allowed.1 in
    let leaves : Leaves (learn_stores learned) old.files new.files = subst (λ (o : Outcome). Leaves o.stores old.files new.files) is carried.0 in
    record {
      learned = learned;
      learns = subst (λ (ts : Texts). Learns how ts learned) (texts-told old.files (played_wants how) texts tells given) learns;
      stored = learn-holds learned.played learned.rerun old.files new.files tells leaves;
      kept = learn-keeps learned old.files new.files leaves;
      summary = carried.1 ∙ ap (λ (o : Outcome). then_bytes o.line old.written) is;
    }

-- a gen that is done
gen-done : (seed size : ℕ) (old new : Outside) → Ends (wants_of (Command.Gen seed size)) (Refuses (Command.Gen seed size)) (Allows (Command.Gen seed size)) old new Status.Done → TellsAll old.files → IsGenerated seed size old new
gen-done seed size old new (Ends.Not_fetched stops untouched) tells = absurd stops.cause
gen-done seed size old new (Ends.Refused texts given refused untouched) tells = absurd (refusal-kind (Command.Gen seed size) texts Status.Done refused)
gen-done seed size old new (Ends.Made texts outcome given allowed carried) tells =
    let played : Played = allowed.1.0 in
    let leaves : Leaves (with_stores (generated_files seed size) played) old.files new.files = subst (λ (o : Outcome). Leaves o.stores old.files new.files) allowed.1.2 carried.0 in
    record {
      played = played;
      plays = allowed.1.1;
      stored = all-hold [] (with_stores (generated_files seed size) played) old.files new.files tells leaves refl;
      summary = carried.1 ∙ ap (λ (o : Outcome). then_bytes o.line old.written) allowed.1.2;
    }

-- what is read as rules is right
rules-right : (texts : Texts) (sorting : Sorting) → sort_reading texts ≡ Ok sorting → list_all is_rule sorting.rules ≡ true
unfolding sort_reading
rules-right texts sorting e =
    let (records, r, after_records) = bound (of_audit (records_of (content texts FileName.Audit))) _ sorting e in
    let (rules, u, after_rules) = bound (of_rules (rules_of (content texts FileName.Sorter))) _ sorting after_records in
    let same : sorting.rules ≡ rules = few-rules rules records sorting after_rules in
    ap (list_all is_rule) same ∙ rules_right (content texts FileName.Sorter) rules (rules-read (rules_of (content texts FileName.Sorter)) rules u)
  where
    bound : {A B E : Type 0} (r : Result A E) (f : A → Result B E) (y : B) → (r >>= f) ≡ Ok y → (x : A) × (r ≡ Ok x) × (f x ≡ Ok y)
    bound (Ok x) f y e = (x, refl, e)
    bound (Err fault) f y e = absurd cc

    rules-read : (r : Result (List Rule) (ℕ × ScriptKind)) (rules : List Rule) → of_rules r ≡ Ok rules → r ≡ Ok rules
    rules-read (Ok y) x e = let same : y ≡ x = cc in ap Ok same
    rules-read (Err fault) x e = absurd cc

    few-rules : (rules : List Rule) (records : List Record) (sorting : Sorting) → few_rules rules records ≡ Ok sorting → sorting.rules ≡ rules
    few-rules rules records sorting e = go (nat_lt 256 (length rules)) (record { rules = rules; records = records }) refl e
      where
        go : (many : Bool) (made : Sorting) → made.rules ≡ rules → (if many then Err (Status.TooMany What.Rules) else Ok made) ≡ Ok sorting → sorting.rules ≡ rules
        go true made is h = absurd cc
        go false made is h = let same : made ≡ sorting = cc in ap (λ (s : Sorting). s.rules) (sym same) ∙ is

-- a sort that is done
sort-done : (old new : Outside) → Ends (wants_of Command.Sort) (Refuses Command.Sort) (Allows Command.Sort) old new Status.Done → TellsAll old.files → IsSorted old new
unfolding parts_of
sort-done old new (Ends.Not_fetched stops untouched) tells = absurd stops.cause
sort-done old new (Ends.Refused texts given refused untouched) tells = absurd (refusal-kind Command.Sort texts Status.Done refused)
sort-done old new (Ends.Made texts outcome given allowed carried) tells =
    let sorting : Sorting = allowed.1.0 in
    let part : ℕ → Part = part_of sorting.rules sorting.records in
    let numbers : List ℕ = named_numbers sorting.rules in
    let leaves : Leaves (map part_store (map part numbers)) old.files new.files = subst (λ (o : Outcome). Leaves o.stores old.files new.files) allowed.1.2 carried.0 in
    record {
      sorting = sorting;
      reads = subst (λ (ts : Texts). sort_reading ts ≡ Ok sorting) (texts-told old.files (wants_of Command.Sort) texts tells given) allowed.1.1;
      stored = all-stored part numbers old.files new.files (λ m. refl) tells (filter-rising (is_part sorting.rules) 0 part_numbers rising) leaves;
      shared = parts_share sorting.rules sorting.records (rules-right texts sorting allowed.1.1);
      kept = λ number none. leaves-other (map part_store (map part numbers)) old.files new.files (FileName.AuditPart number) leaves (not-stored part (is_part sorting.rules) number part_numbers (λ m. refl) none);
      counts = carried.1 ∙ ap (λ (o : Outcome). then_bytes o.line old.written) allowed.1.2;
    }
  where
    rising : Rising 0 part_numbers
    rising = search arith

-- a verify that is done
verify-done : (old new : Outside) → Ends (wants_of Command.Verify) (Refuses Command.Verify) (Allows Command.Verify) old new Status.Done → TellsAll old.files → IsJudged old new
verify-done old new (Ends.Not_fetched stops untouched) tells = absurd stops.cause
verify-done old new (Ends.Refused texts given refused untouched) tells = absurd (refusal-kind Command.Verify texts Status.Done refused)
verify-done old new (Ends.Made texts outcome given allowed carried) tells =
    let (judging, broken, reads, verdict, is) = allowed.1 in
    record {
      judging = judging;
      reads = subst (λ (ts : Texts). judging_reading ts ≡ Ok judging) (texts-told old.files (wants_of Command.Verify) texts tells given) reads;
      broken = broken;
      verdict = verdict;
      line = carried.1 ∙ ap (λ (o : Outcome). then_bytes o.line old.written) is;
    }

-- a print that is done
print-done : (old new : Outside) → Ends (wants_of Command.Print) (Refuses Command.Print) (Allows Command.Print) old new Status.Done → TellsAll old.files → IsShown old new
print-done old new (Ends.Not_fetched stops untouched) tells = absurd stops.cause
print-done old new (Ends.Refused texts given refused untouched) tells = absurd (refusal-kind Command.Print texts Status.Done refused)
print-done old new (Ends.Made texts outcome given allowed carried) tells =
    let policy : Policy = allowed.1.0 in
    let stores : Texts = policy_stores (printed_policy policy) in
    let leaves : Leaves stores old.files new.files = subst (λ (o : Outcome). Leaves o.stores old.files new.files) allowed.1.2 carried.0 in
    let printed = printed_policy policy in
    record {
      policy = policy;
      loads = subst (λ (ts : Texts). policy_of ts ≡ Ok policy) (texts-told old.files (wants_of Command.Print) texts tells given) allowed.1.1;
      profile = leaves FileName.ProfileNew ∙ stored-holds [] (drop 1 stores) FileName.ProfileNew printed.profile (old.files FileName.ProfileNew) (tells FileName.ProfileNew) refl refl refl;
      exception = leaves FileName.ExceptionPolicyNew ∙ stored-holds (take 1 stores) (drop 2 stores) FileName.ExceptionPolicyNew printed.exception (old.files FileName.ExceptionPolicyNew) (tells FileName.ExceptionPolicyNew) refl refl refl;
      domain = leaves FileName.DomainPolicyNew ∙ stored-holds (take 2 stores) (drop 3 stores) FileName.DomainPolicyNew printed.domain (old.files FileName.DomainPolicyNew) (tells FileName.DomainPolicyNew) refl refl refl;
      manager = leaves FileName.ManagerNew ∙ stored-holds (take 3 stores) (drop 4 stores) FileName.ManagerNew printed.manager (old.files FileName.ManagerNew) (tells FileName.ManagerNew) refl refl refl;
      counts = carried.1 ∙ ap (λ (o : Outcome). then_bytes o.line old.written) allowed.1.2;
    }

-- what a command that is done has done
done-of : (command : Command) (old new : Outside) → Ends (wants_of command) (Refuses command) (Allows command) old new Status.Done → TellsAll old.files → IsDone command old new
done-of Command.Print old new ends tells = print-done old new ends tells
done-of (Command.Play how false) old new ends tells = played-done how old new ends tells
done-of (Command.Play how true) old new ends tells = learned-done how old new ends tells
done-of Command.Verify old new ends tells = verify-done old new ends tells
done-of Command.Sort old new ends tells = sort-done old new ends tells
done-of (Command.Gen seed size) old new ends tells = gen-done seed size old new ends tells

pub headline-of : (command : Command) (old new : Outside) (status : Status) → Ends (wants_of command) (Refuses command) (Allows command) old new status → HasDone (Ok command) old new status
headline-of command old new status ends = λ tells is.
    done-of command old new (subst (λ (s : Status). Ends (wants_of command) (Refuses command) (Allows command) old new s) is ends) tells
