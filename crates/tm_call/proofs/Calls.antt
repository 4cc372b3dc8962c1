-- The order of fetches and stores, call by call.
use Rattle.std.proofs.Common.{◌∙◌, ◌<◌, ◌+◌, ℕ, List, [], ◌∷◌, ◌++◌, sym, ap, subst, length, get_or, take, drop, append_assoc, append-nil, take-append-drop}
use Rattle.std.specs.Prelude.{map}
use Rattle.std.proofs.lemmas.List.{take_more, drop_more, map-append}
use Rattle.tm_io.specs.declared.names.FileName.{FileName}
use Rattle.tm_io.specs.Files.{FileState}
use Rattle.tm_io.specs.Notes.{Noted}
use Rattle.tm_io.proofs.NoteLaws.{noted-both}
use Rattle.tm_call.specs.declared.status.Status.{Status}
use Rattle.tm_call.specs.declared.status.OutName.{OutName}
use Rattle.tm_call.specs.declared.fetches.Want.{Want}
use Rattle.tm_call.specs.declared.carry.Outcome.{Outcome}
use Rattle.tm_call.specs.Fetches.{FetchCause}
use Rattle.tm_call.specs.Calls.{Names, FirstCalls, LastCall, FetchesOf, StoresOf}
use Rattle.tm_call.specs.Ends.{Outside, CarriedOut}

-- no call before, or none after
pub none-before : (a b c : Names) (files : List FileName) → Noted [] a b → Noted files b c → Noted files a c
none-before a b c files none noted = noted-both a b c [] files none noted

pub none-after : (a b c : Names) (files : List FileName) → Noted files a b → Noted [] b c → Noted files a c
none-after a b c files noted none = subst (λ (names : List FileName). Noted names a c) (append-nil files) (noted-both a b c files [] noted none)

-- the last of some calls, the one at this place
pub last-at : {A : Type 0} (name : A → FileName) (xs : List A) (k : ℕ) (d : A) (a b c : Names) → k < length xs → Noted (map name (take k xs)) a b → Noted (name (get_or xs k d) ∷ []) b c → LastCall (map name xs) (name (get_or xs k d)) a c
last-at name xs k d a b c lt before now =
    record {
      before = map name (take k xs);
      after = map name (drop (k + 1) xs);
      all = ap (map name) (sym (take-append-drop k xs) ∙ ap (λ rest. take k xs ++ rest) (drop_more xs k d lt)) ∙ map-append name (take k xs) (get_or xs k d ∷ drop (k + 1) xs);
      noted = noted-both a b c (map name (take k xs)) (name (get_or xs k d) ∷ []) before now;
    }

-- the calls so far, with the one at this place
pub noted-at : {A : Type 0} (name : A → FileName) (xs : List A) (k : ℕ) (d : A) (a b c : Names) → k < length xs → Noted (map name (take k xs)) a b → Noted (name (get_or xs k d) ∷ []) b c → Noted (map name (take (k + 1) xs)) a c
noted-at name xs k d a b c lt before now =
    subst (λ (names : List FileName). Noted names a c) (sym (ap (map name) (take_more xs k d lt) ∙ map-append name (take k xs) (get_or xs k d ∷ [])))
    (noted-both a b c (map name (take k xs)) (name (get_or xs k d) ∷ []) before now)

-- the last call is one of the first ones, and all of them are the first ones
pub first-last : (files : List FileName) (name : FileName) (a b : Names) → LastCall files name a b → FirstCalls files a b
first-last files name a b last = record { made = last.before ++ name ∷ []; left = last.after; all = last.all ∙ sym (append_assoc last.before (name ∷ []) last.after); noted = last.noted }

pub first-all : (files : List FileName) (a b : Names) → Noted files a b → FirstCalls files a b
first-all files a b noted = record { made = files; left = []; all = sym (append-nil files); noted = noted }

-- the fetch that decides is the last one
pub fetches-stopped : (files : List FileName) (want : Want) (state : FileState) (rose : Type 0) (status : Status) (a b : Names) → FetchCause want state rose status → LastCall files want.name a b → FetchesOf files status a b
fetches-stopped files want state rose Status.Done a b cause last = absurd cause
fetches-stopped files want state rose (Status.BadWords place) a b cause last = absurd cause
fetches-stopped files want state rose (Status.ReadFault name) a b cause last = subst (λ (n : FileName). LastCall files n a b) (sym cause.0) last
fetches-stopped files want state rose (Status.Absent name) a b cause last = subst (λ (n : FileName). LastCall files n a b) (sym cause.0) last
fetches-stopped files want state rose (Status.TooLong name) a b cause last = subst (λ (n : FileName). LastCall files n a b) (sym cause.0) last
fetches-stopped files want state rose (Status.BadPolicy file line reply) a b cause last = absurd cause
fetches-stopped files want state rose (Status.UndefinedProfile domain) a b cause last = absurd cause
fetches-stopped files want state rose (Status.BadTrace line kind) a b cause last = absurd cause
fetches-stopped files want state rose (Status.BadScript name line kind) a b cause last = absurd cause
fetches-stopped files want state rose (Status.TooMany what) a b cause last = absurd cause
fetches-stopped files want state rose (Status.BadRules line kind) a b cause last = absurd cause
fetches-stopped files want state rose (Status.BadAudit line) a b cause last = absurd cause
fetches-stopped files want state rose (Status.BadRun line) a b cause last = absurd cause
fetches-stopped files want state rose (Status.WriteFault name) a b cause last = absurd cause
fetches-stopped files want state rose Status.OutOfMemory a b cause last = first-last files want.name a b last

-- an outcome is carried out after all fetches
pub fetches-carried : (files : List FileName) (outcome : Outcome) (old new : Outside) (status : Status) (a b : Names) → CarriedOut outcome old new status → Noted files a b → FetchesOf files status a b
fetches-carried files outcome old new Status.Done a b h all = all
fetches-carried files outcome old new (Status.BadWords place) a b h all = all
fetches-carried files outcome old new (Status.ReadFault name) a b h all = absurd h.0
fetches-carried files outcome old new (Status.Absent name) a b h all = absurd h.0
fetches-carried files outcome old new (Status.TooLong name) a b h all = absurd h.0
fetches-carried files outcome old new (Status.BadPolicy file line reply) a b h all = all
fetches-carried files outcome old new (Status.UndefinedProfile domain) a b h all = all
fetches-carried files outcome old new (Status.BadTrace line kind) a b h all = all
fetches-carried files outcome old new (Status.BadScript name line kind) a b h all = all
fetches-carried files outcome old new (Status.TooMany what) a b h all = all
fetches-carried files outcome old new (Status.BadRules line kind) a b h all = all
fetches-carried files outcome old new (Status.BadAudit line) a b h all = all
fetches-carried files outcome old new (Status.BadRun line) a b h all = all
fetches-carried files outcome old new (Status.WriteFault name) a b h all = all
fetches-carried files outcome old new Status.OutOfMemory a b h all = first-all files a b all

-- the stores of an outcome after calls that stored nothing
pub stores-after : (files : List FileName) (status : Status) (a b c : Names) → Noted [] a b → StoresOf files status b c → StoresOf files status a c
stores-after files Status.Done a b c none h = none-before a b c files none h
stores-after files (Status.BadWords place) a b c none h = none-before a b c [] none h
stores-after files (Status.ReadFault name) a b c none h = none-before a b c [] none h
stores-after files (Status.Absent name) a b c none h = none-before a b c [] none h
stores-after files (Status.TooLong name) a b c none h = none-before a b c [] none h
stores-after files (Status.BadPolicy file line reply) a b c none h = none-before a b c [] none h
stores-after files (Status.UndefinedProfile domain) a b c none h = none-before a b c [] none h
stores-after files (Status.BadTrace line kind) a b c none h = none-before a b c [] none h
stores-after files (Status.BadScript name line kind) a b c none h = none-before a b c [] none h
stores-after files (Status.TooMany what) a b c none h = none-before a b c [] none h
stores-after files (Status.BadRules line kind) a b c none h = none-before a b c [] none h
stores-after files (Status.BadAudit line) a b c none h = none-before a b c [] none h
stores-after files (Status.BadRun line) a b c none h = none-before a b c [] none h
stores-after files (Status.WriteFault (OutName.File name)) a b c none h = record { before = h.before; after = h.after; all = h.all; noted = none-before a b c (h.before ++ name ∷ []) none h.noted }
stores-after files (Status.WriteFault OutName.StandardOutput) a b c none h = none-before a b c files none h
stores-after files Status.OutOfMemory a b c none h = record { made = h.made; left = h.left; all = h.all; noted = none-before a b c h.made none h.noted }
