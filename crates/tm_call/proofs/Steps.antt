-- One fetch more, and one store more.
use Rattle.std.proofs.Common.{◌≡◌, ◌∙◌, ℕ, ◌≤◌, List, [], ◌∷◌, ◌++◌, refl, ap, sym, subst, arith, ◌<◌, ◌+◌, length, get_or, take, Some}
use Rattle.std.proofs.lemmas.List.{take_more}
use Rattle.std.proofs.lemmas.Option.{slice_get-get_or}
use Rattle.tm_io.specs.declared.names.FileName.{FileName}
use Rattle.tm_io.specs.Causes.{Rose}
use Rattle.tm_io.specs.Files.{FileState, Files, changed, SameFiles}
use Rattle.tm_call.specs.declared.fetches.Want.{Want}
use Rattle.tm_call.specs.Fetches.{Texts, Given, AllGiven, FetchCause, FetchStops}
use Rattle.tm_call.specs.Stores.{stored, Leaves, IsStopped}
use Rattle.tm_call.specs.declared.status.Status.{Status}

-- a count that rose late rose
pub rose-earlier : (a b c : ℕ) → a ≤ b → Rose b c → Rose a c
rose-earlier a b c le rose = omega arith

-- one more file is given
pub given-more : (files : Files) (wants : List Want) (texts : Texts) (want : Want) (text : FileName × List ℕ) → AllGiven files wants texts → text.0 ≡ want.name → Given want (files want.name) text.1 → AllGiven files (wants ++ want ∷ []) (texts ++ text ∷ [])
given-more files [] [] want text all name given = (name, given, tt)
given-more files [] (t ∷ texts) want text all name given = absurd all
given-more files (w ∷ wants) [] want text all name given = absurd all
given-more files (w ∷ wants) (t ∷ texts) want text all name given = (all.0, all.1, given-more files wants texts want text all.2 name given)

-- one more store
pub stored-more : (stores : Texts) (store : FileName × List ℕ) (name : FileName) (state : FileState) → stored (stores ++ store ∷ []) name state ≡ changed store.0 store.1 name (stored stores name state)
stored-more [] store name state = refl
stored-more (s ∷ stores) store name state = stored-more stores store name (changed s.0 s.1 name state)

pub leaves-more : (stores : Texts) (stored_name : FileName) (bytes : List ℕ) (old mid new : Files) → Leaves stores old mid → ((name : FileName) → new name ≡ changed stored_name bytes name (mid name)) → Leaves (stores ++ (stored_name, bytes) ∷ []) old new
leaves-more stores stored_name bytes old mid new before store name =
    store name ∙ ap (changed stored_name bytes name) (before name) ∙ sym (stored-more stores (stored_name, bytes) name (old name))

-- the cause of a stop, with a count that rose earlier
pub cause-earlier : (want : Want) (state : FileState) (a b c : ℕ) (status : Status) → a ≤ b → FetchCause want state (Rose b c) status → FetchCause want state (Rose a c) status
cause-earlier want state a b c Status.Done le h = h
cause-earlier want state a b c (Status.BadWords place) le h = h
cause-earlier want state a b c (Status.ReadFault name) le h = (h.0, rose-earlier a b c le h.1)
cause-earlier want state a b c (Status.Absent name) le h = h
cause-earlier want state a b c (Status.TooLong name) le h = h
cause-earlier want state a b c (Status.BadPolicy file line reply) le h = h
cause-earlier want state a b c (Status.UndefinedProfile domain) le h = h
cause-earlier want state a b c (Status.BadTrace line kind) le h = h
cause-earlier want state a b c (Status.BadScript name line kind) le h = h
cause-earlier want state a b c (Status.TooMany what) le h = h
cause-earlier want state a b c (Status.BadRules line kind) le h = h
cause-earlier want state a b c (Status.BadAudit line) le h = h
cause-earlier want state a b c (Status.BadRun line) le h = h
cause-earlier want state a b c (Status.WriteFault name) le h = h
cause-earlier want state a b c Status.OutOfMemory le h = h

-- a fetch that stops after others
pub stops-at : (files mid : Files) (wants : List Want) (k : ℕ) (d : Want) (texts : Texts) (a b c : ℕ) (status : Status) → k < length wants → AllGiven files (take k wants) texts → SameFiles files mid → a ≤ b → FetchCause (get_or wants k d) (mid (get_or wants k d).name) (Rose b c) status → FetchStops files wants (Rose a c) status
stops-at files mid wants k d texts a b c status lt given kept le cause =
    let want = get_or wants k d in
    record {
      place = k;
      want = want;
      stands = slice_get-get_or wants k d lt;
      texts = texts;
      before = given;
      cause = cause-earlier want (files want.name) a b c status le (subst (λ (state : FileState). FetchCause want state (Rose b c) status) (kept want.name) cause);
    }

-- a store that fails after others
pub stopped-at : (stores : Texts) (k : ℕ) (item : FileName × List ℕ) (old mid new : Files) → k < length stores → item ≡ get_or stores k item → Leaves (take k stores) old mid → SameFiles mid new → IsStopped stores old new item.0
stopped-at stores k item old mid new lt is made same =
    record {
      made = k;
      bytes = item.1;
      at = slice_get-get_or stores k item lt ∙ ap (λ (x : FileName × List ℕ). Some x) (sym is);
      files = λ name. same name ∙ made name;
    }

-- the stores that were made, with one more
pub leaves-at : (stores : Texts) (k : ℕ) (item : FileName × List ℕ) (old mid new : Files) → k < length stores → item ≡ get_or stores k item → Leaves (take k stores) old mid → ((name : FileName) → new name ≡ changed item.0 item.1 name (mid name)) → Leaves (take (k + 1) stores) old new
leaves-at stores k item old mid new lt is made store =
    let more : take (k + 1) stores ≡ take k stores ++ (item.0, item.1) ∷ [] = take_more stores k item lt ∙ ap (λ (x : FileName × List ℕ). take k stores ++ x ∷ []) (sym is) in
    subst (λ (xs : Texts). Leaves xs old new) (sym more) (leaves-more (take k stores) item.0 item.1 old mid new made store)

-- the files given after one more fetch
pub given-at : (files mid : Files) (wants : List Want) (k : ℕ) (d : Want) (texts new_texts : Texts) (text : List ℕ) → k < length wants → AllGiven files (take k wants) texts → SameFiles files mid → Given (get_or wants k d) (mid (get_or wants k d).name) text → new_texts ≡ texts ++ ((get_or wants k d).name, text) ∷ [] → AllGiven files (take (k + 1) wants) new_texts
given-at files mid wants k d texts new_texts text lt all kept given is =
    let want = get_or wants k d in
    let more = given-more files (take k wants) texts want (want.name, text) all refl (subst (λ (state : FileState). Given want state text) (kept want.name) given) in
    subst (λ (ts : Texts). AllGiven files (take (k + 1) wants) ts) (sym is) (subst (λ (ws : List Want). AllGiven files ws (texts ++ (want.name, text) ∷ [])) (sym (take_more wants k d lt)) more)
