-- What was read of told files is what they hold.
use Rattle.std.proofs.Common.{zero, suc, ◌≡◌, ◌∙◌, ℕ, ◌∷◌, [], List, Some, None, ap, sym, refl, subst, take, length, slice_get}
use Rattle.std.proofs.lemmas.Bool.{lt-ltb, le-ltb}
use Rattle.tm_io.specs.declared.names.FileName.{FileName}
use Rattle.tm_io.specs.Files.{FileState, Files}
use Rattle.tm_call.specs.declared.status.Status.{Status}
use Rattle.tm_call.specs.declared.fetches.Want.{Want}
use Rattle.tm_call.specs.Fetches.{Texts, Given, AllGiven, FetchCause, IsTold, TellsAll, told, told_texts, unread, first_unread}

-- the text of one told file
text-told : (want : Want) (state : FileState) (text : List ℕ) → IsTold state → Given want state text → text ≡ told state
text-told want FileState.Untold text is given = absurd is
text-told want FileState.Missing text is (Given.Held gives) = absurd gives
text-told want FileState.Missing text is (Given.Left_out needed lack empty) = empty
text-told want (FileState.Holds bytes) text is (Given.Held gives) = sym gives.0
text-told want (FileState.Holds bytes) text is (Given.Left_out needed lack empty) = absurd lack

-- the texts of told files are those that they hold
pub texts-told : (files : Files) (wants : List Want) (texts : Texts) → TellsAll files → AllGiven files wants texts → texts ≡ told_texts wants files
texts-told files [] [] tells all = refl
texts-told files [] (t ∷ texts) tells all = absurd all
texts-told files (w ∷ wants) [] tells all = absurd all
texts-told files (w ∷ wants) (t ∷ texts) tells all =
    let text : t.1 ≡ told (files w.name) = text-told w (files w.name) t.1 (tells w.name) all.1 in
    let head : (t.0, t.1) ≡ (w.name, told (files w.name)) = ap (λ (n : FileName). (n, t.1)) all.0 ∙ ap (λ (bytes : List ℕ). (w.name, bytes)) text in
    ap (λ (x : FileName × List ℕ). x ∷ texts) head ∙ ap (λ (xs : Texts). (w.name, told (files w.name)) ∷ xs) (texts-told files wants texts tells all.2)

-- a told file that was read doesn't end the call
given-read : (want : Want) (state : FileState) (text : List ℕ) → IsTold state → Given want state text → unread want state ≡ None
given-read want FileState.Untold text is given = absurd is
given-read want FileState.Missing text is (Given.Held gives) = absurd gives
given-read want FileState.Missing text is (Given.Left_out needed lack empty) = rw needed refl
given-read want (FileState.Holds bytes) text is (Given.Held gives) = rw (le-ltb 16777216 (length bytes) gives.1) refl
given-read want (FileState.Holds bytes) text is (Given.Left_out needed lack empty) = absurd lack

-- told files that were read don't end the call
pub all-read : (files : Files) (wants : List Want) (texts : Texts) → TellsAll files → AllGiven files wants texts → first_unread wants files ≡ None
all-read files [] [] tells all = refl
all-read files [] (t ∷ texts) tells all = absurd all
all-read files (w ∷ wants) [] tells all = absurd all
all-read files (w ∷ wants) (t ∷ texts) tells all =
    rw (given-read w (files w.name) t.1 (tells w.name) all.1) (all-read files wants texts tells all.2)

-- a told file that isn't there ends the call by its state
pub absent-unread : (want : Want) (state : FileState) (rose : Type 0) (name : FileName) → IsTold state → FetchCause want state rose (Status.Absent name) → unread want state ≡ Some (Status.Absent name)
absent-unread want FileState.Untold rose name is h = absurd is
absent-unread want FileState.Missing rose name is h = rw (h.1, h.0) refl
absent-unread want (FileState.Holds bytes) rose name is h = absurd h.2

-- a told file that is too long does so too
pub too-long-unread : (want : Want) (state : FileState) (rose : Type 0) (name : FileName) → IsTold state → FetchCause want state rose (Status.TooLong name) → unread want state ≡ Some (Status.TooLong name)
too-long-unread want FileState.Untold rose name is h = absurd is
too-long-unread want FileState.Missing rose name is h = absurd h.1
too-long-unread want (FileState.Holds bytes) rose name is h = rw (lt-ltb 16777216 (length bytes) h.1, h.0) refl

-- the first fetch that ends the call by a file's state is that of the first file that does so
pub stop-unread : (files : Files) (wants : List Want) (place : ℕ) (want : Want) (texts : Texts) (rose : Type 0) (status : Status)
    → ((w : Want) (state : FileState) → IsTold state → FetchCause w state rose status → unread w state ≡ Some status)
    → TellsAll files → slice_get wants place ≡ Some want → AllGiven files (take place wants) texts → FetchCause want (files want.name) rose status → first_unread wants files ≡ Some status
stop-unread files [] place want texts rose status by tells stands all cause = cc
stop-unread files (w ∷ wants) zero want texts rose status by tells stands all cause =
    let is : w ≡ want = cc in
    let here : FetchCause w (files w.name) rose status = subst (λ (x : Want). FetchCause x (files x.name) rose status) (sym is) cause in
    rw (by w (files w.name) (tells w.name) here) refl
stop-unread files (w ∷ wants) (suc place) want [] rose status by tells stands all cause = absurd all
stop-unread files (w ∷ wants) (suc place) want (t ∷ texts) rose status by tells stands all cause =
    rw (given-read w (files w.name) t.1 (tells w.name) all.1) (stop-unread files wants place want texts rose status by tells stands all.2 cause)
