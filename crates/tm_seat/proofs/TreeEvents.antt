-- The records of a tree from a seat, from an opening, and its End.
use Rattle.std.proofs.Common.{◌≡◌, ◌≤◌, ◌<◌, ℕ, suc, List, [], ◌∷◌, ◌++◌, length, map, Bool, true, refl, sym, ap, ◌∙◌, subst, append_assoc, append-nil}
use Rattle.std.specs.Prelude.{Option, Some, None, IsSome, flat_map, Result, Ok, Err, OnOk}
use Rattle.std.specs.List.{list_all, AllByRecursion}
use Rattle.std.proofs.lemmas.Bool.{and_parts, lt-ltb, le-leb}
use Rattle.std.proofs.lemmas.List.{map-append}
use Rattle.std.proofs.lemmas.Grind.{flat_map-append}
use Rattle.tm_rules.specs.Prelude.{DomainName, Trace, is_request, item_is_request, live_domain}
use Rattle.tm_rules.specs.Types.{Book, Ids, Item, Look, Made, Maker, Request, Start, Step, Take, Tree}
use Rattle.tm_take.specs.Tomoyo.{tomoyo_grammar}
use Rattle.tm_take.proofs.IsOne.{is_one}
use Rattle.tm_legal.specs.Prelude.{DomainIn, IsOpened, Scene, Situation, Situations, TreePlayed, apply, at_start, do_pids, forked, opening, own_numbers, with_ids, with_situation}
use Rattle.tm_legal.proofs.Histories.{All-push}
use Rattle.tm_take.specs.declared.situations.ProcessSituation.{ProcessSituation}
use Rattle.tm_take.specs.Situations.{situation_of, first_situation}
use Rattle.tm_made.specs.Made.{steps_made, history_made}
use Rattle.tm_made.proofs.Fits.{steps-last}
use Rattle.tm_joint.specs.Played.{Row, row_own}
use Rattle.tm_joint.specs.AtLists.{state_after, WalkedAt}
use Rattle.tm_joint.proofs.TreeLists.{trees-begin, lines-are-passed, processes-stand, takes-follow, walked-trees-are-played}
use Rattle.tm_joint.proofs.Later.{row-lone, row-ends}
use Rattle.tm_seat.specs.declared.tree.TreeToPlay.{TreeToPlay}
use Rattle.tm_seat.specs.Seats.{scene_of, state_of, FitsFrom, Begins, MadeBy}
use Rattle.tm_seat.specs.Playing.{Walk, OfTrees, IsPlayingTree, TreePlaysOn, TakeIsLegal, LooksSince, makers_of}
use Rattle.tm_seat.specs.Rows.{EndsTree, RowIsPlayed, tree_makers}
use Rattle.tm_seat.proofs.Opening.{some-trace, begins-further, fits-scene, state-scene}
use Rattle.tm_seat.proofs.Claiming.{by-both, by-step, by-nobody, since-later, last-number}

-- what the next take needs: its process's domain is there, and its request can be asked
pub tree-there : (start : Start) → IsOpened start.policy → (walk : Walk) (list : List Made) (own : List ℕ) (at : Situations) (left : List Item) (takes : List Take) (pid : ℕ) → IsPlayingTree start walk list own at left takes → (d : ℕ) × ((at pid).domain ≡ Some d) × DomainIn (state_of start list).policy d
tree-there start opened walk list own at left takes pid h =
    let some = some-trace start.trees in
    let (name, live) = h.starts in
    let tree : Tree = record { pid = 0; start = name; records = walk.records } in
    let found = processes-stand (scene_of start some.0 None) list 1 tree at left takes pid (h.walked some.0 None 1 tree some.1 refl live) in
    (found.0, found.1, rw (← state-scene start opened some.0 None some.1 list) found.2)

pub tree-asked : (start : Start) (walk : Walk) (list : List Made) (own : List ℕ) (at : Situations) (left : List Item) (takes : List Take) (pid : ℕ) (request : Request) → IsPlayingTree start walk list own at (Item.Do pid request ∷ left) takes → is_request tomoyo_grammar.is_path request ≡ true
tree-asked start walk list own at left takes pid request h = (and_parts (is_request tomoyo_grammar.is_path request) (list_all (item_is_request tomoyo_grammar.is_path) left) h.asked).0

-- an `ids` line
pub tree-ids : (start : Start) (list : List Made) (own : List ℕ) (at at' : Situations) (pid : ℕ) (ids : Ids) (takes : List Take) → at' ≡ with_situation at pid (with_ids (at pid) ids) → (left : List Item) → TreePlaysOn start list own at (Item.Ids pid ids ∷ left) takes list own at' left takes
tree-ids start list own at at' pid ids takes is left walk h =
    record {
      fitted = h.fitted;
      begins = h.begins;
      starts = h.starts;
      walked = λ trace book t tree trees same live.
          rw is ((lines-are-passed (scene_of start trace book) list t tree at takes).ids pid ids left (h.walked trace book t tree trees same live));
      made = h.made;
      makers = h.makers;
      fresh = h.fresh;
      asked = h.asked;
    }

-- a `fork` line
pub tree-forks : (start : Start) (list : List Made) (own : List ℕ) (at at' : Situations) (pid child : ℕ) (takes : List Take) → at' ≡ with_situation at child (forked (at pid) child) → (left : List Item) → TreePlaysOn start list own at (Item.Fork pid child ∷ left) takes list own at' left takes
tree-forks start list own at at' pid child takes is left walk h =
    record {
      fitted = h.fitted;
      begins = h.begins;
      starts = h.starts;
      walked = λ trace book t tree trees same live.
          rw is ((lines-are-passed (scene_of start trace book) list t tree at takes).fork pid child left (h.walked trace book t tree trees same live));
      made = h.made;
      makers = h.makers;
      fresh = h.fresh;
      asked = h.asked;
    }

-- a take more
pub tree-takes : (start : Start) (xs zs : List Made) (own own' : List ℕ) (at at' : Situations) (pid d : ℕ) (now : ProcessSituation) (request : Request) (k : Take) → IsOpened start.policy → situation_of now ≡ at pid → now.domain ≡ Some d → Begins xs zs → FitsFrom start zs → TakeIsLegal start xs zs (situation_of now) request k → DomainIn (state_of start zs).policy k.after → own' ≡ own ++ own_numbers (k ∷ []) → MadeBy (Maker.Process now.process.pid ∷ []) xs own zs own' → LooksSince (length xs) k → k.pid ≡ now.process.pid → at' ≡ with_situation at pid (record (at pid) { domain = Some k.after }) → (left : List Item) (takes : List Take) → TreePlaysOn start xs own at (Item.Do pid request ∷ left) takes zs own' at' left (takes ++ k ∷ [])
tree-takes start xs zs own own' at at' pid d now request k opened is domain begins fitted legal there noted by since whose moved left takes walk h =
    let process : (at pid).process ≡ now.process = ap (λ (s : Situation). s.process) (sym is) in
    let stands : (at pid).domain ≡ now.domain = ap (λ (s : Situation). s.domain) (sym is) in
    record {
      fitted = fitted;
      begins = begins-further walk.known xs zs h.begins begins;
      starts = h.starts;
      walked = λ trace book t tree trees same live.
          rw moved (follows trace book t tree trees (h.walked trace book t tree trees same live) process stands);
      made = noted ∙ ap (λ (ns : List ℕ). ns ++ own_numbers (k ∷ [])) h.made ∙ append_assoc walk.before (own_numbers takes) (own_numbers (k ∷ [])) ∙ ap (λ (ns : List ℕ). walk.before ++ ns) (sym (flat_map-append (λ (m : Take). own_of m) takes (k ∷ [])));
      makers = subst (λ (makers : List Maker). MadeBy makers walk.known walk.before zs own') (sym (map-append (λ (m : Take). Maker.Process m.pid) takes (k ∷ [])))
          (by-both (makers_of takes) (Maker.Process k.pid ∷ []) walk.known xs zs walk.before own own' h.makers (subst (λ p. MadeBy (Maker.Process p ∷ []) xs own zs own') (sym whose) by));
      fresh = All-push (LooksSince (length walk.known)) takes k h.fresh (since-later walk.known xs k h.begins since);
      asked = (and_parts (is_request tomoyo_grammar.is_path request) (list_all (item_is_request tomoyo_grammar.is_path) left) h.asked).1;
    }
  where
    own_of : Take → List ℕ
    own_of m = flat_map (λ (look : Look). look.own) m.looks

    follows : (trace : Trace) (book : Option Book) (t : ℕ) (tree : Tree) → length trace ≡ start.trees → WalkedAt (scene_of start trace book) xs t tree at (Item.Do pid request ∷ left) takes → (at pid).process ≡ now.process → (at pid).domain ≡ now.domain → WalkedAt (scene_of start trace book) zs t tree (with_situation at pid (record (at pid) { domain = Some k.after })) left (takes ++ k ∷ [])
    follows trace book t tree trees walked process stands =
        let in_scene : DomainIn (state_after (scene_of start trace book) zs).policy k.after = rw (state-scene start opened trace book trees zs) there in
        rw begins.1
        (takes-follow (scene_of start trace book) xs begins.0 t tree at pid request left takes k is_one opened (fits-scene start opened trace book trees (xs ++ begins.0) (rw begins.1 at fitted)) walked (whose ∙ ap (λ p. p.pid) (sym process))
        (λ w same_process same_domain low. rw begins.1 at (legal trace book t w trees (same_process ∙ process) (same_domain ∙ stands) low))
        (rw begins.1 at in_scene))

-- a tree at its beginning
pub tree-starts : (start : Start) (xs : List Made) (own : List ℕ) (home : ℕ) (records : List Item) (at : Situations) → IsOpened start.policy → at ≡ first_situation (Some home) → FitsFrom start xs → list_all (item_is_request tomoyo_grammar.is_path) records ≡ true → (name : DomainName) × (live_domain start.policy name ≡ Some home) → IsPlayingTree start (record { records = records; home = home; known = xs; before = own }) xs own at records []
tree-starts start xs own home records at opened is fitted asked starts =
    record {
      fitted = fitted;
      begins = ([], sym (append-nil xs));
      starts = starts;
      walked = λ trace book t tree trees same live.
          let scene : Scene = scene_of start trace book in
          let first : at ≡ at_start start.policy tree = is ∙ sym (ap first_situation live) in
          subst (λ (items : List Item). WalkedAt scene xs t tree at items []) same
          (subst (λ (a : Situations). WalkedAt scene xs t tree a tree.records []) (sym first) (trees-begin scene xs t tree is_one opened (fits-scene start opened trace book trees xs fitted) (rw live refl)));
      made = sym (append-nil own);
      makers = by-nobody [] xs xs own own ([], sym (append-nil xs)) refl;
      fresh = tt;
      asked = asked;
    }

-- no record is left
pub tree-ends : (start : Start) (walk : Walk) (list : List Made) (own : List ℕ) (at : Situations) (takes : List Take) → IsPlayingTree start walk list own at [] takes → OfTrees start walk.records walk.home (λ trace book t tree. TreePlayed (scene_of start trace book) (history_made (scene_of start trace book) list) t tree takes)
tree-ends start walk list own at takes h trace book t tree trees same live = walked-trees-are-played (scene_of start trace book) list t tree at [] takes refl (h.walked trace book t tree trees same live)

-- a call that keeps it keeps it for an equal opening
pub tree-carries : (start start' : Start) (walk : Walk) (xs zs : List Made) (own own' : List ℕ) (at at' : Situations) (lines left : List Item) (takes more : List Take) → start' ≡ start → TreePlaysOn start' xs own at lines takes zs own' at' left more → IsPlayingTree start walk xs own at lines takes → IsPlayingTree start walk zs own' at' left more
tree-carries start start' walk xs zs own own' at at' lines left takes more same keeps = subst (λ (s : Start). TreePlaysOn s xs own at lines takes zs own' at' left more) same keeps walk

-- for an equal opening
pub tree-same : (start start' : Start) (walk : Walk) (list : List Made) (own : List ℕ) (at : Situations) (left : List Item) (takes : List Take) → start' ≡ start → IsPlayingTree start walk list own at left takes → IsPlayingTree start' walk list own at left takes
tree-same start start' walk list own at left takes same h = subst (λ (s : Start). IsPlayingTree s walk list own at left takes) (sym same) h

-- The End

-- it fits, whatever steps there are
pub end-fits : (start : Start) (list : List Made) (number : ℕ) → 0 < number → number ≤ start.trees → IsSome (apply tomoyo_grammar (state_of start list) (Step.End number)).reply
unfolding apply
end-fits start list number above inside =
    let trees : (state_of start list).trees ≡ start.trees = (steps-last tomoyo_grammar (opening start) (steps_made list)).trees in
    let within : number ≤ (state_of start list).trees = rw trees inside in
    rw (lt-ltb 0 number above, le-leb number (state_of start list).trees within) refl

-- its processes' steps and its own
row-makers : (number : ℕ) (pids : List ℕ) (takes : List Take) (who : Maker → Option ℕ) (i : ℕ) → map (λ (k : Take). k.pid) takes ≡ pids → AllByRecursion (λ (maker : Maker). who maker ≡ Some i) (map (λ pid. Maker.Process pid) pids) → AllByRecursion (λ (maker : Maker). who maker ≡ Some i) (makers_of takes)
row-makers number pids takes who i same all = each takes (subst (λ (ps : List ℕ). AllByRecursion (λ (maker : Maker). who maker ≡ Some i) (map (λ pid. Maker.Process pid) ps)) (sym same) all)
  where
    each : (ks : List Take) → AllByRecursion (λ (maker : Maker). who maker ≡ Some i) (map (λ pid. Maker.Process pid) (map (λ (k : Take). k.pid) ks)) → AllByRecursion (λ (maker : Maker). who maker ≡ Some i) (makers_of ks)
    each [] h = tt
    each (k ∷ ks) h = (h.0, each ks h.1)

-- what the records and the End come to
pub record TreeEnded (start : Start) (tree : TreeToPlay) (supervised : Bool) (old : List Made) (before : List ℕ) (new : List Made) (own : List ℕ) (row : Row) : Type 0 where
  pub row_is : RowIsPlayed start tree supervised new row
  pub own_is : own ≡ before ++ row_own row
  pub makers : MadeBy (tree_makers tree) old before new own

pub tree-ended : (start start' : Start) (tree : TreeToPlay) (supervised : Bool) (xs ys zs : List Made) (before own own' : List ℕ) (takes : List Take) (end : Option ℕ) → start' ≡ start → (name : DomainName) × (live_domain start.policy name ≡ Some tree.home) → OfTrees start tree.records tree.home (λ trace book t its. TreePlayed (scene_of start trace book) (history_made (scene_of start trace book) ys) t its takes) → own ≡ before ++ own_numbers takes → MadeBy (makers_of takes) xs before ys own → EndsTree start' tree.number supervised ys own zs own' end → TreeEnded start tree supervised xs before zs own' (record { takes = takes; end = end })
tree-ended start start' tree supervised xs ys zs before own own' takes None same (name, live) played noted by (off, list_is, own_is) =
    record {
      row_is = λ trace book its trees stands records home.
          rw list_is (row-lone (scene_of start trace book) ys tree.number its takes (stands ∙ off) (played trace book tree.number its trees records home));
      own_is = own_is ∙ noted ∙ ap (λ (ns : List ℕ). before ++ ns) (sym (append-nil (own_numbers takes)));
      makers = rw (list_is, own_is) (λ who i all claims. by who i (row-makers tree.number (do_pids tree.records) takes who i pids all.1) claims);
    }
  where
    pids : map (λ (k : Take). k.pid) takes ≡ do_pids tree.records
    pids = let some = some-trace start.trees in let its : Tree = record { pid = 0; start = name; records = tree.records } in (played some.0 None 1 its some.1 refl live).pids
tree-ended start start' tree supervised xs ys zs before own own' takes (Some end) same (name, live) played noted by (on, reply, (others, is, replied), numbered, own_is) =
    record {
      row_is = λ trace book its trees stands records home.
          rw (is, last) (row-ends (scene_of start trace book) ys others made tree.number its takes (stands ∙ on) refl (played trace book tree.number its trees records home));
      own_is = own_is ∙ ap (λ (ns : List ℕ). ns ++ end ∷ []) noted ∙ append_assoc before (own_numbers takes) (end ∷ []);
      makers = λ who i all claims.
          by-step (Maker.Tree tree.number ∷ []) start' ys ys zs own own own' made end reply (λ P one. one.0) (others, is, replied) numbered own_is (by-nobody (Maker.Tree tree.number ∷ []) ys ys own own ([], sym (append-nil ys)) refl) who i (all.0, tt)
          (by who i (row-makers tree.number (do_pids tree.records) takes who i pids all.1) claims);
    }
  where
    made : Made
    made = record { maker = Maker.Tree tree.number; step = Step.End tree.number }

    last : end ≡ suc (length (ys ++ others))
    last = numbered ∙ ap (λ (l : List Made). length l) is ∙ last-number ys others made

    pids : map (λ (k : Take). k.pid) takes ≡ do_pids tree.records
    pids = let some = some-trace start.trees in let its : Tree = record { pid = 0; start = name; records = tree.records } in (played some.0 None 1 its some.1 refl live).pids

-- what the calls of a record give

pub ids-ok : {A E : Type 0} (r : Result A E) (start : Start) (list : List Made) (own : List ℕ) (at at' : Situations) (item : Item) (pid : ℕ) (ids : Ids) (takes : List Take) → item ≡ Item.Ids pid ids → OnOk r (at' ≡ with_situation at pid (with_ids (at pid) ids)) → OnOk r ((left : List Item) → TreePlaysOn start list own at (item ∷ left) takes list own at' left takes)
ids-ok (Ok x) start list own at at' item pid ids takes is moved = λ left. rw is (tree-ids start list own at at' pid ids takes moved left)
ids-ok (Err e) start list own at at' item pid ids takes is moved = tt

pub forks-ok : {A E : Type 0} (r : Result A E) (start : Start) (list : List Made) (own : List ℕ) (at at' : Situations) (item : Item) (pid child : ℕ) (takes : List Take) → item ≡ Item.Fork pid child → OnOk r (at' ≡ with_situation at child (forked (at pid) child)) → OnOk r ((left : List Item) → TreePlaysOn start list own at (item ∷ left) takes list own at' left takes)
forks-ok (Ok x) start list own at at' item pid child takes is moved = λ left. rw is (tree-forks start list own at at' pid child takes moved left)
forks-ok (Err e) start list own at at' item pid child takes is moved = tt

pub does-ok : (start start' : Start) (xs xs' zs : List Made) (own own' later : List ℕ) (at at' : Situations) (item : Item) (pid : ℕ) (request : Request) (takes more : List Take) (k : Take) → item ≡ Item.Do pid request → start' ≡ start → xs' ≡ xs → own' ≡ own → more ≡ takes ++ k ∷ [] → ((left : List Item) (ks : List Take) → TreePlaysOn start' xs' own' at (Item.Do pid request ∷ left) ks zs later at' left (ks ++ k ∷ [])) → (left : List Item) → TreePlaysOn start xs own at (item ∷ left) takes zs later at' left more
does-ok start start' xs xs' zs own own' later at at' item pid request takes more k is a b c pushed keeps left = rw (is, pushed, ← a, ← b, ← c) (keeps left takes)
