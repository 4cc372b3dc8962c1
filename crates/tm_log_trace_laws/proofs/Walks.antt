-- Where processes are after lines.
use Rattle.std.proofs.Common.{◌≡◌, ℕ, suc, ◌+◌, ◌==◌, Bool, true, false, if◌then◌else◌, List, [], ◌∷◌, ◌++◌, length, refl, sym, ap, ◌∙◌, subst, arith, inl}
use Rattle.std.specs.Prelude.{Option, Some, None}
use Rattle.std.proofs.lemmas.Bool.{eq-eqb, ne_eqb}
use Rattle.tm_rules.specs.Types.{Item, Tree}
use Rattle.tm_rules.specs.Prelude.{DomainName, Trace, pid_of_line}
use Rattle.tm_log.specs.declared.log.Used.{Used}
use Rattle.tm_log_trace_laws.specs.History.{Happening, Stand, Stands, stand_of, StandsIn, stand_after, with_child, after_line, Replays, firsts_from}

abbrev pub after_lines : Stands → List Happening → Stands
after_lines s [] = s
after_lines s (h ∷ more) = after_lines (after_line s h) more

pub after-append : (s : Stands) (xs ys : List Happening) → after_lines s (xs ++ ys) ≡ after_lines (after_lines s xs) ys
after-append s [] ys = refl
after-append s (x ∷ xs) ys = after-append (after_line s x) xs ys

pub replays-both : (s : Stands) (xs ys : List Happening) → Replays s xs → Replays (after_lines s xs) ys → Replays s (xs ++ ys)
replays-both s [] ys front back = back
replays-both s (x ∷ xs) ys front back = (front.0, replays-both (after_line s x) xs ys front.1 back)

pub replays-front : (s : Stands) (xs ys : List Happening) → Replays s (xs ++ ys) → Replays s xs
replays-front s [] ys all = tt
replays-front s (x ∷ xs) ys all = (all.0, replays-front (after_line s x) xs ys all.1)

pub replays-back : (s : Stands) (xs ys : List Happening) → Replays s (xs ++ ys) → Replays (after_lines s xs) ys
replays-back s [] ys all = all
replays-back s (x ∷ xs) ys all = replays-back (after_line s x) xs ys all.1

-- One process's stand

pub stand-same : (s : Stands) (n : ℕ) (st : Stand) → stand_of ((n, st) ∷ s) n ≡ Some st
stand-same s n st = rw (eq-eqb n n refl) refl

pub stand-other : (s : Stands) (n m : ℕ) (st : Stand) → (n ≡ m → ⊥) → stand_of ((n, st) ∷ s) m ≡ stand_of s m
stand-other s n m st ne = rw (ne_eqb n m ne) refl

-- all stands but one are the same
abbrev pub SameBut : ℕ → Stands → Stands → Type 0
SameBut c s t = (m : ℕ) → (m ≡ c → ⊥) → stand_of s m ≡ stand_of t m

pub same-refl : (c : ℕ) (s : Stands) → SameBut c s s
same-refl c s m ne = refl

pub same-more : (c n : ℕ) (st : Stand) (s t : Stands) → SameBut c s t → SameBut c ((n, st) ∷ s) ((n, st) ∷ t)
same-more c n st s t same m ne = ap (λ x. if n == m then Some st else x) (same m ne)

-- one more stand of that one
pub same-one : (c : ℕ) (st : Stand) (s t : Stands) → SameBut c s t → SameBut c s ((c, st) ∷ t)
same-one c st s t same m ne = same m ne ∙ sym (stand-other t c m st (λ e. ne (sym e)))

same-child : (c : ℕ) (item : Item) (st : Stand) (s t : Stands) → SameBut c s t → SameBut c (with_child item st s) (with_child item st t)
same-child c (Item.Fork pid child) st s t same = same-more c child st s t same
same-child c (Item.Ids pid ids) st s t same = same
same-child c (Item.Do pid request) st s t same = same

pub same-line : (c : ℕ) (h : Happening) (s t : Stands) → SameBut c s t → SameBut c (after_line s h) (after_line t h)
same-line c h s t same =
    same-child c h.item (stand_after h) ((pid_of_line h.item, stand_after h) ∷ s) ((pid_of_line h.item, stand_after h) ∷ t)
    (same-more c (pid_of_line h.item) (stand_after h) s t same)

pub same-after : (c : ℕ) (hs : List Happening) (s t : Stands) → SameBut c s t → SameBut c (after_lines s hs) (after_lines t hs)
same-after c [] s t same = same
same-after c (h ∷ hs) s t same = same-after c hs (after_line s h) (after_line t h) (same-line c h s t same)

-- Lines that don't name a process

-- who has no stand after a line isn't its process nor its child, and had none before
pub record Unnamed (c : ℕ) (s : Stands) (h : Happening) : Type 0 where
  pub other : pid_of_line h.item ≡ c → ⊥
  pub none : stand_of s c ≡ None
  pub kept : (t : Stands) → stand_of (after_line t h) c ≡ stand_of t c

unnamed-head : (s : Stands) (n c : ℕ) (st : Stand) → stand_of ((n, st) ∷ s) c ≡ None → (n ≡ c → ⊥) × (stand_of s c ≡ None)
unnamed-head s n c st none = (apart, sym (stand-other s n c st apart) ∙ none)
  where
    apart : n ≡ c → ⊥
    apart e = (let same : stand_of ((n, st) ∷ s) n ≡ Some st = stand-same s n st in let two : stand_of ((n, st) ∷ s) n ≡ None = rw (← e) at none in absurd cc)

-- the same of its parts
unnamed-by : (c : ℕ) (s : Stands) (item : Item) (st : Stand) → stand_of (with_child item st ((pid_of_line item, st) ∷ s)) c ≡ None → (pid_of_line item ≡ c → ⊥) × (stand_of s c ≡ None) × ((t : Stands) → stand_of (with_child item st ((pid_of_line item, st) ∷ t)) c ≡ stand_of t c)
unnamed-by c s (Item.Fork pid child) st none =
    let a : (child ≡ c → ⊥) × (stand_of ((pid, st) ∷ s) c ≡ None) = unnamed-head ((pid, st) ∷ s) child c st none in
    let b : (pid ≡ c → ⊥) × (stand_of s c ≡ None) = unnamed-head s pid c st a.1 in
    (b.0, b.1, λ t. stand-other ((pid, st) ∷ t) child c st a.0 ∙ stand-other t pid c st b.0)
unnamed-by c s (Item.Ids pid ids) st none =
    let b : (pid ≡ c → ⊥) × (stand_of s c ≡ None) = unnamed-head s pid c st none in
    (b.0, b.1, λ t. stand-other t pid c st b.0)
unnamed-by c s (Item.Do pid request) st none =
    let b : (pid ≡ c → ⊥) × (stand_of s c ≡ None) = unnamed-head s pid c st none in
    (b.0, b.1, λ t. stand-other t pid c st b.0)

pub unnamed : (c : ℕ) (s : Stands) (h : Happening) → stand_of (after_line s h) c ≡ None → Unnamed c s h
unnamed c s h none =
    let parts = unnamed-by c s h.item (stand_after h) none in
    record { other = parts.0; none = parts.1; kept = parts.2 }

pub unnamed-before : (c : ℕ) (s : Stands) (hs : List Happening) → stand_of (after_lines s hs) c ≡ None → stand_of s c ≡ None
unnamed-before c s [] none = none
unnamed-before c s (h ∷ hs) none = (unnamed c s h (unnamed-before c (after_line s h) hs none)).none

-- lines replay whatever one whom they don't name has been doing
pub frame : (c : ℕ) (s t : Stands) (hs : List Happening) → SameBut c s t → stand_of (after_lines s hs) c ≡ None → Replays s hs → Replays t hs
frame c s t [] same none all = tt
frame c s t (h ∷ hs) same none all =
    let here : Unnamed c s h = unnamed c s h (unnamed-before c (after_line s h) hs none) in (
      subst (λ (o : Option Stand). StandsIn o h.tree h.domain) (same (pid_of_line h.item) here.other) all.0,
      frame c (after_line s h) (after_line t h) hs (same-line c h s t same) none all.1,
    )

-- and it stands where it stood
pub frame-own : (c : ℕ) (s t : Stands) (hs : List Happening) → stand_of (after_lines s hs) c ≡ None → stand_of (after_lines t hs) c ≡ stand_of t c
frame-own c s t [] none = refl
frame-own c s t (h ∷ hs) none =
    let here : Unnamed c s h = unnamed c s h (unnamed-before c (after_line s h) hs none) in
    frame-own c (after_line s h) (after_line t h) hs none ∙ here.kept t

-- One process more

-- lines still replay, nobody else has moved, and this one stands there
pub record Joined (c : ℕ) (s t : Stands) (hs ks : List Happening) (st : Stand) : Type 0 where
  pub replays : Replays t ks
  pub others : SameBut c (after_lines s hs) (after_lines t ks)
  pub own : stand_of (after_lines t ks) c ≡ Some st

-- the line of a fork, of which no record is
abbrev pub fork_line : ℕ → ℕ → ℕ → DomainName → Happening
fork_line tree pid child domain = record { tree = tree; item = Item.Fork pid child; domain = domain; used = None }

abbrev pub settled_at : ℕ → DomainName → Stand
settled_at tree domain = record { tree = tree; domain = domain; is_open = false }

-- just before a line that makes no process itself
pub fork-before : (c tree : ℕ) (item : Item) (domain : DomainName) (used : Option Used) (s : Stands) (xs ys : List Happening) → ((st : Stand) (t : Stands) → with_child item st t ≡ t) → (let line : Happening = record { tree = tree; item = item; domain = domain; used = used } in Replays s (xs ++ line ∷ ys) → stand_of (after_lines s (xs ++ line ∷ ys)) c ≡ None → Joined c s s (xs ++ line ∷ ys) (xs ++ fork_line tree (pid_of_line item) c domain ∷ line ∷ ys) (settled_at tree domain))
fork-before c tree item domain used s xs ys quiet all none =
    record {
      replays = replays-both s xs (fork ∷ line ∷ ys) (replays-front s xs (line ∷ ys) all) (back.0, (fits, frame c (after_line mid line) (after_line made line) ys same none-back back.1));
      others = rw (after-append s xs (line ∷ ys), after-append s xs (fork ∷ line ∷ ys)) (same-after c ys (after_line mid line) (after_line made line) same);
      own = rw (after-append s xs (fork ∷ line ∷ ys)) (frame-own c (after_line mid line) (after_line made line) ys none-back ∙ here.kept made ∙ stand-same ((n, st) ∷ mid) c st);
    }
  where
    n : ℕ
    n = pid_of_line item

    st : Stand
    st = settled_at tree domain

    line : Happening
    line = record { tree = tree; item = item; domain = domain; used = used }

    fork : Happening
    fork = fork_line tree n c domain

    mid : Stands
    mid = after_lines s xs

    made : Stands
    made = after_line mid fork

    back : Replays mid (line ∷ ys)
    back = replays-back s xs (line ∷ ys) all

    none-back : stand_of (after_lines (after_line mid line) ys) c ≡ None
    none-back = rw (after-append s xs (line ∷ ys)) at none

    here : Unnamed c mid line
    here = unnamed c mid line (unnamed-before c (after_line mid line) ys none-back)

    fits : StandsIn (stand_of made n) tree domain
    fits = rw (stand-other ((n, st) ∷ mid) c n st (λ e. here.other (sym e)), stand-same mid n st) (refl, inl refl)

    core : (m : ℕ) → (m ≡ c → ⊥) → (b : Bool) → (n == m) ≡ b → stand_of ((n, stand_after line) ∷ mid) m ≡ stand_of ((n, stand_after line) ∷ made) m
    core m ne true e = rw e refl
    core m ne false e = rw (e, ne_eqb c m (λ x. ne (sym x))) refl

    same : SameBut c (after_line mid line) (after_line made line)
    same m ne =
        ap (λ t. stand_of t m) (quiet (stand_after line) ((n, stand_after line) ∷ mid)) ∙ core m ne (n == m) refl
        ∙ ap (λ t. stand_of t m) (sym (quiet (stand_after line) ((n, stand_after line) ∷ made)))

-- a new tree
firsts-last : (k : ℕ) (trees : Trace) (tree : Tree) → stand_of (firsts_from k trees) tree.pid ≡ None → stand_of (firsts_from k (trees ++ tree ∷ [])) tree.pid ≡ Some (settled_at (k + length trees) tree.start)
firsts-last k [] tree none = (let e : k + 0 ≡ k = omega arith in rw (e, eq-eqb tree.pid tree.pid refl) refl)
firsts-last k (t ∷ trees) tree none =
    let apart : (t.pid ≡ tree.pid → ⊥) × (stand_of (firsts_from (suc k) trees) tree.pid ≡ None) = unnamed-head (firsts_from (suc k) trees) t.pid tree.pid (settled_at k t.start) none in
    let e : k + suc (length trees) ≡ suc k + length trees = omega arith in
    rw e (stand-other (firsts_from (suc k) (trees ++ tree ∷ [])) t.pid tree.pid (settled_at k t.start) apart.0 ∙ firsts-last (suc k) trees tree apart.1)

firsts-others : (k : ℕ) (trees : Trace) (tree : Tree) → SameBut tree.pid (firsts_from k trees) (firsts_from k (trees ++ tree ∷ []))
firsts-others k [] tree = same-one tree.pid (settled_at k tree.start) [] [] (same-refl tree.pid [])
firsts-others k (t ∷ trees) tree = same-more tree.pid t.pid (settled_at k t.start) (firsts_from (suc k) trees) (firsts_from (suc k) (trees ++ tree ∷ [])) (firsts-others (suc k) trees tree)

pub tree-last : (trees : Trace) (tree : Tree) (hs : List Happening) → Replays (firsts_from 0 trees) hs → stand_of (after_lines (firsts_from 0 trees) hs) tree.pid ≡ None → Joined tree.pid (firsts_from 0 trees) (firsts_from 0 (trees ++ tree ∷ [])) hs hs (settled_at (length trees) tree.start)
tree-last trees tree hs all none =
    let s : Stands = firsts_from 0 trees in
    let t : Stands = firsts_from 0 (trees ++ tree ∷ []) in
    let zero_plus : 0 + length trees ≡ length trees = omega arith in
    record {
      replays = frame tree.pid s t hs (firsts-others 0 trees tree) none all;
      others = same-after tree.pid hs s t (firsts-others 0 trees tree);
      own = frame-own tree.pid s t hs none ∙ firsts-last 0 trees tree (unnamed-before tree.pid s hs none) ∙ ap (λ n. Some (settled_at n tree.start)) zero_plus;
    }
