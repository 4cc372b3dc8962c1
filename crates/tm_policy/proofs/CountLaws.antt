-- How much there may be of what is counted.
use Rattle.std.proofs.Common.{◌≡◌, ℕ, ◌+◌, ◌*◌, ◌^◌, ◌<◌, ◌≤◌, arith, ap, sym, subst, ◌∙◌, Bool, true, false, List, [], ◌∷◌, length, drop, get_or}
use Rattle.std.proofs.lemmas.List.{drop_more}
use Rattle.std.specs.Prelude.{if◌then◌else◌}
use Rattle.std.specs.List.{AllByRecursion}
use Rattle.tm_rules.specs.Types.{Domain}
use Rattle.tm_rules.specs.Prelude.{IsShort}
use Rattle.tm_policy.specs.Counts.{live_domains, entries_of}

-- no more domains are live than there are
pub live_fewer : (domains : List Domain) → length (live_domains domains) ≤ length domains
live_fewer [] = omega arith
live_fewer (d ∷ ds) = go d.live (live_fewer ds)
  where
    go : (b : Bool) → length (live_domains ds) ≤ length ds → length (if b then d ∷ live_domains ds else live_domains ds) ≤ length (d ∷ ds)
    go true ih = omega (arith, ih)
    go false ih = omega (arith, ih)

-- each domain has fewer than 2^32 entries
pub live_entries : (domains : List Domain) → AllByRecursion (λ (domain : Domain). IsShort domain.entries) domains → entries_of (live_domains domains) ≤ length domains * 2 ^ 32
live_entries [] each = omega arith
live_entries (d ∷ ds) each = go d.live (live_entries ds each.1)
  where
    go : (b : Bool) → entries_of (live_domains ds) ≤ length ds * 2 ^ 32 → entries_of (if b then d ∷ live_domains ds else live_domains ds) ≤ length (d ∷ ds) * 2 ^ 32
    go true ih = omega (arith, ih, each.0)
    go false ih = omega (arith, ih)

-- the entries of a live domain are among those of the domains that begin with it
within_first : (d : Domain) (ds : List Domain) → d.live ≡ true → length d.entries ≤ entries_of (live_domains (d ∷ ds))
within_first d ds live = subst (λ (b : Bool). length d.entries ≤ entries_of (if b then d ∷ live_domains ds else live_domains ds)) (sym live) (omega arith)

-- the entries of a live domain are among those that are still to come
pub live_here : (domains : List Domain) (k : ℕ) (d : Domain) → k < length domains → d ≡ get_or domains k d → d.live ≡ true → length d.entries ≤ entries_of (live_domains (drop k domains))
live_here domains k d lt is live =
    let e : drop k domains ≡ d ∷ drop (k + 1) domains = drop_more domains k d lt ∙ ap (λ (x : Domain). x ∷ drop (k + 1) domains) (sym is) in
    subst (λ (xs : List Domain). length d.entries ≤ entries_of (live_domains xs)) (sym e) (within_first d (drop (k + 1) domains) live)

-- there is room for them beside those that were counted
pub room : (domains : List Domain) (k done n : ℕ) (d : Domain) → k < length domains → d ≡ get_or domains k d → d.live ≡ true → n ≡ length d.entries → IsShort domains
    → AllByRecursion (λ (domain : Domain). IsShort domain.entries) domains → done + entries_of (live_domains (drop k domains)) ≡ entries_of (live_domains domains) → done + n < 2 ^ 64
room domains k done n d lt is live len short each e = omega (arith, live_here domains k d lt is live, live_entries domains each, len, short, e)
