-- The stems of a name, one after another.
use Rattle.std.proofs.Common.{◌≡◌, ℕ, ◌+◌, ◌<◌, ◌≤◌, ◌==◌, if◌then◌else◌, List, [], ◌∷◌, ◌++◌, length, map, take, drop, arith, refl, sym, ap, ◌∙◌}
use Rattle.std.proofs.lemmas.List.{take_all}
use Rattle.std.specs.Prelude.{Option, Some, None}
use Rattle.tm_word.specs.Prelude.{Text, Word}
use Rattle.tm_rules.specs.Types.{Entry, NamePlace}
use Rattle.tm_policy.specs.Searching.{Asked}
use Rattle.tm_index.specs.Buckets.{Places}
use Rattle.tm_index.specs.Stems.{stem_room, stems_after, name_stems}
use Rattle.tm_indexed.specs.Candidates.{first_at, sooner, soonest}

module _ (asked : Asked) (entries : List Entry) where
  sooner-none : (o : Option (ℕ × NamePlace)) → sooner o None ≡ o
  sooner-none None = refl
  sooner-none (Some x) = refl

  -- what is found where no stem has places
  pub soonest_none : (places : Places) (found : Option (ℕ × NamePlace)) (stems : List Text) → ((stem : Text) → places stem ≡ []) → found ≡ soonest asked entries found (map places stems)
  soonest_none places found [] none = refl
  soonest_none places found (s ∷ ss) none =
      soonest_none places found ss none ∙ ap (λ p. soonest asked entries p (map places ss)) (sym (ap (λ (l : List ℕ). sooner found (first_at asked entries l)) (none s) ∙ sooner-none found))

  -- the stems from a byte on give what all give
  abbrev pub Gives : Places → Word → Option (ℕ × NamePlace) → ℕ → Option (ℕ × NamePlace) → Type 0
  Gives places name found k now =
      soonest asked entries now (map places (stems_after (take k name) (drop k name))) ≡ soonest asked entries found (map places (name_stems name))

-- a name of few bytes is its first bytes
pub front_whole : (name : Word) → length name < stem_room → name ≡ take stem_room name
front_whole name less = sym (take_all stem_room name (omega (arith, less)))
