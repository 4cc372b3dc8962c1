-- Which rule takes a record, and rules beside closures that answer as they accept.
use Rattle.std.specs.Prelude.{◌≡◌, ℕ, Bool, ◌&&◌, List, [], ◌∷◌, if◌then◌else◌}
use Rattle.std.specs.List.{list_all, list_any}
use Rattle.std.specs.Borrow.{Bor}
use Rattle.std.specs.Fn.{FnReturnsAt, Shared}
use Rattle.tm_word.specs.Prelude.{Pattern, Text, matches, words_of}
use Rattle.tm_rules.specs.Types.{ListWords}
use Rattle.tm_rules.specs.Prelude.{list_matches}
use Rattle.tm_sort.specs.declared.record.Record.{Record}
use Rattle.tm_sort.specs.declared.rules.Rule.{Rule}
use Rattle.tm_sort.specs.declared.route.Route.{Route}

-- each pattern matches some word
abbrev pub each_found : List Pattern → Text → Bool
each_found patterns text = list_all (λ pattern_. list_any (matches pattern_) (words_of text)) patterns

-- `any` has no pattern
abbrev pub header_matches : ListWords → Text → Bool
header_matches list text = each_found list.patterns text

-- the two lists match the words of the second and the third line, and each header pattern matches
-- some word of the first
unfoldable pub accepts : Rule → Record → Bool
accepts rule item = list_matches rule.domain item.domain && (list_matches rule.line item.line && header_matches rule.header item.header)

-- the part of the first rule that accepts, 0 where none does
abbrev pub dest : List Rule → Record → ℕ
dest [] item = 0
dest (rule ∷ rules) item = if accepts rule item then rule.dest else dest rules item

-- it may be called on every record, and answers whether the rule accepts it
pub record AnswersRule {F : Type 0} (calls : Shared F (Bor Record × Unit {0}) Bool) (accept : F) (rule : Rule) : Type 0 where
  pub callable : (item : Bor Record) → calls.pre accept (item, tt)
  pub right : (item : Record) (answer : Bool) → FnReturnsAt calls accept item answer → answer ≡ accepts rule item

-- the rule of a route
unfoldable pub route_rule : {F : Type 0} → Route F → Rule
route_rule route = route.rule.now

-- what a route keeps: its closure answers as its rule accepts
unfoldable pub IsRoute : {F : Type 0} → Shared F (Bor Record × Unit {0}) Bool → Route F → Type 0
IsRoute calls route = AnswersRule calls route.accept route.rule.now

-- it may be called on every rule, and makes a route of it
pub record MakesRoutes {F M : Type 0} (calls : Shared F (Bor Record × Unit {0}) Bool) (makes : Shared M (Bor Rule × Unit {0}) (Route F)) (make : M) : Type 0 where
  pub callable : (rule : Bor Rule) → makes.pre make (rule, tt)
  pub made : (rule : Bor Rule) (route : Route F) → makes.post make (rule, tt) route → IsRoute calls route × (route_rule route ≡ rule.now)
