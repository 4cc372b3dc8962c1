-- What a trace asks.
use Rattle.std.specs.Prelude.{IsTrue}
use Rattle.std.specs.List.{AllByRecursion, list_all}
use Rattle.tm_rules.specs.Types.{Tree}
use Rattle.tm_rules.specs.Prelude.{Trace, item_is_request}
use Rattle.tm_core.specs.Tomoyo.{tomoyo_grammar}

-- each `do` line asks a request
abbrev pub IsAsking : Trace → Type 0
IsAsking trace =
    AllByRecursion
    (λ (tree : Tree). IsTrue (list_all (item_is_request tomoyo_grammar.is_path) tree.records)) trace
