-- The namespace of a name among others.
use Rattle.std.specs.Prelude.{List, unwrap_or}
use Rattle.std.specs.List.{find}
use Rattle.tm_word.specs.Prelude.{Text, texts_equal}
use Rattle.tm_rules.specs.Types.{Namespace}
use Rattle.tm_rules.specs.Prelude.{empty_namespace}

-- the namespace of that name; one of which nothing was written is empty
abbrev pub named : Text → List Namespace → Namespace
named name namespaces =
    unwrap_or (find (λ (ns : Namespace). texts_equal ns.name name) namespaces)
    (empty_namespace name)
