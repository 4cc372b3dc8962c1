-- The parts of a learned line.
use Rattle.std.specs.Prelude.{List, ◌++◌, if◌then◌else◌, slice_get}
use Rattle.tm_word.specs.Prelude.{Word, literal}
use Rattle.tm_rules.specs.Types.{Args, Attr, Attributes, Clause, NameUnion, Request}
use Rattle.tm_rules.specs.Prelude.{is_execute, is_word}

-- the real path and the first argument of an execute
abbrev pub execute_clauses : Attributes → List Clause
execute_clauses attributes =
    is_word Attr.RealPath attributes.real_path
    ++ is_word (Attr.Argv 0) (slice_get attributes.argv 0)

-- the target of a symlink
abbrev pub target_clauses : Attributes → List Clause
target_clauses attributes = is_word Attr.Target attributes.target

-- the conditions of a request's line
abbrev pub learned_clauses : Request → List Clause
learned_clauses request =
    if is_execute request then execute_clauses request.attributes
    else target_clauses request.attributes

-- its arguments: those of the request, with this name for the path of an execute
abbrev pub learned_args : Request → Word → Args
learned_args request name =
    if is_execute request then Args.Path (NameUnion.One (literal name)) else request.args
