-- A learned line has its parts.
use Rattle.std.proofs.Common.{◌≡◌, Bool, true, false, refl}
use Rattle.std.specs.Prelude.{None, if◌then◌else◌}
use Rattle.tm_word.specs.Prelude.{Word, literal}
use Rattle.tm_rules.specs.Types.{Args, Entry, NameUnion, Request}
use Rattle.tm_rules.specs.Prelude.{is_execute, learned_line, permission}
use Rattle.tm_learn.specs.Parts.{execute_clauses, target_clauses, learned_clauses, learned_args}

-- its arguments, one permission, and its conditions
abbrev made_of_parts : Request → Word → Entry
made_of_parts request name =
    record {
      args = learned_args request name;
      perms = record { bits = permission request.perm };
      cond = record { clauses = learned_clauses request; grant_log = None };
    }

pub line_of_parts : (request : Request) (name : Word) → made_of_parts request name ≡ learned_line request name
unfolding learned_line
line_of_parts request name = go (is_execute request)
  where
    made : Bool → Entry
    made b = record {
      args = if b then Args.Path (NameUnion.One (literal name)) else request.args;
      perms = record { bits = permission request.perm };
      cond = record { clauses = if b then execute_clauses request.attributes else target_clauses request.attributes; grant_log = None };
    }

    line : Bool → Entry
    line b =
        if b
        then
        record {
          args = Args.Path (NameUnion.One (literal name));
          perms = record { bits = permission request.perm };
          cond = record { clauses = execute_clauses request.attributes; grant_log = None };
        }
        else
        record {
          args = request.args;
          perms = record { bits = permission request.perm };
          cond = record { clauses = target_clauses request.attributes; grant_log = None };
        }

    go : (b : Bool) → made b ≡ line b
    go true = refl
    go false = refl
