-- A literal's word, and that a transition preference is no argument.
use Rattle.std.proofs.Common.{◌≡◌, refl, List, ℕ}
use Rattle.tm_word.specs.Prelude.{literal, literal_word}
use Rattle.tm_word.proofs.Literals.{literal-name}
use Rattle.tm_rules.specs.Types.{Args, Groups, NameUnion, Prefer}
use Rattle.tm_rules.specs.Prelude.{args_grant}

-- the word of a name's literal is the name
pub word_of_literal : (name : List ℕ) → literal_word (literal name) ≡ name
word_of_literal name = literal-name name

-- an execute line with a preference is for the requests of the one without
pub execute_row : (g : Groups) (n : NameUnion) (prefer : Prefer) (asked : Args) → args_grant g (Args.Execute n prefer) asked ≡ args_grant g (Args.Path n) asked
unfolding args_grant
execute_row g n prefer (Args.Path a) = refl
execute_row g n prefer (Args.Execute a b) = refl
execute_row g n prefer (Args.PathNumber a b) = refl
execute_row g n prefer (Args.Device a b c d) = refl
execute_row g n prefer (Args.Path2 a b) = refl
execute_row g n prefer (Args.Mount a b c d) = refl
execute_row g n prefer (Args.Inet a b c) = refl
execute_row g n prefer (Args.Unix a b) = refl
execute_row g n prefer (Args.Env a) = refl
execute_row g n prefer (Args.Manual a) = refl
