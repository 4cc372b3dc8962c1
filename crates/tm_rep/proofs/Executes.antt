-- The first name of an execute.
use Rattle.std.proofs.Common.{◌≡◌, ℕ, true, refl}
use Rattle.std.specs.Prelude.{Some, slice_get}
use Rattle.tm_rules.specs.Types.{Args, Attributes, Request, argument_words}
use Rattle.tm_rules.specs.Prelude.{is_execute, path_of}

abbrev request_of : Args → ℕ → Attributes → Request
request_of args perm attributes = record { args = args; perm = perm; attributes = attributes }

first-name : (args : Args) (perm : ℕ) (attributes : Attributes) → is_execute (request_of args perm attributes) ≡ true
    → slice_get (argument_words args) 0 ≡ Some (path_of (request_of args perm attributes))
first-name (Args.Path n) perm attributes h = refl
first-name (Args.Execute n prefer) perm attributes h = absurd cc
first-name (Args.PathNumber n k) perm attributes h = absurd cc
first-name (Args.Device n a b c) perm attributes h = absurd cc
first-name (Args.Path2 n m) perm attributes h = absurd cc
first-name (Args.Mount d p k f) perm attributes h = absurd cc
first-name (Args.Inet k a p) perm attributes h = absurd cc
first-name (Args.Unix k n) perm attributes h = absurd cc
first-name (Args.Env n) perm attributes h = absurd cc
first-name (Args.Manual d) perm attributes h = absurd cc

-- it is its path
pub execute_path : (request : Request) → is_execute request ≡ true
    → slice_get (argument_words request.args) 0 ≡ Some (path_of request)
execute_path request h = first-name request.args request.perm request.attributes h
