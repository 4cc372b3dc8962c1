-- A request and its attributes: what is printed is read again, and what is read is a request of a
-- trace.
use Rattle.std.proofs.Common.{◌≡◌, ℕ, true, List, ◌++◌, Result, Ok, Err, refl, ap, subst}
use Rattle.tm_word.specs.Prelude.{Text, ◌>>=◌}
use Rattle.tm_rules.specs.Types.{Args, LineKind, Request, TraceKind, no_attributes}
use Rattle.tm_line.specs.DomainWords.{ends_domain}
use Rattle.tm_trace.specs.Lines.{in_trace}
use Rattle.tm_trace.specs.Requests.{request_line}
use Rattle.tm_trace.specs.Attributes.{request, attributes_from}
use Rattle.tm_trace.specs.Reading.{request_at, request_of}
use Rattle.tm_trace.specs.Printing.{request_words, attribute_words}
use Rattle.tm_trace.specs.Written.{is_trace_request}
use Rattle.tm_trace.proofs.RequestLaws.{is_line, line_again, line_read}
use Rattle.tm_trace.proofs.Asking.{Given}
use Rattle.tm_trace.proofs.Askable.{line_of_request, given_by, complete_by, right}
use Rattle.tm_trace.proofs.AttributeRead.{attributes_read}
use Rattle.tm_trace.proofs.AttributesAgain.{attributes_again}
use Rattle.tm_trace.proofs.WordLaws.{attributes_end}

-- ---- steps that went well

pub bind_ok : {A B : Type 0} (r : Result A TraceKind) (f : A → Result B TraceKind) (y : B) → (r >>= f) ≡ Ok y → (x : A) × (r ≡ Ok x) × (f x ≡ Ok y)
bind_ok (Ok x) f y e = (x, refl, e)
bind_ok (Err kind) f y e = absurd cc

abbrev pub done : {A : Type 0} → A → Result A TraceKind
done x = Ok x

pub ok_is : {A : Type 0} (x y : A) → done x ≡ done y → x ≡ y
ok_is x y e = cc

pub in_ok : {A : Type 0} (kind : TraceKind) (r : Result A LineKind) (x : A) → in_trace kind r ≡ Ok x → r ≡ Ok x
in_ok kind (Ok y) x e = ap Ok (ok_is y x e)
in_ok kind (Err fault) x e = absurd cc

-- ---- requests

pub request_again : (r : Request) (more : List Text) → is_trace_request r ≡ true → ends_domain more ≡ true → request_at (request_words r ++ more) ≡ Ok (r.args, r.perm, more)
unfolding request_at request_words
request_again r more h k = ap (in_trace TraceKind.Request) (line_again r.args r.perm more (line_of_request r h) k)

pub whole_again : (r : Request) → is_trace_request r ≡ true → request_of (request_words r ++ attribute_words r.attributes) ≡ Ok r
unfolding request_of
whole_again r h = rw (request_again r (attribute_words r.attributes) h (attributes_end r.attributes), attributes_again r.args r.perm r.attributes (given_by r h) (complete_by r h)) refl

none_given : (a : Args) (perm : ℕ) → Given a perm no_attributes
none_given a perm = record {
  exec = λ e. refl;
  real = refl;
  argv = refl;
  names = refl;
  values = refl;
  once = refl;
  link = λ e. refl;
  target = refl;
  stats = refl;
  low = refl;
  written = refl;
  order = refl;
}

pub whole_read : (words : List Text) (r : Request) → request_of words ≡ Ok r → is_trace_request r ≡ true
unfolding request_of request_at
whole_read words r e =
    let line = bind_ok (in_trace TraceKind.Request (request_line words)) (λ line. in_trace TraceKind.Attribute (attributes_from line.0 line.1 no_attributes line.2) >>= λ at. Ok (request line.0 line.1 at)) r e in
    let at = bind_ok (in_trace TraceKind.Attribute (attributes_from line.0.0 line.0.1 no_attributes line.0.2)) (λ at. done (request line.0.0 line.0.1 at)) r line.2 in
    let is : is_line line.0.0 line.0.1 ≡ true = line_read words line.0 (in_ok TraceKind.Request (request_line words) line.0 line.1) in
    let given = attributes_read line.0.0 line.0.1 no_attributes at.0 line.0.2 (none_given line.0.0 line.0.1) (in_ok TraceKind.Attribute (attributes_from line.0.0 line.0.1 no_attributes line.0.2) at.0 at.1) in
    subst (λ (q : Request). is_trace_request q ≡ true) (ok_is (request line.0.0 line.0.1 at.0) r at.2) (right line.0.0 line.0.1 at.0 is given.0 given.1)
