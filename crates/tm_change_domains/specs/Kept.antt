-- What a refused line leaves.
use Rattle.std.specs.Prelude.{◌≡◌}
use Rattle.tm_rules.specs.Types.{EditReply}

-- after every reply but `done` it is as it was
abbrev pub KeptIfRefused : {A : Type 0} → EditReply → A → A → Type 0
KeptIfRefused EditReply.Done new old = Unit {0}
KeptIfRefused EditReply.NotManager new old = new ≡ old
KeptIfRefused (EditReply.BadLine kind) new old = new ≡ old
KeptIfRefused EditReply.NoDomain new old = new ≡ old
KeptIfRefused EditReply.NoProfile new old = new ≡ old
KeptIfRefused EditReply.NoSuchLine new old = new ≡ old
