-- The grammar of this language prints requests and their attributes as traces do.
use Rattle.std.proofs.Common.{refl}
use Rattle.tm_grammar.specs.Tomoyo.{tomoyo_grammar}
use Rattle.tm_audit.specs.Parts.{PrintsRequests}

pub prints_so : PrintsRequests tomoyo_grammar
prints_so = record { request = λ r. refl; attributes = λ r. refl }
