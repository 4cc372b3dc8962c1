use Rattle.std.proofs.Common.{[], sym, ap, ◌∙◌}
use Rattle.std.specs.Prelude.{None, Some, unwrap_or}
use Rattle.tm_policy.proofs.Finds.{found-there, found-nowhere}
use Rattle.tm_index.specs.Listing.{listing}
use Rattle.tm_indexed.proofs.lists.search.Goals as goal

pub search_domain-requires-clause-known_own : goal.search_domain-requires-clause-known_own
search_domain-requires-clause-known_own c = c.lists_of-lists.ensures None

pub search_domain-requires-clause-known : goal.search_domain-requires-clause-known
search_domain-requires-clause-known c number entries h = c.lists_of-lists.ensures (Some number) ∙ ap (λ found. listing (unwrap_or found [])) h

pub returns-in-Some : goal.returns-in-Some
returns-in-Some c = c.search_domain.ensures ∙ sym (found-there c.args.policy.now c.args.number c.args.process.now c.args.request.now c.in-Some.domain.now (sym c.in-Some.ensures))

pub returns-in-None : goal.returns-in-None
returns-in-None c = sym (found-nowhere c.args.policy.now c.args.number c.args.process.now c.args.request.now (sym c.in-None.ensures))
