use Rattle.std.proofs.Common.{[], ap, sym, subst, ◌∙◌}
use Rattle.std.specs.Prelude.{None, Some, unwrap_or}
use Rattle.tm_rules.specs.Types.{Namespace}
use Rattle.tm_rules.specs.Prelude.{acl_group}
use Rattle.tm_change_domains.specs.Standing.{StandsIn}
use Rattle.tm_index.specs.Listing.{listing}
use Rattle.tm_indexed.proofs.lists.search_standing.Goals as goal

pub search_in-requires-clause-known_own : goal.search_in-requires-clause-known_own
search_in-requires-clause-known_own c = c.lists_at-lists.ensures None

pub search_in-requires-clause-known : goal.search_in-requires-clause-known
search_in-requires-clause-known c number entries h =
    let stands = subst (StandsIn c.args.policy.now) (sym c.standing.view_is) c.requires.standing in
    c.lists_at-lists.ensures (Some number)
    ∙ ap (λ (ns : Namespace). listing (acl_group ns number)) stands.namespace
    ∙ ap (λ found. listing (unwrap_or found [])) h
