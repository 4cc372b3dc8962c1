use Rattle.std.proofs.Common.{sym, ap, ◌∙◌}
use Rattle.std.specs.Prelude.{option_map}
use Rattle.tm_rules.specs.Types.{Namespace}
use Rattle.tm_word.specs.Prelude.{texts_equal}
use Rattle.tm_rules.specs.Prelude.{IsFewHere, at_key, first, found_of, namespace_word}
use Rattle.tm_policy.proofs.Lists.{each_found}
use Rattle.tm_policy.proofs.Finds.{namespace-found, namespace-none}
use Rattle.tm_policy.proofs.searching.search_domain.Goals as goal

pub search_in-requires-clause-few : goal.search_in-requires-clause-few
search_in-requires-clause-few g c =
    each_found IsFewHere (λ (ns : Namespace). texts_equal ns.name c.namespace.result.now) c.as_slice.result.now c.in-Some.namespace.now
    (rw (sym c.as_slice.ensures) at c.requires.few.namespaces) (sym c.in-Some.ensures)

pub returns-in-Some : goal.returns-in-Some
returns-in-Some g c =
    let e = rw (c.as_slice.ensures, c.namespace.ensures) at c.in-Some.ensures in
    c.search_in.ensures ∙ ap (λ ns. option_map found_of (first ns c.args.domain.now c.args.process.now c.args.request.now)) (sym (namespace-found c.args.policy.now c.args.domain.now c.in-Some.namespace.now (sym e)))

pub returns-in-None : goal.returns-in-None
returns-in-None g c =
    let e = rw (c.as_slice.ensures, c.namespace.ensures) at c.in-None.ensures in
    c.search_alone.ensures (namespace_word c.args.domain.now.name) ∙ ap (λ ns. option_map found_of (first ns c.args.domain.now c.args.process.now c.args.request.now)) (sym (namespace-none c.args.policy.now c.args.domain.now (sym e)))

pub search_in-requires-clause-known : goal.search_in-requires-clause-known
search_in-requires-clause-known g c number entries h =
    let e = rw (c.as_slice.ensures, c.namespace.ensures) at c.in-Some.ensures in
    c.requires.known number entries (ap (λ (ns : Namespace). at_key ns.acl_groups number) (namespace-found c.args.policy.now c.args.domain.now c.in-Some.namespace.now (sym e)) ∙ h)
