use Rattle.std.proofs.Common.{sym, ◌∙◌}
use Rattle.tm_index.specs.Listing.{listed}
use Rattle.tm_index.specs.Stems.{stems_asked}
use Rattle.tm_policy.specs.Searching.{asked_request}
use Rattle.tm_indexed.proofs.WalkLaws.{soonest_none}
use Rattle.tm_indexed.proofs.search.soonest_stemmed.Goals as goal

pub returns-then-has_no_stems : goal.returns-then-has_no_stems
returns-then-has_no_stems c =
    soonest_none c.args.asked.now c.args.entries.now (listed c.args.list.now).stemmed c.args.found (stems_asked (asked_request c.args.asked.now).args) (c.has_no_stems.ensures c.if-has_no_stems.true)
