use Rattle.tm_index.proofs.IndexLaws.{groups_first}
use Rattle.tm_index.proofs.index.+groups_of.Goals as goal

pub returns-in_ok-put-in-len1-up : goal.returns-in_ok-put-in-len1-up
returns-in_ok-put-in-len1-up t c =
    groups_first c.args.groups.now c.index-groups-0.result c.index-groups-0-2.result c.as_slice.result.now c.in_ok-list_of-in-len1-up.field-0 c.in_ok-made-in-len1-up.made c.put.new.self c.in-len1-up.len_at_least
    c.in_ok-made-in-len1-up.ensures c.as_slice.ensures c.in_ok-list_of-in-len1-up.ensures c.in_ok-put-in-len1-up.ensures.ok
