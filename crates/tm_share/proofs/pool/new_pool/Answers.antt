use Rattle.std.proofs.Common.{◌≡◌, ◌∙◌, length, map, []}
use Rattle.tm_share.specs.Hands.{place, IsPool, all_put, all_taken}
use Rattle.tm_share.specs.Pools.{paired}
use Rattle.tm_share.proofs.Pools.{ok-at, made-pool}
use Rattle.tm_share.proofs.pool.new_pool.Goals as goal

pub returns-clause-pool : goal.returns-clause-pool
returns-clause-pool g c =
    let made = made-pool c.in_ok-owns.owns.items c.in_ok-owns-2.owns.items c.in_ok-owns-2.rounds.items c.in_ok-owns-2.ensures in
    ok-at c.hands_of.result (λ hands. hands.items) (paired c.in_ok-owns-2.owns.items c.in_ok-owns-2.rounds.items) (λ hs. IsPool (map place hs)) c.hands_of.ensures (made.0)

pub returns-clause-count : goal.returns-clause-count
returns-clause-count g c =
    let made = made-pool c.in_ok-owns.owns.items c.in_ok-owns-2.owns.items c.in_ok-owns-2.rounds.items c.in_ok-owns-2.ensures in
    ok-at c.hands_of.result (λ hands. hands.items) (paired c.in_ok-owns-2.owns.items c.in_ok-owns-2.rounds.items) (λ hs. length hs ≡ c.args.workers) c.hands_of.ensures (made.1 ∙ c.in_ok-owns.ensures.count)

pub returns-clause-put : goal.returns-clause-put
returns-clause-put g c =
    let made = made-pool c.in_ok-owns.owns.items c.in_ok-owns-2.owns.items c.in_ok-owns-2.rounds.items c.in_ok-owns-2.ensures in
    ok-at c.hands_of.result (λ hands. hands.items) (paired c.in_ok-owns-2.owns.items c.in_ok-owns-2.rounds.items) (λ hs. all_put hs ≡ []) c.hands_of.ensures (made.2)

pub returns-clause-taken : goal.returns-clause-taken
returns-clause-taken g c =
    let made = made-pool c.in_ok-owns.owns.items c.in_ok-owns-2.owns.items c.in_ok-owns-2.rounds.items c.in_ok-owns-2.ensures in
    ok-at c.hands_of.result (λ hands. hands.items) (paired c.in_ok-owns-2.owns.items c.in_ok-owns-2.rounds.items) (λ hs. all_taken hs ≡ []) c.hands_of.ensures (made.3)
