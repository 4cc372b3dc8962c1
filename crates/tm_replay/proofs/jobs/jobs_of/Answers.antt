use Rattle.std.proofs.Common.{rules, ◌≡◌, List, ◌∷◌, [], map, refl, sym, ap, ◌∙◌, subst}
use Rattle.std.specs.List.{AllByRecursion}
use Rattle.std.proofs.lemmas.Iterator.Adapters.{YieldsList-from_vec}
use Rattle.std.proofs.lemmas.Iterator.Consumers.{YieldsList-end}
use Rattle.tm_seat.specs.Parts.{IsWorking}
use Rattle.tm_replay.proofs.Beginning.{given-none}
use Rattle.tm_replay.proofs.jobs.jobs_of.Goals as goal

pub loop-part-init : goal.loop-part-init
loop-part-init g c = given-none (λ job. job.part) (λ job. job.pass) c.args.front.now c.args.passes.items c.from-left.result.items c.new-jobs.result.items c.from-left.ensures.0 c.new-jobs.ensures.items

pub loop-part-preserved : goal.loop-part-preserved
loop-part-preserved g c = c.in_ok-add_job.ensures c.loop-part.yielded c.args.passes.items c.loop-part.invariant

map_same : {A : Type 0} (xs : List A) → map (λ y. y) xs ≡ xs
map_same [] = refl
map_same (x ∷ xs) = ap (λ ys. x ∷ ys) (map_same xs)

pub returns-clause-starts : goal.returns-clause-starts
returns-clause-starts g c start fresh of waits =
    let runs = YieldsList-end (YieldsList-from_vec c.args.parts.items (search rules) (search rules)) c.loop-part.yielded c.loop-part.part-iterator c.loop-part.yielded_by c.next.result c.next.new.self c.in-None.is c.next.ensures.steps in
    let all : c.loop-part.yielded ≡ c.args.parts.items = sym (map_same c.loop-part.yielded) ∙ runs.0 in
    c.loop-part.invariant.starts start fresh of (subst (AllByRecursion IsWorking) (sym all) waits)
