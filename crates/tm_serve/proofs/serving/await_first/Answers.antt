-- What the pass knew it has seen, and goes on from.
use Rattle.tm_publish.specs.Words.{known}
use Rattle.tm_serve.proofs.serving.await_first.Goals as goal

pub returns-clause-begins : goal.returns-clause-begins
returns-clause-begins g c =
    c.seen-2.ensures.begins (known c.args.pass.now) (c.await_query.ensures.knows (known c.args.pass.now) c.seen.ensures.known)
