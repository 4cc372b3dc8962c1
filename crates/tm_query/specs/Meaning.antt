-- What each call does: the definitions that runs speak of too. This file alone says where they
-- stand.
pub use Rattle.tm_rules.specs.Queries.{Standing, Queries, no_queries, numbered, first_unanswered, answer_coded, answer_fault, with_answer, closed}
unfoldable pub use Rattle.tm_rules.specs.Queries.{first_query, answer_of, ask, answer, attach, detach}
pub use Rattle.tm_legal.specs.Play.{unanswered}
