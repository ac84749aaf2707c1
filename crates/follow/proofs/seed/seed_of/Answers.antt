use Rattle.std.proofs.Common.{rules, inr}
use Rattle.follow.proofs.seed.seed_of.Goals as goal

pub returns-in-Err-copied-clause-refused : goal.returns-in-Err-copied-clause-refused
returns-in-Err-copied-clause-refused c = inr ((c.in_ok-span.span, c.in_ok-span.cursor, c.in_ok-span.rows), search rules)
