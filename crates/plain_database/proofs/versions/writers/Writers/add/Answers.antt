use Rattle.std.proofs.Common.{arith}
use Rattle.plain_database.proofs.Common.{common_steps, is_eq-slice_cmp, same_key}
use Rattle.plain_database.proofs.versions.writers.Writers.add.Goals as goal

pub returns-in_err-insert-clause-keeps : goal.returns-in_err-insert-clause-keeps
returns-in_err-insert-clause-keeps c x i = grind (arith, common_steps, same_key c.in_ok-key.key x, is_eq-slice_cmp c.in_ok-key.key x, (c.in_ok-self-inside.ensures.update.0 c.insert.new.self).0 x, c.in_err-insert.ensures.err, c.or_insert_with-writers.ensures.value, c.in_ok-self-inside.ensures.value)

pub returns-clause-keeps : goal.returns-clause-keeps
returns-clause-keeps c x i = grind (arith, common_steps, same_key c.in_ok-key.key x, is_eq-slice_cmp c.in_ok-key.key x, (c.in_ok-self-inside.ensures.update.0 c.insert.new.self).0 x, c.in_ok-insert.ensures.updates.0 i, c.or_insert_with-writers.ensures.value, c.in_ok-self-inside.ensures.value)
