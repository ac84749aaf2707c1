use Rattle.std.proofs.Common.{arith}
use Rattle.plain_database.proofs.Common.{common_steps, eqb-true, same_key}
use Rattle.plain_database.specs.Table.{writing}
use Rattle.plain_database.proofs.TableSteps.{lookup_changed}
use Rattle.plain_database.proofs.VersionsTies.{lookup_inserted}
use Rattle.plain_database.proofs.versions.store.VersionStore.write.Goals as goal

pub invariant_of-self-2 : goal.invariant_of-self-2
invariant_of-self-2 c x t = grind (arith, common_steps, eqb-true c.args.ts t, same_key c.args.key.now x, lookup_changed (writing c.args.key.now c.args.after) c.self.inside.table c.args.ts t, lookup_inserted, c.in_ok-add.ensures.keeps x t, c.self.invariant x t)
