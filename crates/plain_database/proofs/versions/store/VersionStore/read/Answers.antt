use Rattle.std.proofs.Common.{arith}
use Rattle.plain_database.proofs.Common.{common_steps}
use Rattle.plain_database.proofs.TableSteps.{lookup_changed}
use Rattle.plain_database.proofs.versions.store.VersionStore.read.Goals as goal

pub invariant_of-self : goal.invariant_of-self
invariant_of-self c x t = grind (arith, common_steps, lookup_changed, c.self.invariant x t)
