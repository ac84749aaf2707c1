use Rattle.std.proofs.Common.{◌≡◌, ℕ, false, List, Option, Some, None, refl, sym, ◌∙◌}
use Rattle.std.specs.Prelude.{is_some}
use Rattle.ripsawbean.proofs.Common.{Consumer, replica_of}
use Rattle.embedded_replica.specs.declared.consumer.SeedingError.TheVariants.{NoMemory}
use Rattle.embedded_replica.specs.Consumers.{IsUnseeded}
use Rattle.embedded_replica.proofs.Seeding.{begins_wants}
use Rattle.ripsawbean.specs.ReplicaExports.{Begun}
use Rattle.ripsawbean.proofs.beginning.ripsawbean_replica_begin.Goals as goal

-- a closed handle stays closed where there is no memory
stays_closed : (line rows : List ℕ) (old new : Option Consumer) → is_some old ≡ false → new ≡ old → IsUnseeded line rows NoMemory → Begun line rows old 12 new
stays_closed line rows None new closed same wants = (same, NoMemory, wants, refl)
stays_closed line rows (Some d) new closed same wants = absurd cc

pub returns-in_default-clause-begun : goal.returns-in_default-clause-begun
returns-in_default-clause-begun c =
    stays_closed c.args.line.now c.args.rows.now c.args.handle.now.consumer c.is_open.new.self.consumer (sym c.is_open.ensures.0 ∙ c.if-is_open.false) c.is_open.ensures.1
    (begins_wants c.args.line.now c.args.rows.now (replica_of c.in-Ok.consumer) c.in-Ok.ensures.ok)

pub returns-in_default-clause-memory : goal.returns-in_default-clause-memory
returns-in_default-clause-memory c = λ is. begins_wants c.args.line.now c.args.rows.now (replica_of c.in-Ok.consumer) c.in-Ok.ensures.ok
