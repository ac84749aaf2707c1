use Rattle.std.proofs.Common.{◌≡◌, ℕ, false, List, Option, Some, None, refl, sym, ◌∙◌}
use Rattle.std.specs.Prelude.{is_some}
use Rattle.ripsawbean.proofs.Common.{Consumer, IsUnopened, replica_of}
use Rattle.embedded_replica.specs.declared.consumer.BeginError.TheVariants.{NoMemory}
use Rattle.embedded_replica.proofs.Opening.{begins_wants}
use Rattle.ripsawbean.specs.ReplicaExports.{Opened}
use Rattle.ripsawbean.proofs.replicas.ripsawbean_replica_open.Goals as goal

-- a closed handle stays closed where there is no memory
stays_closed : (line : List ℕ) (old new : Option Consumer) → is_some old ≡ false → new ≡ old → IsUnopened line NoMemory → Opened line old 12 new
stays_closed line None new closed same wants = (same, NoMemory, wants, refl)
stays_closed line (Some d) new closed same wants = absurd cc

pub returns-in_default-clause-opened : goal.returns-in_default-clause-opened
returns-in_default-clause-opened c =
    stays_closed c.args.line.now c.args.handle.now.consumer c.is_open.new.self.consumer (sym c.is_open.ensures.0 ∙ c.if-is_open.false) c.is_open.ensures.1
    (begins_wants c.args.line.now (replica_of c.in-Ok.consumer) c.in-Ok.ensures.ok)

pub returns-in_default-clause-memory : goal.returns-in_default-clause-memory
returns-in_default-clause-memory c = λ is. begins_wants c.args.line.now (replica_of c.in-Ok.consumer) c.in-Ok.ensures.ok
