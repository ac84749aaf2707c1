-- A line that begins a consumer with rows is one that may want memory.
use Rattle.std.proofs.Common.{ℕ, List, inr}
use Rattle.embedded_replica.proofs.Common.{Replica}
use Rattle.embedded_replica.specs.declared.consumer.SeedingError.TheVariants as errors
use Rattle.embedded_replica.specs.Consumers.{BeginsWith, IsUnseeded}

pub begins_wants : (line rows : List ℕ) (r : Replica) → BeginsWith line rows r → IsUnseeded line rows errors.NoMemory
begins_wants line rows r begins = inr (record { seat = begins.seat; command = begins.command; read = begins.read; why = ((begins.begins.span, begins.begins.cursor), begins.begins.opens) })
