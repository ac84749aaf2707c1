-- A line by which a replica begins is one that may want memory.
use Rattle.std.proofs.Common.{◌≡◌, ℕ, List, Option, Some, None, refl, inr}
use Rattle.std.specs.Prelude.{option_and_then}
use Rattle.embedded_replica.proofs.Common.{Replica, Start}
use Rattle.embedded_replica.specs.declared.consumer.Opening.{Opening}
use Rattle.embedded_replica.specs.declared.consumer.BeginError.TheVariants.{NoMemory}
use Rattle.embedded_replica.specs.Consumers.{opening_of, start_at, Begins, IsUnopened}

some_opening : (o : Option Opening) (start : Start) → option_and_then start_at o ≡ Some start → (q : Opening) × (o ≡ Some q)
some_opening None start e = absurd cc
some_opening (Some q) start e = (q, refl)

pub begins_wants : (line : List ℕ) (r : Replica) → Begins line r → IsUnopened line NoMemory
begins_wants line r begins = inr (begins.seat, begins.command, begins.read, some_opening (opening_of begins.command) begins.begins.0 begins.begins.1)
