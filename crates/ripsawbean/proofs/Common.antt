-- The words that the proofs take from below.
pub use Rattle.embedded.specs.Dumping.{IsPiece}
pub use Rattle.embedded.specs.declared.database.Database.{Database}
pub use Rattle.embedded_replica.specs.Consumers.{IsUnopened, replica_of}
pub use Rattle.embedded_replica.specs.declared.consumer.Consumer.{Consumer}
pub use Rattle.spans.specs.Effects.{effects_of}
pub use Rattle.std.proofs.BoxSteps.Steps.{box_in, box_out}
pub use Rattle.std.proofs.alloc.Calls.{Al, Goes-blank, handle_tells}
pub use Rattle.std.proofs.impls.GlobalAllocator.TheImpl.Met.{passed}
pub use Rattle.std.proofs.raw_atomic.Walks.{proved_at}
pub use Rattle.std.specs.Box.Ownership.{box_owns}
pub use Rattle.std.specs.contracts.impls.GlobalAllocator.TheImpl.{dict, ghosts}
