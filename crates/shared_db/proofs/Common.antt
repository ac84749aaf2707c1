-- The words that the proofs take from below.
pub use Rattle.engine.specs.Engine.{closed_timestamp}
pub use Rattle.engine.specs.declared.Engine.{Engine}
pub use Rattle.spans.specs.declared.calls.events.Event.{Event}
pub use Rattle.std.proofs.lemmas.List.{append_cancel_left, append_cancel_right, length-reverse}
pub use Rattle.ticket_lock.specs.Lists.{of_seat}
pub use Rattle.ticket_lock.specs.Seats.{IsSame, KeepsTurn, found, known, met_spent, mine, number, seen}
pub use Rattle.ticket_lock.specs.declared.chronicle.Chronicle.{Ghosts}
pub use Rattle.ticket_lock.specs.declared.lock.Seat.{Seat}
