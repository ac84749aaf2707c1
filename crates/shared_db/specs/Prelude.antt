-- The words that clauses and specifications take from below.
pub use Rattle.engine.specs.Engine.{StandsFor, closed_timestamp, closed_timestamp_is, steps_of}
pub use Rattle.engine.specs.declared.Engine.{Engine}
pub use Rattle.shared_db.specs.declared.db.Db.{Db}
pub use Rattle.shared_db.specs.declared.served.Served.{Served}
pub use Rattle.spans.specs.Effects.{effect_of, effects_of}
pub use Rattle.spans.specs.Legal.{IsGapless, IsLegal}
pub use Rattle.spans.specs.Transactions.{closed_of}
pub use Rattle.spans.specs.declared.calls.commands.Cmd.{Cmd}
pub use Rattle.spans.specs.declared.calls.events.Event.{Event}
pub use Rattle.std.specs.List.{All}
pub use Rattle.ticket_lock.specs.Lists.{StartsWith, longer, most, of_seat}
pub use Rattle.ticket_lock.specs.Seats.{IsBusy, IsPartOf, IsSpent, found, known, met_spent, mine, number, raised, seen, ticket}
pub use Rattle.ticket_lock.specs.declared.chronicle.Chronicle.{Ghosts}
pub use Rattle.ticket_lock.specs.declared.lock.Seat.{Seat}
