-- The words that the specifications take from below.
pub use Rattle.shared_db.specs.Seats.{IsOf, first_of, seat_count}
pub use Rattle.shared_db.specs.declared.db.Db.{Db}
pub use Rattle.spans.specs.Legal.{IsGapless}
pub use Rattle.spans.specs.declared.calls.commands.Cmd.{Cmd}
pub use Rattle.spans.specs.declared.calls.events.Event.{Event}
pub use Rattle.ticket_lock.specs.Lists.{StartsWith, most, of_seat}
pub use Rattle.ticket_lock.specs.Seats.{IsSame, mine, number, seen}
pub use Rattle.trace_check.specs.Traces.{IsTrace}
