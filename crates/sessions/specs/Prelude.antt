-- The words that clauses and specifications take from below.
pub use Rattle.script.specs.EventLines.{is_newline}
pub use Rattle.script.specs.Scripts.{IsCall, script_at, script_text}
pub use Rattle.script.specs.Transcripts.{transcript_text}
pub use Rattle.sessions.specs.declared.ending.ServeEnd.{ServeEnd}
pub use Rattle.sessions.specs.declared.output.Output.{Output}
pub use Rattle.shared_db.specs.Seats.{IsOf, IsReason, RingInRange, SeatsInRange, first_of, seat_count}
pub use Rattle.shared_db.specs.declared.config.Config.{Config}
pub use Rattle.shared_db.specs.declared.served.Served.{Served}
pub use Rattle.spans.specs.declared.calls.events.Event.{Event}
pub use Rattle.std.specs.List.{All, flat_map}
pub use Rattle.text_format.specs.Limits.{header, line_limit}
pub use Rattle.text_format.specs.declared.Format.{Format}
pub use Rattle.ticket_lock.specs.Lists.{StartsWith, longer, most}
pub use Rattle.ticket_lock.specs.Seats.{met_spent, mine, number, seen}
pub use Rattle.ticket_lock.specs.declared.chronicle.Chronicle.{Ghosts}
pub use Rattle.ticket_lock.specs.declared.lock.Seat.{Seat}
pub use Rattle.word_lines.specs.Events.{command_line, event_text, fault_line, spent_line}
