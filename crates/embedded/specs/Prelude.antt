-- The words that clauses and specifications take from below.
pub use Rattle.dump_lines.specs.Lines.{close_text, end_text, lines_of, row_text}
pub use Rattle.embedded.specs.declared.database.CallError.{CallError}
pub use Rattle.embedded.specs.declared.database.Database.{Database}
pub use Rattle.engine.specs.Looking.{ArePlaces, feed_floor, left_after, value_version}
pub use Rattle.engine.specs.Room.{IsOwnPoll, is_long, poll_count, scan_end, up_to}
pub use Rattle.json_lines.specs.Messages.{Copied}
pub use Rattle.restarts.specs.Dump.{dump_commands, mark_of, row_commands}
pub use Rattle.spans.specs.Collection.{horizon_of}
pub use Rattle.spans.specs.Effects.{Effect, effects_of}
pub use Rattle.spans.specs.KeyOrder.{successor}
pub use Rattle.spans.specs.Report.{IsReport, limit_in, limit_of}
pub use Rattle.spans.specs.declared.calls.commands.Cmd.{Cmd}
pub use Rattle.spans.specs.declared.calls.events.Event.{Event}
pub use Rattle.spans.specs.declared.report.FeedReport.{FeedReport}
pub use Rattle.spans.specs.declared.report.Report.{Report}
pub use Rattle.spans.specs.declared.report.TransactionReport.{TransactionReport}
pub use Rattle.spans.specs.declared.span.Span.{Span}
pub use Rattle.std.specs.Int.{to_le_bytes, w16, w32, w64}
pub use Rattle.std.specs.List.{concat, flat_map}
pub use Rattle.text_format.specs.declared.Format.TheVariants.{Two}
pub use Rattle.timestamps.specs.declared.row.Row.{Row}
pub use Rattle.word_lines.specs.Events.{command_line, event_text}
pub use Rattle.word_lines.specs.Reading.{WantsMemory, byte_words_at, command_at}
pub use Rattle.word_lines.specs.Table.{table}
