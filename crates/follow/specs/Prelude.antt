-- The words that clauses and specifications take from below.
pub use Rattle.follow.specs.declared.ending.FollowEnd.{FollowEnd}
pub use Rattle.follow.specs.declared.fault.FollowError.{FollowError}
pub use Rattle.follow.specs.declared.fault.FollowFault.{FollowFault}
pub use Rattle.follow.specs.declared.options.FollowOptions.{FollowOptions}
pub use Rattle.json_lines.specs.declared.fault.MessageFault.{MessageFault}
pub use Rattle.replica.specs.Replicas.{Follows, view_in}
pub use Rattle.replica.specs.Rows.{AreRowsOf}
pub use Rattle.replica.specs.Starts.{IsSeedFault, MayBegin, Start, initial_start, seeded_start}
pub use Rattle.script.specs.EventLines.{is_newline, lines_of}
pub use Rattle.sessions.specs.Devices.{GoesInBlocks, HasBegun, HasTaken, Reads, Writes, pending_of}
pub use Rattle.sessions.specs.Waiting.{IsNextLine, format_of, has_ended, waiting}
pub use Rattle.spans.specs.Completeness.{ready_after}
pub use Rattle.spans.specs.Consumer.{ApplyFault, apply_fault, view_of}
pub use Rattle.spans.specs.Keys.{IsPairIn, insert_key}
pub use Rattle.spans.specs.Serial.{Map, put}
pub use Rattle.spans.specs.declared.calls.messages.Message.{Message}
pub use Rattle.spans.specs.declared.span.Span.{Span}
pub use Rattle.spelled_words.specs.declared.fault.LineFault.{LineFault}
pub use Rattle.text_format.specs.declared.Format.{Format}
pub use Rattle.word_lines.specs.Events.{joined, row_line, spent_line}
pub use Rattle.word_lines.specs.Reading.{Gives, bound_at}
pub use Rattle.word_lines.specs.Words.{has_newline, text_at, words_at}
unfoldable pub use Rattle.word_lines.specs.Words.{spelling}
