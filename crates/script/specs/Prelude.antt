-- The words that clauses and specifications take from below.
pub use Rattle.json_lines.specs.Messages.{IsMessage, message_line}
pub use Rattle.script.specs.declared.fault.TranscriptError.{TranscriptError}
pub use Rattle.script.specs.declared.reply_reading.Shape.{Shape}
pub use Rattle.script.specs.declared.reply_table.Kind.{Kind}
pub use Rattle.spans.specs.declared.calls.events.Event.{Event}
pub use Rattle.spans.specs.declared.calls.messages.Message.{Message}
pub use Rattle.spans.specs.declared.calls.replies.Reply.{Reply}
pub use Rattle.spelled_words.specs.Reading.{has_long, is_long}
pub use Rattle.spelled_words.specs.declared.fault.LineFault.{LineFault}
pub use Rattle.spelled_words.specs.declared.fault.LineFault.TheVariants.{Follow, WordCount}
pub use Rattle.spelled_words.specs.declared.fault.ReadError.{ReadError}
pub use Rattle.spelled_words.specs.declared.fault.ReadError.TheVariants.{NoMemory}
pub use Rattle.std.specs.List.{flat_map, list_all, list_any, slice_split}
pub use Rattle.text_format.specs.Limits.{format_of, header, header_lines, key_limit, value_limit}
pub use Rattle.text_format.specs.declared.Format.{Format}
pub use Rattle.word_lines.specs.Events.{command_line, event_text}
pub use Rattle.word_lines.specs.Limits.{IsCommand, IsEvent, KeepsLimit}
pub use Rattle.word_lines.specs.Reading.{Gives, Takes, WantsMemory, arguments_at, byte_words, byte_words_at, command_at, key_at, number_at, row_at, session_at, value_at, word_at}
pub use Rattle.word_lines.specs.Table.{table}
pub use Rattle.word_lines.specs.Words.{text_at, words_at}
