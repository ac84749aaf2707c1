-- The words that clauses and specifications take from below.
pub use Rattle.spans.specs.declared.calls.commands.Cmd.{Cmd}
pub use Rattle.spans.specs.declared.calls.events.Event.{Event}
pub use Rattle.spans.specs.declared.calls.replies.Refusal.{Refusal}
pub use Rattle.spans.specs.declared.calls.replies.Reply.{Reply}
pub use Rattle.spans.specs.declared.span.Span.{Span}
pub use Rattle.spelled_words.specs.Reading.{is_long}
pub use Rattle.spelled_words.specs.declared.fault.LineFault.{LineFault}
pub use Rattle.std.specs.List.{AllByRecursion, flat_map, join_with_byte, list_any}
pub use Rattle.text_format.specs.declared.Format.{Format}
pub use Rattle.word_lines.specs.declared.table.Form.{Form}
pub use Rattle.word_lines.specs.declared.table.Verb.{Verb}
