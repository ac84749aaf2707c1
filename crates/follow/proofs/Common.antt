-- The words that the proofs take from below.
pub use Rattle.json_lines.specs.Messages.{AreBytes, IsAfter, IsMessage, base64, message_line, symbols}
unfoldable pub use Rattle.json_lines.specs.Tests.{after_at, meant_by, message_at, resolved_in, row_in, texts_in}
pub use Rattle.json_lines.specs.Tests.{tree_of}
pub use Rattle.json_lines.specs.declared.fault.MessageFault.{MessageFault}
pub use Rattle.replica.specs.Replicas.{Follows, IsFaultAt, Takes, test_of, view_in}
pub use Rattle.replica.specs.Rows.{AreRowsOf, IsCountOf}
pub use Rattle.replica.specs.Starts.{resolved_at}
unfoldable pub use Rattle.script.specs.EventLines.{lines_of}
pub use Rattle.script.specs.EventLines.{is_newline}
pub use Rattle.sessions.specs.Devices.{Reads, Writes, HasBegun, HasTaken, pending_of}
pub use Rattle.sessions.specs.Waiting.{HasReadOn, IsSought, IsLine, format_of, has_ended, waiting}
pub use Rattle.sessions.specs.declared.lines.Lines.{Lines}
pub use Rattle.spans.specs.Consumer.{ApplyFault, apply_fault, view_of}
pub use Rattle.spans.specs.Keys.{IsPairIn, KeysRise}
pub use Rattle.spans.specs.Serial.{Map}
pub use Rattle.spans.specs.declared.calls.messages.Message.{Message}
pub use Rattle.std.proofs.lemmas.List.{length-take-le, take-append-drop}
pub use Rattle.std.proofs.lemmas.Result.{IfErr-weaker, err_from_is_err_and, on_ok_weaker}
pub use Rattle.std.specs.List.{flat_map, list_all}
pub use Rattle.text_format.specs.declared.Format.{Format}
pub use Rattle.word_lines.specs.Events.{row_line}
unfoldable pub use Rattle.word_lines.specs.Words.{text_at}
pub use Rattle.word_lines.specs.Words.{has_newline, without_newline}
