-- The words that the proofs take from below.
pub use Rattle.dump_lines.specs.Lines.{close_text, end_text, lines_of, row_command, row_text}
pub use Rattle.engine.specs.Looking.{first_row, next_left, IsReached, value_version}
pub use Rattle.restarts.specs.Dump.{mark_of}
pub use Rattle.spans.proofs.Steps.{by_test}
pub use Rattle.spans.specs.Collection.{horizon_of}
pub use Rattle.spans.specs.Effects.{Effect, effects_of, event}
pub use Rattle.spans.specs.Legal.{IsGapless, IsRightEvent}
pub use Rattle.spans.specs.declared.calls.commands.Cmd.{Cmd}
pub use Rattle.spans.specs.declared.calls.commands.Cmd.TheVariants.{Begin, Close, Collect, Get, ReadAt, Scan, ScanAt}
pub use Rattle.spans.specs.declared.calls.events.Event.{Event}
pub use Rattle.spans.specs.declared.calls.messages.Message.{Message}
pub use Rattle.spans.specs.declared.calls.replies.Reply.{Reply}
pub use Rattle.spans.specs.declared.calls.replies.Reply.TheVariants.{Found, Messages, Refused}
pub use Rattle.std.proofs.lemmas.Bool.{both_ways, false_from_ne_true, le-ltb, leb-true, lt-ltb, ltb-true}
pub use Rattle.std.proofs.lemmas.Bool.Decides.{nat_tests}
pub use Rattle.std.proofs.lemmas.List.{append-nil, drop_all, drop_at, drop_more, length-map, length-reverse, length-take-le, length_push, map_push, reverse-append, set_at, take-append-drop, take_all, take_at, take_more, take_rest}
pub use Rattle.std.proofs.lemmas.List.Concat.{flat_map-append}
pub use Rattle.std.proofs.lemmas.Result.{IfOk-weaker}
pub use Rattle.std.specs.List.{AllByRecursion, concat, flat_map}
pub use Rattle.text_format.specs.declared.Format.TheVariants.{Two}
pub use Rattle.timestamps.specs.declared.row.Row.{Row}
pub use Rattle.word_lines.specs.Events.{command_line}
pub use Rattle.word_lines.specs.Reading.{command_at}
pub use Rattle.word_lines.specs.Table.{table}
