-- The words that the proofs take from below.
pub use Rattle.script.proofs.ScriptLines.{script_again, script_behind}
pub use Rattle.script.specs.EventLines.{is_newline, lines_of}
unfoldable pub use Rattle.script.specs.Scripts.{script_of_lines}
pub use Rattle.script.specs.Scripts.{IsCall, Script, above, call_line, script_at, script_text}
pub use Rattle.script.specs.Transcripts.{events_text, transcript_text}
pub use Rattle.shared_db.specs.Calls.{IsAnswered}
pub use Rattle.shared_db.specs.Seats.{RingInRange, SeatsInRange, AllNew, IsOf, first_of}
pub use Rattle.shared_db.specs.declared.config.Config.{Config}
pub use Rattle.shared_db.specs.declared.db.Db.{Db}
pub use Rattle.shared_db.specs.declared.served.Served.{Served}
pub use Rattle.spans.specs.declared.calls.commands.Cmd.{Cmd}
pub use Rattle.spans.specs.declared.calls.events.Event.{Event}
pub use Rattle.spelled_words.specs.declared.fault.LineFault.{LineFault}
pub use Rattle.std.proofs.Math.Seq.{drop-cons, take-append-add, take-append_seam, take-length}
pub use Rattle.std.proofs.lemmas.Bool.{eqb-false, false_from_ne_true, le-ltb, lt-ltb}
pub use Rattle.std.proofs.lemmas.List.{drop-drop, drop-take, length-append, length-set, length-take, length-take-le, nil_from_length, take-append-drop, take-append-le, take-take}
pub use Rattle.std.proofs.lemmas.List.Sums.{fails_before_first, position_or_len_is, sum_by-cons}
pub use Rattle.std.proofs.lemmas.Result.{IfErr-weaker, IfOk-weaker, err_from_is_err_and}
pub use Rattle.std.specs.List.{All, position_or_len, sum_by}
pub use Rattle.text_format.specs.Limits.{header, line_limit}
pub use Rattle.text_format.specs.declared.Format.{Format}
pub use Rattle.ticket_lock.proofs.ListFacts.{each_read, each_set, same_sum, set_there, starts_length, sum_set}
pub use Rattle.ticket_lock.specs.Lists.{StartsWith, longer, most}
pub use Rattle.ticket_lock.specs.Seats.{IsSame, mine, seen, IsSpent}
pub use Rattle.ticket_lock.specs.declared.chronicle.Chronicle.{Ghosts}
pub use Rattle.ticket_lock.specs.declared.lock.Seat.{Seat}
pub use Rattle.word_lines.specs.Events.{command_line, event_text, fault_line, spent_line}
pub use Rattle.word_lines.specs.Reading.{WantsMemory, byte_words_at}
unfoldable pub use Rattle.word_lines.specs.Reading.{command_at}
pub use Rattle.word_lines.specs.Table.{table}
unfoldable pub use Rattle.word_lines.specs.Words.{text_at}
pub use Rattle.word_lines.specs.Words.{has_newline, without_newline}
