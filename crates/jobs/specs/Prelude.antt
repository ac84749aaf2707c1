-- The words that clauses and specifications take from below.
pub use Rattle.dump_lines.specs.Lines.{lines_of}
pub use Rattle.jobs.specs.declared.ending.End.{End}
pub use Rattle.restarts.specs.Dump.{dump_commands, mark_of, row_commands}
pub use Rattle.script.specs.Transcripts.{Fails, Fault, outcome, transcript_at, transcript_text}
pub use Rattle.sessions.specs.Devices.{EndsOnce, HasBegun, Reads, Writes}
pub use Rattle.shared_db.specs.declared.config.Config.{Config}
pub use Rattle.spans.specs.Effects.{effects_of}
pub use Rattle.spans.specs.declared.calls.events.Event.{Event}
pub use Rattle.text_format.specs.Limits.{format_of, header}
pub use Rattle.text_format.specs.declared.Format.{Format}
pub use Rattle.trace_check.specs.Traces.{IsFirstWrong, IsTrace, StandsFor}
pub use Rattle.word_lines.specs.Events.{fault_line}
