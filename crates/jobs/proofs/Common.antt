-- The words that the proofs take from below.
pub use Rattle.dump_lines.specs.Lines.{lines_of}
pub use Rattle.restarts.specs.Dump.{commands_by_row, left_rows, row_commands}
pub use Rattle.script.specs.Transcripts.{Fault, Transcript, nothing_left}
pub use Rattle.std.proofs.lemmas.Result.{err_from_is_err_and}
pub use Rattle.trace_check.specs.Traces.{Dumps, Reports, StandsFor, TakesNext}
pub use Rattle.trace_check.specs.declared.checker.Checker.{Checker}
