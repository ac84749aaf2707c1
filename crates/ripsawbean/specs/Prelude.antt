-- The words that clauses and specifications take from below.
pub use Rattle.embedded.specs.Embedded.{HasLast, HasStepped, IsUnwritten, StandsFor, last_of, text_of}
pub use Rattle.embedded.specs.Typed.{HasBulk, answer_of, bytes_of, command_within, is_read, numbers, record_of}
pub use Rattle.embedded.specs.declared.bounded.Bounded.{Bounded}
pub use Rattle.embedded.specs.declared.database.CallError.{CallError}
pub use Rattle.embedded.specs.declared.database.CallError.TheVariants.{Fault, NoMemory, Spent, Unwritten}
pub use Rattle.embedded.specs.declared.database.Database.{Database}
pub use Rattle.embedded.specs.declared.dumping.DumpPiece.{DumpPiece}
pub use Rattle.embedded_replica.specs.Consumers.{AreKey, Begins, BeginsWith, HasTaken, IsNoKey, IsNoMessage, IsReady, IsRefused, IsUnopened, IsUnseeded, ShowsRows, replica_of}
pub use Rattle.embedded_replica.specs.declared.consumer.Consumer.{Consumer}
pub use Rattle.json_lines.specs.Messages.{Copied}
pub use Rattle.ripsawbean.specs.declared.typed.Unfit.{Unfit}
pub use Rattle.spans.specs.Effects.{effects_of}
pub use Rattle.spans.specs.declared.calls.commands.Cmd.{Cmd}
pub use Rattle.spans.specs.declared.calls.events.Event.{Event}
pub use Rattle.word_lines.specs.Faults.{code_of}
