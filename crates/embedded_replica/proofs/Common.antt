-- The words that the proofs take from below.
pub use Rattle.replica.specs.Starts.{Pairs, Start}
pub use Rattle.replica.specs.declared.replica.Replica.{Replica}
pub use Rattle.text_format.specs.declared.Format.TheVariants.{Two}
pub use Rattle.word_lines.specs.Reading.{Fails, command_at}
