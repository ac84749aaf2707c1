-- The words that the proofs take from below.
pub use Rattle.std.specs.List.{flat_map}
