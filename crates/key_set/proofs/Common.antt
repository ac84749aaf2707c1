-- The words that the proofs take from below.
pub use Rattle.spans.proofs.Keyed.{IsIn, RisingKeys, add_rises, filter_rises}
pub use Rattle.spans.proofs.Results.{any_err}
pub use Rattle.spans.proofs.Sets.{all_within, put_is}
pub use Rattle.spans.proofs.WriteSets.{has, has_in}
pub use Rattle.spans.specs.KeyOrder.{key_lt}
pub use Rattle.spans.specs.Keys.{insert_key}
pub use Rattle.std.specs.List.Retain.{IsFiltered}
pub use Rattle.std.specs.Set.{remove_key}
pub use Rattle.timestamps.specs.Bytes.{key_cmp}
