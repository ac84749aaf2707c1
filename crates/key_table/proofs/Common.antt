-- The words that the proofs take from below.
pub use Rattle.slab.specs.Slab.{Slab}
pub use Rattle.std.specs.BTreeMap.{BTreeMap, get, is_at}
pub use Rattle.timestamps.specs.Bytes.{key_cmp}
