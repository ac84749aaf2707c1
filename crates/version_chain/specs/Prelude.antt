-- The words that the specifications take from below.
pub use Rattle.kept.specs.Finding.{IsNextAbove, AreThose, IsNumberOf}
pub use Rattle.kept.specs.Marks.{IsPiece, until}
pub use Rattle.key_table.specs.Numbers.{AreApart, IsOwn, Numbered, number_in}
pub use Rattle.read_marks.specs.Readers.{has_room, is_kept, is_reader, readers_of}
pub use Rattle.read_marks.specs.Spans.{latest_in, reaches, step_at}
pub use Rattle.spans.proofs.Keyed.{IsIn, RisingKeys}
pub use Rattle.spans.proofs.WriteSets.{has}
pub use Rattle.spans.specs.Collection.{VersionName, is_delete}
pub use Rattle.spans.specs.Effects.{After}
pub use Rattle.spans.specs.Kept.{IsCrossed}
pub use Rattle.spans.specs.KeyOrder.{below_high, from_low, key_lt}
pub use Rattle.spans.specs.Keys.{in_span}
pub use Rattle.spans.specs.Versions.{newest}
pub use Rattle.spans.specs.declared.span.Span.{Span}
pub use Rattle.std.specs.BTreeMap.{is_at}
pub use Rattle.std.specs.Borrow.{Bor}
pub use Rattle.std.specs.List.{filter, list_any}
pub use Rattle.std.specs.Map.{keys_of, lookup}
pub use Rattle.timestamps.specs.Bytes.{key_cmp}
pub use Rattle.timestamps.specs.declared.key.TheConstants.{MAX_KEY_BYTES}
