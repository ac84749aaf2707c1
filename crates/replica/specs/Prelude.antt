-- The words that clauses and specifications take from below.
pub use Rattle.spans.proofs.Keyed.{IsIn, RisingKeys}
pub use Rattle.spans.specs.Completeness.{AllAbove, GoesOn, complete_after, ready_after}
pub use Rattle.spans.specs.Consumer.{AllTaken, ApplyFault, apply_fault, last_row, seed_of, view_of}
pub use Rattle.spans.specs.Effects.{Effect, effects_of, kind_of}
pub use Rattle.spans.specs.Feeds.{Feed, feed_of, last_resolved, start_at, start_of, told_to}
pub use Rattle.spans.specs.KeyOrder.{key_lt}
pub use Rattle.spans.specs.Keys.{AreRows, IsPairIn, KeysRise, in_span, value_among}
pub use Rattle.spans.specs.Serial.{Map, map_at, put, span_part}
pub use Rattle.spans.specs.declared.calls.messages.Message.{Message}
pub use Rattle.spans.specs.declared.span.Span.{Span}
pub use Rattle.std.specs.BTreeMap.{is_at}
pub use Rattle.std.specs.Map.{lookup}
pub use Rattle.timestamps.specs.Bytes.{key_cmp}
pub use Rattle.timestamps.specs.declared.row.Row.{Row}
