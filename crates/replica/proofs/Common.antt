-- The words that the proofs take from below.
pub use Rattle.spans.proofs.Complete.{complete_is, high_rows, low_rows, low_then_high, ready_view, split_list, told_low}
pub use Rattle.spans.proofs.Feeding.{fed, feed_rises, feeding, resolved_join}
pub use Rattle.spans.proofs.Floors.{all_above_floor, floor_join, row_near_floor, taken_after, taken_before}
pub use Rattle.spans.proofs.Keyed.{IsIn, RisingKeys, among_rows, key_clash, pair_among}
pub use Rattle.spans.proofs.Sets.{one_less, one_more}
pub use Rattle.spans.proofs.Steps.{by_test, key_itself, same_key}
pub use Rattle.spans.proofs.Viewing.{by_rows, by_rows_join, list_views, streamed, view_rows, views}
pub use Rattle.spans.specs.Completeness.{AllAbove, CompleteIsRight, GoesOn, complete_after, complete_for, is_new, is_row_of, ready_after, seen_after}
pub use Rattle.spans.specs.Consumer.{AllTaken, ApplyFault, ConsumerIsRight, apply_fault, is_after, last_row, reaches, seed_of, view_of}
pub use Rattle.spans.specs.Effects.{Effect, effects_of}
pub use Rattle.spans.specs.FeedRight.{FeedIsRight}
pub use Rattle.spans.specs.Feeds.{Feed, feed_of, last_resolved, list_of, rows_in, start_of, told_to}
pub use Rattle.spans.specs.Keys.{AreRows, IsPairIn, KeysRise, in_span, value_among}
pub use Rattle.spans.specs.Serial.{Map, map_at, put, span_part}
pub use Rattle.spans.specs.declared.calls.messages.Message.{Message}
pub use Rattle.spans.specs.declared.span.Span.{Span}
pub use Rattle.std.proofs.lemmas.Bool.{both_ways, false_from_ne_true, ltb-true, or_cases, or_left, or_right}
pub use Rattle.std.proofs.lemmas.Grind.{common_steps}
pub use Rattle.std.proofs.lemmas.List.{append-nil, nil_from_length}
pub use Rattle.std.specs.BTreeMap.{BTreeMap, is_at}
pub use Rattle.std.specs.BTreeSet.{BTreeSet}
pub use Rattle.std.specs.List.{AllByRecursion, list_all, list_any}
pub use Rattle.std.specs.Map.{keys_of, lookup}
pub use Rattle.std.specs.declared.cmp.Ordering.TheVariants.{Less}
pub use Rattle.timestamps.specs.Bytes.{key_cmp}
pub use Rattle.timestamps.specs.declared.row.Row.{Row}
