-- The words that the proofs take from below.
pub use Rattle.kept.specs.Marks.{AtMost, IsBetween, IsPiece, until}
pub use Rattle.key_table.specs.Numbers.{AreApart, IsNumberedAt, IsOwn, Numbered, number_in}
pub use Rattle.read_marks.specs.Readers.{has_room, is_kept, is_reader, readers_of}
pub use Rattle.read_marks.specs.Spans.{latest_in}
pub use Rattle.read_marks.specs.declared.span_marks.SpanMarks.{SpanMarks}
pub use Rattle.spans.proofs.KeyOrder.{not_itself, starts_at, starts_before, stays_above}
pub use Rattle.spans.proofs.Keyed.{IsIn, RisingKeys, filter_in}
pub use Rattle.spans.proofs.Members.{AreDistinct, Has, distinct_filter, has_filter, has_is, in_has, rising_distinct, same_length}
pub use Rattle.spans.proofs.Results.{any_err}
pub use Rattle.spans.proofs.Steps.{by_test, key_itself, newest_fewer, newest_is, newest_only, newest_reaches, newest_rises, same_key}
pub use Rattle.spans.proofs.WriteSets.{has, has_added, has_filtered, has_in}
pub use Rattle.spans.specs.Collection.{VersionName, is_delete, version_name}
pub use Rattle.spans.specs.Effects.{After}
pub use Rattle.spans.specs.Kept.{IsCrossed}
pub use Rattle.spans.specs.KeyOrder.{below_high, from_low, key_lt, start_of}
pub use Rattle.spans.specs.Keys.{in_span, insert_key}
pub use Rattle.spans.specs.Versions.{newest}
pub use Rattle.spans.specs.declared.span.Span.{Span}
pub use Rattle.std.proofs.Math.Bool.{and-false, and-true, or-false}
pub use Rattle.std.proofs.Math.Seq.{map-set_same}
pub use Rattle.std.proofs.lemmas.Bool.{and_from, and_left, and_parts, and_right, both_ways, cases_lt, eq-eqb, eqb-false, eqb-true, false_from_ne_true, le-leb, le-ltb, lt-ltb, ltb-true, ne_eqb, or_cases, or_from, or_left, or_right}
pub use Rattle.std.proofs.lemmas.Bool.Decides.{nat_tests}
pub use Rattle.std.proofs.lemmas.Cmp.{nat_list_cmp_total, ranked, tied_itself}
pub use Rattle.std.proofs.lemmas.Grind.{common_steps}
pub use Rattle.std.proofs.lemmas.List.{get_or-append_right, get_or-map, get_or-set_other, get_or-set_same, get_or_append_left, get_or_default, length-map, length-set, map-set, nil_from_length, set-append_left, set-append_right, set_split, take-set, take_more, take_more_set}
pub use Rattle.std.proofs.lemmas.List.Edits.{insert-append_left, insert-append_right, length-insert, length-remove, remove-append_left, remove-append_right}
pub use Rattle.std.proofs.lemmas.List.Filters.{length-filter_both}
pub use Rattle.std.proofs.lemmas.Map.Text.{is_eq-slice_cmp}
pub use Rattle.std.specs.BTreeMap.{BTreeMap, is_at}
pub use Rattle.std.specs.BTreeMap.Range.{range_contains}
pub use Rattle.std.specs.List.{AllByRecursion, filter, insert, remove}
unfoldable pub use Rattle.std.specs.List.Sorted.{IsStrictlySortedBy}
pub use Rattle.std.specs.List.Sorted.{IsPartitionPoint, IsPartitionedBy}
pub use Rattle.std.specs.Map.{keys_of, lookup}
pub use Rattle.std.specs.Option.{option_copied}
pub use Rattle.std.specs.Ordering.{is_eq, is_lt, nat_cmp, ordering_reverse}
pub use Rattle.std.specs.declared.cmp.Ordering.TheVariants.{Equal, Greater, Less}
pub use Rattle.std.specs.declared.ops.Bound.TheVariants.{Excluded, Included, Unbounded}
pub use Rattle.timestamps.specs.Bytes.{key_cmp}
