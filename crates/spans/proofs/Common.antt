-- The words that the proofs take from below.
pub use Rattle.std.proofs.Math.Bool.{and-false}
pub use Rattle.std.proofs.lemmas.Bool.{and_from, and_parts, both_ways, cond_both, eq-eqb, eqb-true, false_from_ne_true, le-leb, leb-false, leb-true, lt-ltb, ltb-false, ltb-true, not-false, not-true, or_cases, or_left, or_parts, or_right}
pub use Rattle.std.proofs.lemmas.Bool.Decides.{nat_tests}
pub use Rattle.std.proofs.lemmas.Cmp.{nat_cmp_total, nat_list_cmp_total, tied_itself}
pub use Rattle.std.proofs.lemmas.Grind.{common_steps}
pub use Rattle.std.proofs.lemmas.List.{append-nil, at_drop_all, length-take, length-take-le, reverse-append}
pub use Rattle.std.proofs.lemmas.List.Elements.{All-append, All-cons, All-filter, All-head, All-nil, All-tail, All-weaker, filter-append, filter_map-append}
pub use Rattle.std.proofs.lemmas.Map.Lookups.{exact_bytes}
pub use Rattle.std.proofs.lemmas.Map.Text.{is_eq-slice_cmp}
pub use Rattle.std.specs.BTreeMap.Range.{is_from_start, range_contains}
pub use Rattle.std.specs.List.{AllByRecursion, list_any}
unfoldable pub use Rattle.std.specs.List.Sorted.{IsStrictlySortedBy}
pub use Rattle.std.specs.Ordering.{is_eq, is_le, is_lt, match_ordering, nat_cmp, ordering_index, ordering_reverse, ordering_then}
pub use Rattle.std.specs.declared.cmp.Ordering.{Ordering}
pub use Rattle.std.specs.declared.cmp.Ordering.TheVariants.{Equal, Greater, Less}
pub use Rattle.timestamps.specs.Bytes.{key_cmp}
pub use Rattle.timestamps.specs.declared.key.TheConstants.{MAX_KEY_BYTES}
pub use Rattle.timestamps.specs.declared.row.Row.{Row}
