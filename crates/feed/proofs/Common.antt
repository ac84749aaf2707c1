-- The words that the proofs take from below.
pub use Rattle.catch_up.specs.Rows.{AreNextFirsts, is_past, AreNextIn}
pub use Rattle.indexmap.specs.IndexMap.{get}
pub use Rattle.kept.specs.Places.{IsLeastFloor, moved, place_floor}
pub use Rattle.kept.specs.Reports.{AreLive, feed_report}
pub use Rattle.spans.proofs.Lists.{take_again, take_both, take_few}
pub use Rattle.spans.proofs.Members.{AreDistinct, Has}
pub use Rattle.spans.proofs.Steps.{by_test}
pub use Rattle.spans.specs.Collection.{VersionName}
pub use Rattle.spans.specs.Consumer.{is_after_name, name_lt, name_of}
pub use Rattle.spans.specs.Feeds.{last_resolved, start_at}
pub use Rattle.spans.specs.Kept.{Kept, Place, last_name}
pub use Rattle.spans.specs.declared.calls.messages.Message.{Message}
pub use Rattle.spans.specs.declared.span.Span.{Span}
pub use Rattle.std.proofs.lemmas.Bool.{and_from, and_parts, both_ways, eq-eqb, eqb-true, lt-ltb, ltb-true, or_left}
pub use Rattle.std.proofs.lemmas.Bool.Decides.{nat_tests}
pub use Rattle.std.proofs.lemmas.List.{append-nil, length-take, take-map, take_more}
pub use Rattle.std.proofs.lemmas.Result.{IfOk-weaker}
pub use Rattle.std.specs.BTreeMap.{is_at}
pub use Rattle.std.specs.BTreeSet.{BTreeSet, contains}
unfoldable pub use Rattle.std.specs.List.{IsDistinct}
pub use Rattle.std.specs.List.{AllByRecursion, cons_option, list_any}
pub use Rattle.std.specs.List.Sorted.{IsPermutation, IsSorted, IsStrictlyIncreasing}
pub use Rattle.std.specs.Map.{keys_of, lookup}
pub use Rattle.std.specs.Option.{option_copied}
pub use Rattle.std.specs.Ordering.{is_gt, nat_cmp}
pub use Rattle.timestamps.specs.declared.row.Row.{Row}
pub use Rattle.version_chain.specs.Stores.{Stored, is_committed_in, version_in}
