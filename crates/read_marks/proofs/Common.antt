-- The words that the proofs take from below.
pub use Rattle.kept.specs.Marks.{AtMost, IsBetween, IsPiece}
pub use Rattle.spans.proofs.Steps.{by_test, key_itself, none_of, same_key}
pub use Rattle.spans.proofs.WriteSets.{has, has_filtered}
pub use Rattle.spans.specs.Keys.{in_span}
pub use Rattle.std.proofs.Math.Bool.{and_self_left, not-not}
pub use Rattle.std.proofs.lemmas.Bool.{and_parts, eqb-true, le-leb, le-ltb, lt-leb, or_right}
pub use Rattle.std.proofs.lemmas.Grind.{common_steps}
pub use Rattle.std.proofs.lemmas.List.{drop-set-lt, get_or-append_right, get_or-drop, get_or_append_left, get_or_default, length-set, nil_from_length, take_more, take_more_set}
pub use Rattle.std.proofs.lemmas.Map.Made.{is_member-Decides, is_member-filter}
pub use Rattle.std.proofs.lemmas.Result.{on_err_weaker, on_ok_weaker}
pub use Rattle.std.specs.BTreeMap.{IsOrdered, insert_entry, is_at}
pub use Rattle.std.specs.Cmp.{IsTotalOrder, alike_right, nat_eq_equiv, unsigned_Decides}
pub use Rattle.std.specs.Cmp.Lexicographic.{nat_list_cmp_total}
pub use Rattle.std.specs.List.{AllByRecursion, Contains, filter, insert, refill}
unfoldable pub use Rattle.std.specs.List.Sorted.{IsStrictlySortedBy}
pub use Rattle.std.specs.List.Sorted.{IsNonDecreasing}
pub use Rattle.std.specs.Map.{keys_of, lookup, remove_entry, set_value}
pub use Rattle.std.specs.Ordering.{is_eq, is_le, is_lt, match_ordering, ordering_reverse}
pub use Rattle.std.specs.declared.cmp.Ordering.{Ordering}
pub use Rattle.std.specs.declared.cmp.Ordering.TheVariants.{Equal, Greater, Less}
pub use Rattle.timestamps.specs.Bytes.{key_cmp}
