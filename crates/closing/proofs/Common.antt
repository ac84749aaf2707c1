-- The words that the proofs take from below.
pub use Rattle.spans.proofs.Steps.{by_test}
pub use Rattle.spans.specs.Collection.{Protection}
pub use Rattle.spans.specs.Report.{protection_report}
pub use Rattle.std.proofs.lemmas.Bool.{and_parts, eq-eqb, eqb-true}
pub use Rattle.std.proofs.lemmas.Bool.Decides.{nat_tests}
pub use Rattle.std.proofs.lemmas.Grind.{common_steps}
pub use Rattle.std.proofs.lemmas.List.{append-nil, map-append, reverse-append}
pub use Rattle.std.specs.BTreeMap.{get, insert_entry, is_at}
pub use Rattle.std.specs.BTreeSet.{contains}
pub use Rattle.std.specs.List.{AllByRecursion, list_any}
unfoldable pub use Rattle.std.specs.List.Sorted.{IsStrictlySortedBy}
pub use Rattle.std.specs.Map.{keys_of, lookup, remove_entry}
pub use Rattle.std.specs.Ordering.{is_eq, is_gt, nat_cmp}
pub use Rattle.std.specs.declared.cmp.Ordering.TheVariants.{Greater, Less}
