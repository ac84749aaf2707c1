-- The words that the proofs take from below.
pub use Rattle.spans.proofs.Keyed.{IsIn, RisingKeys}
pub use Rattle.spans.proofs.Steps.{by_test, newest_only, same_key}
pub use Rattle.spans.proofs.StreamOrder.{IsRowIn, RisingRows, in_append, rises_append, rises_parts}
pub use Rattle.spans.proofs.WriteSets.{has, has_in}
pub use Rattle.spans.specs.Effects.{After}
pub use Rattle.spans.specs.Keys.{in_span}
pub use Rattle.spans.specs.Streams.{row_lt}
pub use Rattle.spans.specs.declared.span.Span.{Span}
pub use Rattle.std.proofs.lemmas.Bool.{and_from, and_parts, both_ways, false_from_ne_true, le-leb, leb-true, lt-ltb, ltb-true}
pub use Rattle.std.proofs.lemmas.Grind.{common_steps}
pub use Rattle.std.proofs.lemmas.List.{length-append, length_push}
pub use Rattle.std.proofs.lemmas.Map.Text.{is_eq-slice_cmp}
pub use Rattle.std.specs.Map.{keys_of}
pub use Rattle.std.specs.Option.{option_copied}
pub use Rattle.timestamps.specs.declared.row.Row.{Row}
pub use Rattle.version_chain.proofs.InSpans.{chain_among, chain_nowhere, rises_filtered}
pub use Rattle.version_chain.proofs.Order.{after_trans, before_itself, before_neither, before_trans}
pub use Rattle.version_chain.specs.Stores.{Entry, chain_in, chain_of, found_in, has_versions, IsNewestIn, Stored, after_of, is_committed, is_committed_in, version_in}
pub use Rattle.version_chain.specs.Walking.{IsLeft, IsStep, IsToCome, Walk, is_after_place, is_before}
pub use Rattle.version_chain.specs.Versions.{IsNewestOf, IsNoneUpTo, version_of}
pub use Rattle.version_chain.specs.declared.chain.Version.{Version}
