-- The words that the proofs take from below.
pub use Rattle.atomic_table.proofs.Lists.{at_index, at_longer, at_map, at_set, at_snoc, set_else}
pub use Rattle.atomic_table.specs.Table.{Act, Allows, Enters, Final, Joins, Me, Seen, Splits, State, Valid, carried_after, gives, homes_after, keeps, opening, rest, step, stepped, takes}
pub use Rattle.std.proofs.lemmas.Bool.{cases_lt, lt-ltb, ltb-true}
pub use Rattle.std.proofs.lemmas.List.{length-map, nil_from_length}
pub use Rattle.std.proofs.lemmas.List.Sums.{sum_by-append, sum_by-cons}
pub use Rattle.std.specs.List.{sum_by}
