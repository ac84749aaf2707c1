-- The words that the proofs take from below.
pub use Rattle.std.proofs.lemmas.Bool.{cases_Bool, eqb-false, eqb-true, le-leb, leb-true, ltb-false, ltb-true, ne_eqb}
pub use Rattle.std.proofs.lemmas.Grind.{common_steps}
pub use Rattle.std.proofs.lemmas.List.{append-nil, at_drop_all, at_drop_more, length-drop, nil_from_length, take_all}
pub use Rattle.std.specs.List.{flat_map, list_all, list_any, onto_first, position_or_len}
