-- The words that the proofs take from below.
pub use Rattle.std.proofs.Math.Seq.{drop-append_seam, drop-nil, take-append_seam, take-length, take-suc}
pub use Rattle.std.proofs.lemmas.Bool.{cases_lt}
pub use Rattle.std.proofs.lemmas.List.{ext_get_or, get_or-drop, get_or-take, get_or_past, length-drop, length-take, take-append-drop}
pub use Rattle.std.proofs.lemmas.List.Elements.{All-contains, Contains-append_cases, Contains-get_or}
pub use Rattle.std.proofs.lemmas.List.Sums.{get_or-le-sum_by, sum_by-append, sum_by-cons}
pub use Rattle.std.proofs.lemmas.Slice.Eq.{bytes_eq-Decides}
pub use Rattle.std.specs.List.{All, Contains, count_by, flat_map, slice_index, sum_by}
pub use Rattle.std.specs.List.Sorted.{IsStrictlyIncreasing}
