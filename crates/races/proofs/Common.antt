-- The words that the proofs take from below.
pub use Rattle.engine.specs.declared.Engine.{Engine}
pub use Rattle.shared_db.specs.Seats.{AllNew, AllOf, IsOf, first_of}
pub use Rattle.shared_db.specs.declared.db.Db.{Db}
pub use Rattle.spans.specs.Legal.{IsGapless, IsLegal}
pub use Rattle.spans.specs.declared.calls.commands.Cmd.{Cmd}
pub use Rattle.spans.specs.declared.calls.events.Event.{Event}
pub use Rattle.std.proofs.lemmas.List.{get_or_default, length-map, length-take-le, take-append-drop}
pub use Rattle.std.proofs.lemmas.List.Elements.{All-push, All-rest, All-same}
pub use Rattle.std.proofs.lemmas.List.Sorted.{IsNonDecreasingBy-from_sort_by_key, sum_by-IsPermutation}
pub use Rattle.std.proofs.lemmas.List.Sums.{sum_by-cons}
pub use Rattle.std.specs.List.Sorted.{IsNonDecreasingBy}
pub use Rattle.std.specs.Vec.Iter.{into_iter_items, into_iter_len}
pub use Rattle.ticket_lock.proofs.ListFacts.{each_read, each_set}
pub use Rattle.ticket_lock.specs.Lists.{most, of_seat}
pub use Rattle.ticket_lock.specs.Seats.{IsSame, mine, number}
pub use Rattle.trace_check.proofs.TraceSteps.{gapless_from_first}
