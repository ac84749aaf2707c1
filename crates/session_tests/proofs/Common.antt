-- The words that the proofs take from below.
pub use Rattle.shared_db.specs.Seats.{IsOf}
pub use Rattle.std.proofs.lemmas.List.Elements.{All-push, All-rest, All-same}
pub use Rattle.std.specs.Vec.Iter.{into_iter_items}
