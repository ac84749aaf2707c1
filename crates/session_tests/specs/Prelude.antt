-- The words that the specifications take from below.
pub use Rattle.races.specs.Racing.{IsIdle}
pub use Rattle.shared_db.specs.Seats.{AllNew, IsOf}
