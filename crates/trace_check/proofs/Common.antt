-- The words that the proofs take from below.
pub use Rattle.plain_database.specs.Tied.{StandsFor}
pub use Rattle.spans.proofs.Histories.{gapless_more, turned_more, wanting_does_nothing}
pub use Rattle.spans.specs.Effects.{effect, effects_of}
pub use Rattle.spans.specs.Legal.{IsGapless, IsLegal, IsRightEvent, is_accepted, may_lack_memory}
pub use Rattle.spans.specs.declared.calls.events.Event.{Event}
