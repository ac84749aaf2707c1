-- What an engine under the lock stands for. The lock's lists have the oldest event first, and the
-- histories of the definitions the newest.
use Rattle.std.specs.Prelude.{ℕ, List, reverse}
use Rattle.shared_db.specs.Prelude.{Engine, Event, IsGapless, closed_of, effects_of}
use Rattle.engine.specs.Engine as engines

-- the engine stands for the events, the oldest first, and their positions run from first on
pub record StandsFor (engine : Engine) (first : ℕ) (events : List Event) : Type 0 where
  pub history : engines.StandsFor engine (reverse events)
  pub gapless : IsGapless first events

-- the timestamp that the events, the oldest first, leave closed
abbrev pub closed_after : List Event → ℕ
closed_after events = closed_of (effects_of (reverse events))
