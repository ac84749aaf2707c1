-- What an engine that stands for a history says of it. This file alone looks into what `StandsFor` is made of: all other
-- specs and proofs of this crate go through `legal_of`, `steps_are` and `closed_is`.
use Rattle.std.specs.Prelude.{◌≡◌, List, length}
use Rattle.shared_db.specs.Prelude.{Engine, Event, IsLegal, StandsFor, closed_of, closed_timestamp, closed_timestamp_is, effects_of, steps_of}

-- the history is legal
pub legal_of : (engine : Engine) (h : List Event) → StandsFor engine h → IsLegal h
legal_of engine h stands = stands.kept.legal

-- each event was a step
pub steps_are : (engine : Engine) (h : List Event) → StandsFor engine h → steps_of engine ≡ length h
steps_are engine h stands = stands.counted

-- the engine's closed timestamp is that of the history
pub closed_is : (engine : Engine) (h : List Event) → StandsFor engine h → closed_timestamp engine ≡ closed_of (effects_of h)
closed_is engine h stands = closed_timestamp_is engine h stands
