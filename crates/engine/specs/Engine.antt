-- What an engine stands for, and a run's calls.
use Rattle.std.specs.Prelude.{List, ℕ, ◌≡◌}
use Rattle.engine.specs.Prelude.{Event, closed_in, closed_of, closing_of, effects_of, Cmd}
use Rattle.engine.specs.declared.Engine.{Engine}
use Rattle.engine.specs.Layers as layers

-- how many commands were answered
abbrev pub steps_of : Engine → ℕ
steps_of e = e.steps

abbrev pub closed_timestamp : Engine → ℕ
closed_timestamp e = closed_in (closing_of e.layers.rules)

-- the engine holds what is kept of a legal history, whose newest event stands first
abbrev pub StandsFor : Engine → List Event → Type 0
StandsFor e h = layers.StandsFor e.layers e.steps h

-- the closed timestamp is that of the history
pub closed_timestamp_is : (e : Engine) (h : List Event) → StandsFor e h → closed_timestamp e ≡ closed_of (effects_of h)
closed_timestamp_is e h stands = stands.kept.fits.closed_at

-- the seat and the command of an event
abbrev pub call_of : Event → ℕ × Cmd
call_of e = (e.seat, e.cmd)
