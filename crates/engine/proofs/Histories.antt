-- What follows from a history for what is held.
use Rattle.std.proofs.Common.{List, ap, arith, inl, inr, sym, true≢false, ℕ, ◌+◌, ◌<◌, ◌≡◌, ◌∙◌, ◌∷◌}
use Rattle.std.proofs.Math.Logic.{∥∥₁_elim, ∥∥₁_map}
use Rattle.std.proofs.Props.{props}
use Rattle.engine.proofs.Common.{Cmd, Event, IsStep, Reply, effect_count, effects_of, event, made_at_most, opened_at_most, opened_in}
use Rattle.engine.specs.Layers.{HasHistory, StandsFor, kept_of}
use Rattle.engine.specs.Prelude.{Collect, answer_of}
use Rattle.kept.proofs.Answering.{reply_is_answer, step_stands}
use Rattle.kept.specs.Answered.{takes_memory}
use Rattle.engine.specs.declared.layers.Layers.{Layers}

pub has_room : (e : Layers) (steps : ℕ) → ∥ HasHistory e steps ∥₁ → steps < 18446744073709551615 → (kept_of e).protections_made < 18446744073709551615
has_room e steps some low = ∥∥₁_elim some (hlevel props) (λ h. omega (arith, made_at_most (effects_of h.0), effect_count h.0, h.1.counted, h.1.kept.fits.made))

pub has_number : (e : Layers) (steps : ℕ) → ∥ HasHistory e steps ∥₁ → steps < 18446744073709551615 → opened_in e.feeds < 18446744073709551615
has_number e steps some low = ∥∥₁_elim some (hlevel props) (λ h. omega (arith, opened_at_most (effects_of h.0), effect_count h.0, h.1.counted, h.1.kept.fits.opened))

-- a step leads on
pub history_step : (e e' : Layers) (steps : ℕ) (h : List Event) (n seat : ℕ) (cmd : Cmd) (r : Reply) → StandsFor e steps h → IsStep (kept_of e) (kept_of e') seat cmd r → StandsFor e' (steps + 1) (event n seat cmd r ∷ h)
history_step e e' steps h n seat cmd r is step = record {
  kept = step_stands (kept_of e) (kept_of e') h n seat cmd r is.kept step;
  counted = omega (arith, is.counted);
}

pub goes_on : (e e' : Layers) (steps seat : ℕ) (cmd : Cmd) (r : Reply) → IsStep (kept_of e) (kept_of e') seat cmd r → ∥ HasHistory e steps ∥₁ → ∥ HasHistory e' (steps + 1) ∥₁
goes_on e e' steps seat cmd r step some = ∥∥₁_map some (λ h. (event 0 seat cmd r ∷ h.0, history_step e e' steps h.0 0 seat cmd r h.1 step))

-- a collection wants no memory, so its reply is the answer
pub collect_answered : (e e' : Layers) (steps : ℕ) (h : List Event) (seat to : ℕ) (cmd : Cmd) (r : Reply) → StandsFor e steps h → cmd ≡ Collect to → IsStep (kept_of e) (kept_of e') seat cmd r → r ≡ answer_of (effects_of h) seat cmd
collect_answered e e' steps h seat to cmd r is collects step = elim step [
  | inl answered ↦ reply_is_answer (kept_of e) h seat cmd r is.kept answered.right
  | inr wanting ↦ absurd (true≢false (sym wanting.1.may ∙ ap takes_memory collects))
]
