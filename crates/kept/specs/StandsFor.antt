-- What is kept stands for a legal history.
use Rattle.std.specs.Prelude.{List, None, [], false, ℕ, ◌∷◌, ◌≡◌}
use Rattle.kept.specs.Prelude.{Event, IsKeptOf, IsLegal, Kept, effects_of, Cmd, Effect, IsRightEvent, Reply, answer_of, effect_of, event}

-- the history, its newest event first, is legal, and k is what is kept of it
pub record StandsFor (k : Kept) (h : List Event) : Type 0 where
  pub legal : IsLegal h
  pub fits : IsKeptOf k (effects_of h)

-- what is kept at first
abbrev pub nothing_kept : Kept
nothing_kept = record {
  closed = 0;
  horizon = 0;
  version = λ x t. None;
  committed = λ x t. false;
  marked = λ x t. false;
  transaction = λ t. None;
  protections = [];
  protections_made = 0;
  feed = λ f. None;
  feeds_opened = 0;
}

-- keys with their values
abbrev pub Pairs : Type 0
Pairs = List (List ℕ × List ℕ)

-- after each history that k stands for, this is the answer to the seat's command
abbrev pub Answers : Kept → ℕ → Cmd → Reply → Type 0
Answers k seat cmd reply = (h : List Event) → StandsFor k h → reply ≡ answer_of (effects_of h) seat cmd

-- where k stands for a history and an event with this effect is right after it, k' stands for both
abbrev pub LeadsTo : Kept → Effect → Kept → Type 0
LeadsTo k d k' = (h : List Event) (e : Event) → StandsFor k h → IsRightEvent (effects_of h) e → effect_of e ≡ d → StandsFor k' (e ∷ h)

-- where k stands for a history, k' stands for it with this reply to the seat's command, whatever its position
abbrev pub LeadsOn : Kept → ℕ → Cmd → Reply → Kept → Type 0
LeadsOn k seat cmd reply k' = (h : List Event) (n : ℕ) → StandsFor k h → StandsFor k' (event n seat cmd reply ∷ h)
