-- A run's list of events grows at its end.
use Rattle.std.proofs.Common.{◌≡◌, ℕ, List, [], ◌∷◌, ◌++◌, map, refl, ap}
use Rattle.engine.proofs.Common.{Cmd, Event}
use Rattle.engine.specs.Engine.{call_of}

-- the call of one more event was the next of those to come
pub calls_more : (es : List Event) (e : Event) (rest : List (ℕ × Cmd)) → map call_of (es ++ e ∷ []) ++ rest ≡ map call_of es ++ call_of e ∷ rest
calls_more [] e rest = refl
calls_more (x ∷ xs) e rest = ap (λ calls. call_of x ∷ calls) (calls_more xs e rest)
