-- The starts of spans, each with the latest reader from there on, as a step function of the keys (this project).
use Rattle.std.specs.Prelude.{ℕ, List, [], ◌∷◌, Bool, not, cond, ◌≤◌}
use Rattle.spans.specs.KeyOrder.{key_lt}

-- the value of the last entry before the first whose key isn't reached: d where there is none
abbrev pub step_at : {K V : Type 0} → (K → Bool) → V → List (K × V) → V
step_at reached d [] = d
step_at reached d (e ∷ es) = cond (reached e.0) (step_at reached e.1 es) d

-- the start is not above the key
abbrev pub reaches : List ℕ → List ℕ → Bool
reaches x start = not (key_lt x start)

-- each reader fits 64 bits
abbrev pub AreLow : List (List ℕ × ℕ) → Type 0
AreLow es = (x : List ℕ) → step_at (reaches x) 0 es ≤ 18446744073709551615
