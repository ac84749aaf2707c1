-- What the calls of several lines at once tell the program (this project's own).
use Rattle.std.specs.Prelude.{ℕ, List, ◌≡◌, Option, Some, None, Result}
use Rattle.ripsawbean.specs.Prelude.{CallError, Database, Event, StandsFor}
use Rattle.embedded.specs.Several.{HaveBeenCalled}
use Rattle.embedded.specs.declared.several.Done.{Done}
use Rattle.embedded.specs.declared.several.Taken.{Taken}
use Rattle.ripsawbean.specs.Exports.{outcome_number}

-- the lines were called on the handle's database, by an outcome that has the number; a closed handle stays closed
abbrev pub Called : List ℕ → (most : ℕ) → Option Database → (out out' : List ℕ) → (notes notes' : List Done) → Taken → ℕ → Option Database → Type 0
Called lines most (Some old) out out' notes notes' taken number (Some new) =
    (result : Result (Unit {0}) CallError) × (number ≡ outcome_number result)
    × ((h : List Event) → StandsFor old h → HaveBeenCalled most h lines old out out' notes notes' taken result new)
Called lines most (Some old) out out' notes notes' taken number None = ⊥
Called lines most None out out' notes notes' taken number new =
    (number ≡ 16) × (new ≡ None) × (out' ≡ out) × (notes' ≡ notes) × (taken ≡ record { lines = 0; bytes = 0; length = 0 })
