-- The keys of a set, of which the least lies in place.
use Rattle.std.specs.Prelude.{ℕ, List, [], ◌∷◌, ◌≡◌, Option, Some, None, if◌then◌else◌}
use Rattle.spans.proofs.Keyed.{RisingKeys}
use Rattle.spans.specs.KeyOrder.{key_lt}

-- the key in place, where there is one, and then the others
abbrev pub keys_in : Option (List ℕ) → List (List ℕ) → List (List ℕ)
keys_in None others = others
keys_in (Some least) others = least ∷ others

-- all keys rise, and none lies elsewhere where none lies in place
abbrev pub AreInOrder : Option (List ℕ) → List (List ℕ) → Type 0
AreInOrder None others = others ≡ []
AreInOrder (Some least) others = RisingKeys (least ∷ others)

-- the key in place, where it is above x
abbrev pub first_above : List ℕ → Option (List ℕ) → Option (List ℕ)
first_above x None = None
first_above x (Some least) = if key_lt x least then Some least else None
