-- Bytes, wherever they lie.
use Rattle.std.specs.Prelude.{ℕ, List, ◌<◌, length}
use Rattle.timestamps.specs.declared.few_bytes.TheConstants.{FEW}
use Rattle.timestamps.specs.declared.small_bytes.Place.{Place}
use Rattle.timestamps.specs.declared.small_bytes.Place.TheVariants.{Few, Many}

abbrev pub bytes_in : Place → List ℕ
bytes_in (Few few) = few
bytes_in (Many many) = many.items

-- only bytes that are too many to lie in place take memory
abbrev pub IsPlaced : Place → Type 0
IsPlaced (Few few) = Unit {0}
IsPlaced (Many many) = FEW < length many.items
