-- The order of keys, byte by byte, what the bounds of a span ask, and where the keys above a bound begin.
use Rattle.std.specs.Prelude.{ℕ, List, Bool, true, not, Option, Some, None, [], ◌++◌, ◌∷◌, suc, ◌≡◌, ◌≤◌, length, take, nat_le, if◌then◌else◌}
use Rattle.std.specs.Ordering.{is_lt}
use Rattle.std.specs.declared.ops.Bound.{Bound}
use Rattle.std.specs.declared.ops.Bound.TheVariants.{Included, Excluded, Unbounded}
use Rattle.timestamps.specs.Bytes.{key_cmp}
use Rattle.timestamps.specs.declared.key.TheConstants.{MAX_KEY_BYTES}
use Rattle.spans.specs.declared.bound.BoundBytes.{BoundBytes}
use Rattle.spans.specs.declared.bound.BoundBytes.TheVariants.{Short, Long}

abbrev pub key_lt : List ℕ → List ℕ → Bool
key_lt x y = is_lt (key_cmp x y)

-- the key is at or above the lower bound
abbrev pub from_low : Option (List ℕ) → List ℕ → Bool
from_low None x = true
from_low (Some low) x = not (key_lt x low)

-- the key is below the upper bound
abbrev pub below_high : Option (List ℕ) → List ℕ → Bool
below_high None x = true
below_high (Some high) x = key_lt x high

-- the key and one zero byte
abbrev pub successor : List ℕ → List ℕ
successor x = x ++ 0 ∷ []

-- where keys at or above the bound begin: a key is at or above one that is longer than a key may be exactly where it is above
-- as many bytes of it as a key may have
abbrev pub start_of : Option (List ℕ) → Bound (List ℕ)
start_of None = Unbounded
start_of (Some low) = if nat_le (length low) MAX_KEY_BYTES then Included low else Excluded (take MAX_KEY_BYTES low)

-- the bytes of a bound
abbrev pub all_bytes : BoundBytes → List ℕ
all_bytes (Short key) = key
all_bytes (Long long) = long.value.all

-- they are as many as a key may have, or one more
abbrev pub IsCut : BoundBytes → Type 0
IsCut (Short key) = (1 ≤ length key) × (length key ≤ MAX_KEY_BYTES)
IsCut (Long long) = (length long.value.all ≡ suc MAX_KEY_BYTES) × (long.value.first ≡ take MAX_KEY_BYTES long.value.all)
