-- What a table of keys is seen as, and how numbers by key are tied to keys by number.
use Rattle.std.specs.Prelude.{ℕ, List, Option, Some, ◌≡◌, if◌then◌else◌, bytes_eq, ◌↔◌}
use Rattle.std.specs.Map.{lookup}
use Rattle.std.specs.BTreeMap.{is_at, BTreeMap, get}
use Rattle.timestamps.specs.Bytes.{key_cmp}
use Rattle.slab.specs.Slab.{Slab}
use Rattle.slab.specs.Slab as slab

-- keys, each with its number
abbrev pub Numbered : Type 0
Numbered = List (List ℕ × ℕ)

-- the number of x
abbrev pub number_in : Numbered → List ℕ → Option ℕ
number_in ns x = lookup (is_at (key_cmp x)) ns

-- no key but x has the number n
abbrev pub IsOwn : Numbered → List ℕ → ℕ → Type 0
IsOwn ns x n = (y : List ℕ) → number_in ns y ≡ Some n → y ≡ x

-- no two keys have the same number
abbrev pub AreApart : Numbered → Type 0
AreApart ns = (x y : List ℕ) (n : ℕ) → number_in ns x ≡ Some n → number_in ns y ≡ Some n → x ≡ y

-- x has the number n, or none, and any other key has what it had
abbrev pub IsNumberedAt : Numbered → Numbered → List ℕ → Option ℕ → Type 0
IsNumberedAt ns ms x n = (y : List ℕ) → number_in ms y ≡ (if bytes_eq x y then n else number_in ns y)

-- x has the number n exactly where it stands at n
abbrev pub AreTied : BTreeMap (List ℕ) ℕ → Slab (List ℕ) → Type 0
AreTied numbers keys = (x : List ℕ) (n : ℕ) → (get key_cmp numbers x ≡ Some n) ↔ (slab.get keys n ≡ Some x)
