-- Byte strings: their order, byte by byte, and as numbers of eight bytes, the first the greatest digit.
use Rattle.std.specs.Prelude.{ℕ, List, zero, suc, [], ◌∷◌, ◌+◌, ◌*◌, ◌≡◌, ◌<◌, ◌≤◌, get_or}
use Rattle.std.specs.Ordering.{nat_cmp}
use Rattle.std.specs.declared.cmp.Ordering.{Ordering}
use Rattle.std.specs.Cmp.Lexicographic.{slice_cmp}

-- how two keys, or two bounds, compare
abbrev pub key_cmp : List ℕ → List ℕ → Ordering
key_cmp = slice_cmp nat_cmp

-- numbers of one byte
abbrev pub AreBytes : List ℕ → Type 0
AreBytes xs = (k : ℕ) → get_or xs k 0 < 256

-- n bytes after the number `above`, the greatest first: zeros stand for those that are missing
abbrev pub front_from : (n above : ℕ) → List ℕ → ℕ
front_from zero above xs = above
front_from (suc n) above [] = front_from n (above * 256) []
front_from (suc n) above (x ∷ xs) = front_from n (above * 256 + x) xs

-- the first word of some bytes
abbrev pub front_of : List ℕ → ℕ
front_of xs = front_from 8 0 xs

-- so many of them are a text, and zeros stand behind it
pub record IsPadded (len : ℕ) (bytes : List ℕ) : Type 0 where
  pub within : len ≤ 24
  pub are_bytes : AreBytes bytes
  pub zeros : (k : ℕ) → len ≤ k → get_or bytes k 0 ≡ 0
