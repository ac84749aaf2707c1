-- Base64 group by group.
use Rattle.json_lines.proofs.Common.{and_parts, common_steps, encode_group, encode_one, encode_symbols, encode_two, get_or-take, list_all, nil_from_length}
use Rattle.std.proofs.Common.{◌≡◌, ℕ, zero, suc, Bool, true, List, [], ◌∷◌, ◌++◌, ◌≤◌, length, get_or, take, drop, refl, ap, ◌∙◌, arith}
use Rattle.json_lines.specs.Messages.{base64, symbols}

pub base64_three : (a b c : ℕ) (rest : List ℕ) → base64 (a ∷ b ∷ c ∷ rest) ≡ encode_group symbols a b c ++ base64 rest
unfolding encode_symbols
base64_three a b c rest = grind (arith, common_steps)

pub base64_two : (a b : ℕ) → base64 (a ∷ b ∷ []) ≡ encode_two symbols a b ++ 61 ∷ []
unfolding encode_symbols
base64_two a b = refl

pub base64_one : (a : ℕ) → base64 (a ∷ []) ≡ encode_one symbols a ++ 61 ∷ 61 ∷ []
unfolding encode_symbols
base64_one a = refl

pub base64_none : base64 [] ≡ []
unfolding encode_symbols
base64_none = refl

pub base64_front : (bytes : List ℕ) → 3 ≤ length bytes → base64 bytes ≡ encode_group symbols (get_or bytes 0 0) (get_or bytes 1 0) (get_or bytes 2 0) ++ base64 (drop 3 bytes)
base64_front (a ∷ b ∷ c ∷ rest) long = base64_three a b c rest
base64_front (_) long = absurd (omega arith)

pub base64_empty : (bytes : List ℕ) → length bytes ≡ 0 → base64 bytes ≡ []
base64_empty bytes e = ap base64 (nil_from_length bytes e) ∙ base64_none

-- one group more is written
pub base64_step : (out rest group others text total : List ℕ) → 3 ≤ length rest → group ≡ take 3 rest → others ≡ drop 3 rest
    → text ≡ encode_group symbols (get_or group 0 0) (get_or group 1 0) (get_or group 2 0) → out ++ base64 rest ≡ total → (out ++ text) ++ base64 others ≡ total
base64_step out rest group others text total long g o t so_far = grind (arith, common_steps, get_or-take, base64_front)

-- a test that holds of each element, and of 0, holds at each place
pub at_each : (p : ℕ → Bool) (xs : List ℕ) → list_all p xs ≡ true → p 0 ≡ true → (k : ℕ) → p (get_or xs k 0) ≡ true
at_each p [] all z k = z
at_each p (x ∷ xs) all z zero = (and_parts (p x) (list_all p xs) all).0
at_each p (x ∷ xs) all z (suc k) = at_each p xs (and_parts (p x) (list_all p xs) all).1 z k

-- what holds of the symbols and of the padding holds of all of a text in base64; past the symbols stands 0
pub base64_all : (p : ℕ → Bool) → list_all p symbols ≡ true → p 0 ≡ true → p 61 ≡ true → (bytes : List ℕ) → list_all p (base64 bytes) ≡ true
base64_all p each z pad [] = rw base64_none refl
base64_all p each z pad (a ∷ []) = rw (base64_one, at_each p symbols each z, at_each p symbols each z, pad) refl
base64_all p each z pad (a ∷ b ∷ []) = rw (base64_two, at_each p symbols each z, at_each p symbols each z, at_each p symbols each z, pad) refl
base64_all p each z pad (a ∷ b ∷ c ∷ rest) =
    rw (base64_three, at_each p symbols each z, at_each p symbols each z, at_each p symbols each z, at_each p symbols each z) (base64_all p each z pad rest)
