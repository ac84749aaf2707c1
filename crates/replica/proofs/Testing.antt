-- The tests of the rows that a replica begins with.
use Rattle.replica.proofs.Common.{KeysRise, Less, common_steps, key_cmp, keys_of}
use Rattle.std.proofs.Common.{◌≡◌, ℕ, zero, suc, ◌+◌, ◌-◌, ◌<◌, ◌≤◌, List, [], ◌∷◌, length, get_or, refl, arith}
use Rattle.std.proofs.lemmas.Cmp.{nat_list_cmp_total}
use Rattle.std.proofs.lemmas.Map.Keys.{sorted_from_all_adjacent}
use Rattle.std.proofs.lemmas.Map.Entries.{length-keys_of}
use Rattle.replica.proofs.Rising.{rows_rise, rise_at, keys_at}

abbrev Pairs : Type 0
Pairs = List (List ℕ × List ℕ)

at_any : (es : Pairs) (i : ℕ) (d e : List ℕ × List ℕ) → i < length es → get_or es i d ≡ get_or es i e
at_any [] i d e low = absurd (omega arith)
at_any (x ∷ es) zero d e low = refl
at_any (x ∷ es) (suc i) d e low = at_any es i d e (omega arith)

-- the first n rows rise
abbrev pub AreRisingTo : Pairs → ℕ → Type 0
AreRisingTo es n = (k : ℕ) (d : List ℕ × List ℕ) → k + 1 < n → key_cmp (get_or es k d).0 (get_or es (k + 1) d).0 ≡ Less

pub rising_more : (es : Pairs) (i : ℕ) (x y : List ℕ × List ℕ) → AreRisingTo es i → 1 ≤ i → i < length es → x ≡ get_or es (i - 1) x → y ≡ get_or es i y → key_cmp x.0 y.0 ≡ Less → AreRisingTo es (i + 1)
rising_more es i x y so_far some low first second less k d below = grind (arith, common_steps)

pub rising_all : (es : Pairs) → AreRisingTo es (length es) → KeysRise es
rising_all es all = rows_rise es (sorted_from_all_adjacent nat_list_cmp_total (keys_of es) [] (λ k low.
    grind (arith, common_steps, length-keys_of es, keys_at es k ([], []), keys_at es (k + 1) ([], []), all k ([], []))))

-- two neighbours of rising rows rise
pub rising_at : (es : Pairs) (i : ℕ) (x y : List ℕ × List ℕ) → KeysRise es → 1 ≤ i → i < length es → x ≡ get_or es (i - 1) x → y ≡ get_or es i y → key_cmp x.0 y.0 ≡ Less
rising_at es i x y rising some low first second =
    grind (arith, common_steps, at_any es i y x low, rise_at es (i - 1) x rising)
