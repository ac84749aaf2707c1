-- A rising list of readers, divided at a number.
use Rattle.read_marks.proofs.Common.{Contains, common_steps, eqb-true, filter, get_or-drop, is_member-Decides, is_member-filter, le-ltb, nat_eq_equiv, unsigned_Decides}
use Rattle.std.proofs.Common.{ℕ, zero, suc, List, [], ◌∷◌, ◌&&◌, nat_lt, refl, lt-ltb, ◌≡◌, ◌<◌, ◌≤◌, ◌-◌, length, get_or, take, drop, leb-true, leb-false, arith, ap, ◌∙◌, Decides, length-drop}
use Rattle.read_marks.specs.Readers.{is_reader, SplitsAt}

pub reader_is : (xs : List ℕ) (j : ℕ) → Decides (is_reader xs j) (Contains xs j)
reader_is xs j = is_member-Decides unsigned_Decides xs j

-- a reader above t stands from the place on
pub from_place : (xs : List ℕ) (t at k j : ℕ) → SplitsAt xs t at → k < length xs → get_or xs k j ≡ j → t < j → at ≤ k
from_place xs t at k j p lt e above = grind (arith, common_steps)

-- those up to t are the first
pub in_front : (xs : List ℕ) (t at j : ℕ) → SplitsAt xs t at → at ≤ length xs → Contains (take at xs) j → Contains xs j × (j ≤ t)
in_front xs t at j p bound c = grind (arith, common_steps)

-- those above t are the rest
pub in_back : (xs : List ℕ) (t at j : ℕ) → SplitsAt xs t at → Contains (drop at xs) j → Contains xs j × (t < j)
in_back xs t at j p c = grind (arith, common_steps)

pub to_back : (xs : List ℕ) (t at j : ℕ) → SplitsAt xs t at → Contains xs j → t < j → Contains (drop at xs) j
to_back xs t at j p c above = let h = from_place xs t at c.0 j p c.1 c.2 above in let e = get_or-drop at xs (c.0 - at) j in (c.0 - at, omega (arith, length-drop at xs), grind (arith, common_steps))

pub to_front : (xs : List ℕ) (t at j : ℕ) → SplitsAt xs t at → at ≤ length xs → Contains xs j → j ≤ t → Contains (take at xs) j
to_front xs t at j p bound c low = grind (arith, common_steps)

-- those above t are the rest
pub filter_above : (xs : List ℕ) (t at : ℕ) → SplitsAt xs t at → drop at xs ≡ filter (nat_lt t) xs
filter_above [] t zero p = refl
filter_above [] t (suc at) p = refl
filter_above (x ∷ xs) t zero p =
    let above : t < x = leb-false _ _ (p.1 0 x (omega arith) (omega arith)) in
    rw (lt-ltb t x above) (ap (λ ys. x ∷ ys) (filter_above xs t 0 (λ k d low lt. absurd (omega arith), λ k d low lt. p.1 (suc k) d (omega arith) (omega arith))))
filter_above (x ∷ xs) t (suc at) p =
    let low : x ≤ t = leb-true _ _ (p.0 0 x (omega arith) (omega arith)) in
    rw (le-ltb t x low) (filter_above xs t at (λ k d low lt. p.0 (suc k) d (omega arith) (omega arith), λ k d low lt. p.1 (suc k) d (omega arith) (omega arith)))

pub filtered_reader : (t : ℕ) (xs : List ℕ) (j : ℕ) → is_reader (filter (nat_lt t) xs) j ≡ (nat_lt t j && is_reader xs j)
filtered_reader t xs j = is_member-filter nat_eq_equiv (nat_lt t) j (λ x same. ap (nat_lt t) (eqb-true j x same)) xs ∙ grind (arith, common_steps)
