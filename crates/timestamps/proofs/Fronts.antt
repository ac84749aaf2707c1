-- The order of byte strings that differ in their first bytes, and of those that don't.
use Rattle.std.proofs.lemmas.Bool.Decides.{nat_tests}
use Rattle.std.proofs.lemmas.Grind.{common_steps}
use Rattle.std.proofs.Common.{ℕ, zero, suc, List, [], ◌∷◌, ◌≡◌, ◌<◌, ◌≤◌, ◌+◌, ◌*◌, refl, arith, length, get_or, min, ◌++◌, nat_cmp}
use Rattle.timestamps.specs.Bytes.{key_cmp, AreBytes, front_from}

-- the same before both doesn't count
pub cmp_on : (a x y : ℕ) → nat_cmp (a + x) (a + y) ≡ nat_cmp x y
cmp_on a x y = grind (arith, nat_tests)

-- zeros are the least of all bytes
least : (n a b : ℕ) (xs : List ℕ) → a ≤ b → front_from n a [] ≤ front_from n b xs
least zero a b xs le = le
least (suc n) a b [] le = least n (a * 256) (b * 256) [] (omega arith)
least (suc n) a b (x ∷ xs) le = least n (a * 256) (b * 256 + x) xs (omega arith)

-- what stands in front decides
rises : (n a b : ℕ) (xs ys : List ℕ) → AreBytes xs → a < b → front_from n a xs < front_from n b ys
rises zero a b xs ys h l = l
rises (suc n) a b [] [] h l = rises n (a * 256) (b * 256) [] [] h (omega arith)
rises (suc n) a b [] (y ∷ ys) h l = rises n (a * 256) (b * 256 + y) [] ys h (omega arith)
rises (suc n) a b (x ∷ xs) [] h l = let small : x < 256 = h 0 in rises n (a * 256 + x) (b * 256) xs [] (λ k. h (suc k)) (omega arith)
rises (suc n) a b (x ∷ xs) (y ∷ ys) h l = let small : x < 256 = h 0 in rises n (a * 256 + x) (b * 256 + y) xs ys (λ k. h (suc k)) (omega arith)

-- fronts that differ stand as their bytes do
pub fronts_differ : (n a : ℕ) (xs ys : List ℕ) → AreBytes xs → AreBytes ys → (front_from n a xs ≡ front_from n a ys → ⊥) → key_cmp xs ys ≡ nat_cmp (front_from n a xs) (front_from n a ys)
fronts_differ zero a xs ys h g f = absurd (f refl)
fronts_differ (suc n) a [] [] h g f = absurd (f refl)
fronts_differ (suc n) a [] (y ∷ ys) h g f = (let low = least (suc n) a a (y ∷ ys) (omega arith) in grind (arith, common_steps, nat_tests))
fronts_differ (suc n) a (x ∷ xs) [] h g f = (let low = least (suc n) a a (x ∷ xs) (omega arith) in grind (arith, common_steps, nat_tests))
fronts_differ (suc n) a (x ∷ xs) (y ∷ ys) h g f = grind (arith, common_steps, nat_tests, rises n (a * 256 + x) (a * 256 + y) xs ys (λ k. h (suc k)), rises n (a * 256 + y) (a * 256 + x) ys xs (λ k. g (suc k)), fronts_differ n (a * 256 + x) xs ys (λ k. h (suc k)) (λ k. g (suc k)))

-- where they are the same, of two strings that aren't both longer the one begins the other
pub fronts_same : (n a : ℕ) (xs ys : List ℕ) → AreBytes xs → AreBytes ys → front_from n a xs ≡ front_from n a ys → min (length xs) (length ys) ≤ n → key_cmp xs ys ≡ nat_cmp (length xs) (length ys)
fronts_same n a [] [] h g e short = refl
fronts_same n a [] (y ∷ ys) h g e short = grind (arith, common_steps, nat_tests)
fronts_same n a (x ∷ xs) [] h g e short = grind (arith, common_steps, nat_tests)
fronts_same zero a (x ∷ xs) (y ∷ ys) h g e short = absurd (omega arith)
fronts_same (suc n) a (x ∷ xs) (y ∷ ys) h g e short =
    let up = rises n (a * 256 + x) (a * 256 + y) xs ys (λ k. h (suc k)) in let down = rises n (a * 256 + y) (a * 256 + x) ys xs (λ k. g (suc k)) in
    let more = fronts_same n (a * 256 + x) xs ys (λ k. h (suc k)) (λ k. g (suc k)) in grind (arith, common_steps, nat_tests)

-- what was read from a place that zeros fill
pub spelt : (xs : List ℕ) → front_from 8 0 xs
    ≡ get_or xs 0 0 * 72057594037927936 + get_or xs 1 0 * 281474976710656 + get_or xs 2 0 * 1099511627776 + get_or xs 3 0 * 4294967296 + get_or xs 4 0 * 16777216 + get_or xs 5 0 * 65536 + get_or xs 6 0 * 256 + get_or xs 7 0
spelt xs = grind (arith, common_steps)

-- eight bytes that are the first of a list, or zeros where those are missing
pub front_read : (xs first : List ℕ) → ((k : ℕ) → k < 8 → get_or first k 0 ≡ get_or xs k 0) → front_from 8 0 xs
    ≡ get_or first 0 0 * 72057594037927936 + get_or first 1 0 * 281474976710656 + get_or first 2 0 * 1099511627776 + get_or first 3 0 * 4294967296 + get_or first 4 0 * 16777216 + get_or first 5 0 * 65536 + get_or first 6 0 * 256 + get_or first 7 0
front_read xs first same =
    rw (same 0 (omega arith), same 1 (omega arith), same 2 (omega arith), same 3 (omega arith), same 4 (omega arith), same 5 (omega arith), same 6 (omega arith), same 7 (omega arith)) (spelt xs)

-- bytes before zeros
pub padded : (xs zs : List ℕ) (k : ℕ) → ((j : ℕ) → get_or zs j 0 ≡ 0) → get_or (xs ++ zs) k 0 ≡ get_or xs k 0
padded [] zs k zeros = zeros k
padded (x ∷ xs) zs zero zeros = refl
padded (x ∷ xs) zs (suc k) zeros = padded xs zs k zeros
