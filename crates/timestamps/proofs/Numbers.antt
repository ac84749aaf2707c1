-- Blocks and their timestamps.
use Rattle.std.proofs.lemmas.Bool.Decides.{nat_tests}
use Rattle.std.proofs.lemmas.Grind.{common_steps}
use Rattle.std.proofs.Common.{◌≡◌, ℕ, zero, suc, ◌+◌, ◌*◌, ◌<◌, ◌≤◌, List, [], ◌∷◌, ◌++◌, length, sym, refl, subst, ⊎_elim, arith}
use Rattle.timestamps.proofs.Common.{All, All-contains, Contains, Contains-append_cases, IsStrictlyIncreasing, count_by, flat_map, get_or-le-sum_by, slice_index}
use Rattle.std.specs.Prelude.{◌==◌, cond}
use Rattle.std.proofs.lemmas.List.Concat.{flat_map-cons}
use Rattle.timestamps.specs.Blocks.{numbers_from, timestamps_of, AreApart}

-- a number of a run is not before its first, and before its end
pub in_run : (a n x : ℕ) → Contains (numbers_from a n) x → (a ≤ x) × (x < a + n)
in_run a zero x (k, l, e) = absurd (omega arith)
in_run a (suc n) x (zero, l, e) = (omega arith, omega arith)
in_run a (suc n) x (suc k, l, e) = grind (arith, common_steps, in_run (suc a) n x (k, omega arith, e))

-- a timestamp of a lease is of one of the blocks
pub of_block : (blocks : List ℕ) (x : ℕ) → Contains (flat_map timestamps_of blocks) x → (b : ℕ) × Contains blocks b × Contains (timestamps_of b) x
of_block [] x (k, l, e) = absurd (omega arith)
of_block (b ∷ bs) x c = ⊎_elim (λ h. (b, (0, omega arith, refl), h)) (λ t. let r = of_block bs x t in (r.0, (suc r.1.0, (let l = r.1.1 in omega arith), r.1.2), r.2))
    (Contains-append_cases (timestamps_of b) (flat_map timestamps_of bs) x (subst (λ (xs : List ℕ). Contains xs x) (flat_map-cons timestamps_of b bs) c))

-- a timestamp is of one block
pub one_block : (a b x : ℕ) → Contains (timestamps_of a) x → Contains (timestamps_of b) x → a ≡ b
one_block a b x p q = grind (arith, common_steps, in_run (32 * a + 1) 32 x p, in_run (32 * b + 1) 32 x q)

-- lists of blocks that share none share no timestamp
pub apart_leases : (xs ys : List ℕ) → AreApart xs ys → AreApart (flat_map timestamps_of xs) (flat_map timestamps_of ys)
apart_leases xs ys apart x p q = let a = of_block xs x p in let b = of_block ys x q in apart a.0 a.1 (subst (Contains ys) (sym (one_block a.0 b.0 x a.2 b.2)) b.1)

-- a block above those of the list shares no timestamp with them
pub apart_above : (xs : List ℕ) (n : ℕ) → All (λ b. b < n) xs → AreApart (flat_map timestamps_of xs) (timestamps_of n)
apart_above xs n below x p q = let a = of_block xs x p in grind (arith, common_steps, All-contains (λ b. b < n) xs a.0 below a.1, one_block a.0 n x a.2 q)

pub counted_once : (xs : List ℕ) (b : ℕ) → Contains xs b → 1 ≤ count_by (λ x. x == b) xs
counted_once xs b (k, l, e) = let q = get_or-le-sum_by (λ x. cond (x == b) 1 0) xs k b l in grind (arith, common_steps, nat_tests)

-- a number of a rising list is below the next, which stands at `suc k`
abbrev Rises : List ℕ → Type 0
Rises xs = (k : ℕ) → suc k < length xs → slice_index xs k < slice_index xs (suc k)

rises_more : (xs : List ℕ) (n : ℕ) → Rises xs → All (λ b. b < n) xs → Rises (xs ++ n ∷ [])
rises_more [] n r below k l = absurd (omega arith)
rises_more (x ∷ []) n r below zero l = below 0 0 (omega arith)
rises_more (x ∷ []) n r below (suc k) l = absurd (omega arith)
rises_more (x ∷ (y ∷ ys)) n r below zero l = r 0 (omega arith)
rises_more (x ∷ (y ∷ ys)) n r below (suc k) l = rises_more (y ∷ ys) n (λ j h. r (suc j) (omega arith)) (λ j d h. below (suc j) d (omega arith)) k (omega arith)

-- a number above all of a rising list may come last
pub rises_on : (xs : List ℕ) (n : ℕ) → IsStrictlyIncreasing xs → All (λ b. b < n) xs → IsStrictlyIncreasing (xs ++ n ∷ [])
rises_on xs n r below k l = grind (arith, common_steps, rises_more xs n)
