-- A greater horizon, and lists that grow by it.
use Rattle.std.proofs.lemmas.Grind.{common_steps}
use Rattle.std.proofs.Common.{List, not, refl, arith, true, length, ◌≡◌, ◌≤◌, ◌+◌, ◌&&◌, ◌∷◌, ℕ, [], Bool}
use Rattle.kept.proofs.Common.{Collects, Effect, and_from, by_test, dead_is, horizon_of, is_dead, le-leb, lt-ltb, ltb-true, newest_is, or_left, or_right, version_name}
use Rattle.std.specs.Prelude.{filter}

-- a greater horizon leaves the dead dead
pub dead_grows : (p : List Effect) (n : ℕ) → horizon_of p ≤ n → (x : List ℕ) (i : ℕ) → is_dead p (version_name x i) ≡ true → is_dead (Collects n ∷ p) (version_name x i) ≡ true
dead_grows p n low x i is = grind (arith, common_steps, dead_is, and_from, le-leb, or_left, or_right, lt-ltb, newest_is, by_test, ltb-true)

-- by how many those that pass a test grew
pub grown : {A : Type 0} (a b : A → Bool) → ((x : A) → b x ≡ true → a x ≡ true) → (xs : List A) → length (filter a xs) ≡ length (filter b xs) + length (filter (λ x. a x && not (b x)) xs)
grown a b more [] = refl
grown a b more (x ∷ xs) = let here = more x in let rest = grown a b more xs in grind (arith, common_steps)
