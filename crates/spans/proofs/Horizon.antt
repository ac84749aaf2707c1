-- The horizon never falls, and stays at or below closed and each protection that stands.
use Rattle.std.proofs.lemmas.Grind.{common_steps}
use Rattle.std.proofs.Common.{◌≡◌, ℕ, ◌≤◌, List, [], ◌∷◌, ◌++◌, map, ap, arith, refl}
use Rattle.std.specs.Prelude.{min}
use Rattle.spans.specs.Effects.{Effect, Collects}
use Rattle.spans.specs.Transactions.{closed_of, least_of}
use Rattle.spans.specs.Collection.{Protection, horizon_of, protections_of, live_feeds, floor_of}
use Rattle.spans.proofs.Copies.{Allowed, AllAllowed, closed_grows}
use Rattle.spans.specs.Keys.{Has}
use Rattle.spans.proofs.Members.{has_filter}

-- the least is at most the bound
pub least_low : (n : ℕ) (ms : List ℕ) → least_of n ms ≤ n
least_low n [] = omega arith
least_low n (m ∷ ms) = omega (arith, least_low n ms)

-- the least over two lists
pub least_join : (n : ℕ) (ms ns : List ℕ) → least_of n (ms ++ ns) ≡ least_of (least_of n ns) ms
least_join n [] ns = refl
least_join n (m ∷ ms) ns = ap (min m) (least_join n ms ns)

-- the horizon is at or below closed
pub horizon_low : (p : List Effect) → AllAllowed p → horizon_of p ≤ closed_of p
horizon_low [] all = omega arith
horizon_low (_ ∷ p) all = grind (arith, common_steps, least_low, closed_grows, horizon_low p all.1)

-- the horizon never falls
pub horizon_grows : (p : List Effect) (d : Effect) → Allowed p d → horizon_of p ≤ horizon_of (d ∷ p)
horizon_grows p (Collects n) allowed = omega (arith, allowed.1)
horizon_grows p (_) allowed = omega arith

-- the least is at or below each
least_under : (n : ℕ) (m : Protection) (ps : List Protection) (ns : List ℕ) → Has m ps → least_of n (map (λ (x : Protection). x.at) ps ++ ns) ≤ m.at
least_under n m [] ns i = absurd i
least_under n m (x ∷ ps) ns i = grind (arith, common_steps, least_under n m ps ns)

-- each protection that stands is at or above the horizon
pub protections_high : (p : List Effect) → AllAllowed p → (m : Protection) → Has m (protections_of p) → horizon_of p ≤ m.at
protections_high [] all m i = absurd i
protections_high (Collects n ∷ p) all m i = omega (arith, all.0.1, protections_high p all.1 m i, least_under (min all.0.0 (closed_of p)) m (protections_of p) (map (floor_of p) (live_feeds p)) i)
protections_high (_ ∷ p) all m i = grind (arith, common_steps, has_filter, protections_high p all.1 m)
