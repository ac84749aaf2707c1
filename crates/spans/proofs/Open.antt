-- Nothing at or below closed is undecided.
use Rattle.spans.proofs.Common.{and_parts, common_steps}
use Rattle.std.proofs.Common.{◌≡◌, ℕ, ◌-◌, ◌<◌, ◌≤◌, ◌⊎◌, Bool, true, List, [], ◌∷◌, map, arith}
use Rattle.std.specs.Prelude.{filter, is_some}
use Rattle.spans.specs.Effects.{Effect, Begins, Closes}
use Rattle.spans.specs.Transactions.{owner_of, closed_of, is_undecided, begun_of, least_of}
use Rattle.spans.proofs.Copies.{AllAllowed}

abbrev pub IsAmong : ℕ → List ℕ → Type 0
IsAmong t [] = ⊥
IsAmong t (k ∷ ks) = (k ≡ t) ⊎ IsAmong t ks

pub begun_among : (p : List Effect) (t : ℕ) → is_some (owner_of p t) ≡ true → IsAmong t (begun_of p)
begun_among [] t is = cc
begun_among (Begins k seat ∷ p) t is = grind (arith, common_steps, begun_among p t)
begun_among (_ ∷ p) t is = begun_among p t is

pub least_below : (q : ℕ → Bool) (n t : ℕ) (ks : List ℕ) → IsAmong t ks → q t ≡ true → least_of n (map (λ k. k - 1) (filter q ks)) ≤ t - 1
least_below q n t [] among is = absurd among
least_below q n t (k ∷ ks) among is = grind (arith, common_steps, least_below q n t ks)

-- an undecided transaction is above closed
pub open_above : (p : List Effect) → AllAllowed p → (t : ℕ) → is_undecided p t ≡ true → closed_of p < t
open_above [] all t is = cc
open_above (Closes n ∷ p) all t is = omega (arith, all.0.1, open_above p all.1 t is, least_below (is_undecided p) all.0.0 t (begun_of p) (begun_among p t (and_parts _ _ is).0) is)
open_above (_ ∷ p) all t is = grind (arith, common_steps, open_above p all.1 t)
