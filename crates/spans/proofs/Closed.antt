-- At or below closed all is decided.
use Rattle.spans.proofs.Common.{and_from, common_steps}
use Rattle.std.proofs.Common.{◌≡◌, ℕ, ◌<◌, ◌≤◌, true, List, [], ◌∷◌, Some, refl, arith}
use Rattle.std.specs.Prelude.{is_some}
use Rattle.spans.specs.Effects.{After, Effect}
use Rattle.spans.specs.Transactions.{owner_of, closed_of, is_committed}
use Rattle.spans.specs.Versions.{write_of, version_of, committed_version_of, visible, committed_value}
use Rattle.spans.proofs.Steps.{by_test, version_wrote, no_version_wrote, newest_same}
use Rattle.spans.proofs.Copies.{AllAllowed, not_both}
use Rattle.spans.proofs.Open.{open_above}

-- who wrote has begun
pub wrote_begun : (p : List Effect) → AllAllowed p → (t : ℕ) (x : List ℕ) (a : After) → write_of p t x ≡ Some a → is_some (owner_of p t) ≡ true
wrote_begun [] all t x a is = cc
wrote_begun (_ ∷ p) all t x a is = grind (arith, common_steps, wrote_begun p all.1)

-- a version at or below closed is committed
pub closed_committed : (p : List Effect) → AllAllowed p → (x : List ℕ) (i : ℕ) (a : After) → version_of p x i ≡ Some a → i ≤ closed_of p → is_committed p i ≡ true
closed_committed p all x i a is low =
    let wrote = version_wrote p x i a is in
    by_test (is_committed p i) (λ yes'. yes')
    (λ isnt. absurd (let above : closed_of p < i = open_above p all i (and_from _ _ (wrote_begun p all i x a wrote.1) (rw (isnt, wrote.0) refl)) in omega arith))

-- at or below closed the versions are the committed ones
pub closed_version : (p : List Effect) → AllAllowed p → (x : List ℕ) (i : ℕ) → i ≤ closed_of p → version_of p x i ≡ committed_version_of p x i
closed_version p all x i low = grind (arith, common_steps, closed_committed, version_wrote, no_version_wrote, not_both)

-- what is visible is what is committed
pub closed_value : (p : List Effect) → AllAllowed p → (x : List ℕ) (t : ℕ) → t ≤ closed_of p → (visible p x t).after ≡ committed_value p x t
closed_value p all x t low = grind (arith, common_steps, newest_same, closed_version)
