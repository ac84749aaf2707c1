-- The tests of a command of a transaction, from the table.
use Rattle.kept.proofs.Common.{Effect, IsActive, IsKeptOf, Kept, MAX, Refusal, Refused, Reply, TsRange, by_test, closed_of, common_steps, first_refusal, first_refusal_or, nat_tests, owner_of, transaction_tests}
use Rattle.std.proofs.Common.{Bool, List, None, [], ap, arith, cond, false, ℕ, ◌++◌, ◌∷◌, ◌≡◌, ◌≤◌}
use Rattle.std.specs.Prelude.{is_some, nat_le, nat_lt}
use Rattle.spans.proofs.Refusals.{tests_past, tests_met}
use Rattle.kept.specs.Replies.{unless_refused}
use Rattle.kept.specs.Finding.{refusal}

-- a number that is in range passes its test
pub within : (to : ℕ) (reply : Reply) → to ≤ MAX → first_refusal_or ((nat_lt MAX to, TsRange) ∷ []) reply ≡ reply
within to reply low = let e : nat_lt MAX to ≡ false = grind (arith, nat_tests) in ap (λ b. cond b (Refused TsRange) reply) e

-- past its tests a transaction is active
pub active_of : (p : List Effect) (seat t : ℕ) → first_refusal (transaction_tests p seat t) ≡ None → IsActive p t
active_of p seat t none = grind (arith, common_steps)

-- the table gives the first test that applies
pub refusal_is : (k : Kept) (p : List Effect) → IsKeptOf k p → (seat t : ℕ) → refusal k seat t ≡ first_refusal (transaction_tests p seat t)
refusal_is k p fits seat t = grind (arith, common_steps, by_test)

-- the reply to a command of a transaction is right where it is so past the tests
pub past_tests : (k : Kept) (p : List Effect) → IsKeptOf k p → (seat t : ℕ) (more : List (Bool × Refusal)) (reply reply' : Reply) → (refusal k seat t ≡ None → IsActive p t → reply ≡ first_refusal_or more reply')
    → unless_refused (refusal k seat t) reply ≡ first_refusal_or (transaction_tests p seat t ++ more) reply'
past_tests k p fits seat t more reply reply' here = grind (arith, common_steps, refusal_is, active_of, tests_past, tests_met)

-- above closed the table has who began
pub used_is : (k : Kept) (p : List Effect) → IsKeptOf k p → (t : ℕ) → nat_le t (closed_of p) ≡ false → is_some (k.transaction t) ≡ is_some (owner_of p t)
used_is k p fits t high = grind (arith, common_steps)
