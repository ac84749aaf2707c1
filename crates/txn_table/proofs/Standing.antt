-- The two maps stay tied.
use Rattle.std.proofs.lemmas.Grind.{common_steps}
use Rattle.std.proofs.Common.{List, None, Some, arith, cond, false, ℕ, ◌==◌, ◌≡◌}
use Rattle.txn_table.specs.States.{first_ending, AreUndecided, found}
use Rattle.txn_table.specs.declared.ending.Ending.{Ending}

module _ (us us' : List (ℕ × ℕ)) (es es' : List (ℕ × Ending)) (ts : ℕ) (tied : AreUndecided us es) where
  -- when a transaction begins
  pub begins : (seat : ℕ) → ((i : ℕ) → found us' i ≡ cond (ts == i) (Some seat) (found us i)) → ((i : ℕ) → found es' i ≡ cond (ts == i) (Some (first_ending seat)) (found es i)) → AreUndecided us' es'
  begins seat u v i = let t = tied i in let u' = u i in let v' = v i in grind (arith, common_steps)

  -- when one ends
  pub ends : ((i : ℕ) → found us' i ≡ cond (ts == i) None (found us i)) → ((i : ℕ) → (ts == i) ≡ false → found es' i ≡ found es i) → AreUndecided us' es'
  ends u v i = let t = tied i in let u' = u i in let v' = v i in grind (arith, common_steps)
