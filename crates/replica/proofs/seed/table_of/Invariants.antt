use Rattle.std.proofs.Common.{◌≡◌, ℕ, List, None}
use Rattle.replica.specs.Rows.{value_at}
use Rattle.replica.proofs.Seeding.{puts}
use Rattle.replica.proofs.seed.table_of.Given as goal

abbrev pub invariant-loop-key : goal.invariant-loop-key
invariant-loop-key l = (x : List ℕ) → value_at l.table x ≡ puts (λ y. None) l.yielded x
