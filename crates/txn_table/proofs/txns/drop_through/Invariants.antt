use Rattle.std.proofs.Common.{nat_lt, true, ℕ, ◌≡◌}
use Rattle.std.specs.BTreeMap.{btree_map_len}
use Rattle.txn_table.specs.States.{found}
use Rattle.txn_table.proofs.txns.drop_through.Given as goal

-- what is above the bound is there yet
abbrev pub invariant-loop-first : goal.invariant-loop-first
invariant-loop-first g l = (i : ℕ) → nat_lt l.ts i ≡ true → found l.map.entries i ≡ found l.initial.map.entries i

abbrev pub decreases-loop-first : goal.decreases-loop-first
decreases-loop-first g l = btree_map_len l.map
