use Rattle.std.proofs.Common.{◌≡◌, ℕ, [], length, All}
use Rattle.atomic_table.specs.Seated.{TableId}
use Rattle.timestamps.specs.declared.oracle.OraclePass.{OraclePass}
use Rattle.timestamps.specs.Blocks.{opener}
use Rattle.timestamps.specs.Passes.{drawn, loaded}
use Rattle.timestamps.proofs.oracle.Oracle.new.Given as goal

-- a new pass of the oracle that has this table
abbrev pub IsNewOf : TableId → ℕ → OraclePass → Type 0
IsNewOf table first p = (p.seat.table_id ≡ table) × (drawn p ≡ []) × (loaded p ≡ first)

abbrev pub invariant-loop : goal.invariant-loop
invariant-loop l = (l.source.table_id ≡ l.board.shared.table_id) × (l.source.me ≡ (opener l.fn.first_block, [])) × (length l.made.items ≡ l.counter) × All (IsNewOf l.board.shared.table_id l.fn.first_block) l.made.items
