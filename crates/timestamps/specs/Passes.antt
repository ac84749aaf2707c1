-- What a contract says of a pass, and why there was no lease.
use Rattle.std.specs.Prelude.{◌≡◌, ℕ, List, [], ◌<◌, ◌≤◌, Result, Err}
use Rattle.std.specs.List.{flat_map}
use Rattle.timestamps.specs.declared.oracle.Oracle.{Oracle}
use Rattle.timestamps.specs.declared.oracle.OraclePass.{OraclePass}
use Rattle.timestamps.specs.Blocks.{timestamps_of}
use Rattle.timestamps.specs.declared.lease.TheConstants.{BLOCKS}
use Rattle.timestamps.specs.declared.oracle.DrawError.{DrawError}
use Rattle.timestamps.specs.declared.oracle.DrawError.TheVariants.{Contended, Spent}

-- the blocks that the pass drew, the oldest first
abbrev pub drawn : OraclePass → List ℕ
drawn p = p.seat.me.0.drawn

-- the timestamps of its leases
abbrev pub leased : OraclePass → List ℕ
leased p = flat_map timestamps_of (drawn p)

-- the number of the next block, as it loaded it last
abbrev pub loaded : OraclePass → ℕ
loaded p = p.seat.me.0.loaded

-- the number that it loaded before that
abbrev pub earlier : OraclePass → ℕ
earlier p = p.seat.me.0.earlier

-- how often it looked at the word, by a load or by a compare-exchange
abbrev pub looks : OraclePass → ℕ
looks p = p.seat.me.0.looks

-- the pass is of this oracle
abbrev pub IsOf : Oracle → OraclePass → Type 0
IsOf oracle p = p.seat.table_id ≡ oracle.board.shared.table_id

-- of the same oracle as before
abbrev pub IsSame : OraclePass → OraclePass → Type 0
IsSame p q = q.seat.table_id ≡ p.seat.table_id

-- a pass of this oracle that has drawn nothing, and knows the first block
abbrev pub IsNew : Oracle → ℕ → OraclePass → Type 0
IsNew oracle first p = IsOf oracle p × (drawn p ≡ []) × (loaded p ≡ first)

-- by the two numbers that were loaded last: they differ, or the last leaves no block
abbrev pub IsReason : ℕ → ℕ → DrawError → Type 0
IsReason earlier loaded (Contended seen found) = (seen ≡ earlier) × (found ≡ loaded) × (seen < found) × (seen < BLOCKS)
IsReason earlier loaded Spent = BLOCKS ≤ loaded

-- the steps of a draw: a load, and then a compare-exchange unless no block is left
abbrev pub steps_of : Result (List ℕ) DrawError → ℕ
steps_of (Err Spent) = 1
steps_of _ = 2
