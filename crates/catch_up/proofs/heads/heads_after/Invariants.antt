use Rattle.std.proofs.Common.{length, ◌≤◌}
use Rattle.catch_up.proofs.Merge.{IsHeading}
use Rattle.catch_up.proofs.heads.heads_after.Given as goal

-- the first heads of the keys before it
abbrev pub invariant-loop-key : goal.invariant-loop-key
invariant-loop-key l = IsHeading l.store l.span l.ts l.place l.through l.n l.key-iterator l.heads × (length l.heads.entries ≤ l.n)
