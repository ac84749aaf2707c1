use Rattle.std.proofs.Common.{length, ◌+◌, ◌*◌, ◌<◌}
use Rattle.catch_up.proofs.Walk.{IsWalking}
use Rattle.catch_up.proofs.rows.counted_rows.Given as goal

abbrev pub invariant-loop-missing : goal.invariant-loop-missing
invariant-loop-missing l = (0 < l.left) × IsWalking l.store l.span l.fn.versions.ts l.fn.versions.key l.through l.n l.versions l.missing l.rows.items

-- a key is passed by as many steps as STEPS_OF_A_KEY says
abbrev pub decreases-loop-missing : goal.decreases-loop-missing
decreases-loop-missing l = 8 * length l.keys + l.left
