use Rattle.std.proofs.Common.{◌≡◌, ◌*◌}
use Rattle.timestamps.specs.Bytes.{front_from}
use Rattle.timestamps.proofs.few_bytes.FewBytes.order.Given as goal

abbrev pub invariant-loop-i : goal.invariant-loop-i
invariant-loop-i l = front_from (8 * l.i) 0 l.self ≡ front_from (8 * l.i) 0 l.other
