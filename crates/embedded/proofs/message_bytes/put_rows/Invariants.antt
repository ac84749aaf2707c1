use Rattle.std.proofs.Common.{◌≡◌, ◌++◌, take}
use Rattle.std.specs.List.{flat_map}
use Rattle.embedded.specs.Typed.{pair_bytes}
use Rattle.embedded.proofs.message_bytes.put_rows.Given as goal

abbrev pub invariant-loop-key : goal.invariant-loop-key
invariant-loop-key l = l.out.items ≡ l.fn.out.items ++ flat_map (pair_bytes l.at) (take l.key-index l.rows)
