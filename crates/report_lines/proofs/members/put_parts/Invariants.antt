use Rattle.std.proofs.Common.{◌≡◌, ◌++◌, take}
use Rattle.report_lines.proofs.Common.{flat_map}
use Rattle.report_lines.proofs.members.put_parts.Given as goal

abbrev pub invariant-loop-part : goal.invariant-loop-part
invariant-loop-part l = l.out.items ≡ l.fn.out.items ++ flat_map (λ part. part.now) (take l.part-index l.parts)
