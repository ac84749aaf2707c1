use Rattle.std.proofs.Common.{◌≡◌, ◌++◌, take}
use Rattle.report_lines.proofs.Common.{flat_map}
use Rattle.report_lines.specs.Lines.{protection_line}
use Rattle.report_lines.proofs.lines.put_protections.Given as goal

abbrev pub invariant-loop-protection : goal.invariant-loop-protection
invariant-loop-protection l = l.out.items ≡ l.fn.out.items ++ flat_map protection_line (take l.protection-index l.protections)
