use Rattle.std.proofs.Common.{◌≡◌, ◌++◌, take}
use Rattle.report_lines.proofs.Common.{flat_map}
use Rattle.report_lines.specs.Lines.{begins, text_of}
use Rattle.report_lines.proofs.members.put_line.Given as goal

abbrev pub invariant-loop-member : goal.invariant-loop-member
invariant-loop-member l = l.out.items ≡ l.fn.out.items ++ begins l.kind ++ flat_map text_of (take l.member-index l.members)
