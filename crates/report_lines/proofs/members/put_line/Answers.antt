use Rattle.report_lines.proofs.Writing.{ended}
use Rattle.report_lines.proofs.members.put_line.Goals as goal

pub returns-clause-ok : goal.returns-clause-ok
returns-clause-ok c = ended c.extend_from_slice.result c.args.members.now _ c.args.kind.now _ _ _ c.loop-member-test.false c.loop-member.invariant c.extend_from_slice.ensures.items
