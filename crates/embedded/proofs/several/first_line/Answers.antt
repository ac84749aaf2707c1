use Rattle.std.proofs.Common.{add-one}
use Rattle.embedded.proofs.FirstLines.{line_of_all, line_to}
use Rattle.embedded.proofs.several.first_line.Goals as goal

pub returns-in-None-clause-line : goal.returns-in-None-clause-line
returns-in-None-clause-line c = line_of_all c.args.bytes.now c.in-None.ensures

pub returns-in-Some-clause-line : goal.returns-in-Some-clause-line
returns-in-Some-clause-line c = rw add-one (line_to c.args.bytes.now c.in-Some.at c.in-Some.ensures.0 c.in-Some.ensures.1)
