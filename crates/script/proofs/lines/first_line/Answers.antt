use Rattle.std.proofs.Common.{◌+◌}
use Rattle.script.proofs.CutLines.{lines_alone, lines_first}
use Rattle.word_lines.proofs.Splitting.{end_is}
use Rattle.script.proofs.lines.first_line.Goals as goal

pub returns-in-None-clause-lines : goal.returns-in-None-clause-lines
returns-in-None-clause-lines c = lines_alone c.args.text.now c.requires c.in-None.ensures.place

pub returns-in-Some-clause-lines : goal.returns-in-Some-clause-lines
returns-in-Some-clause-lines c = rw (end_is (c.in-Some.at + 1) c.args.text.now) (lines_first c.args.text.now c.in-Some.at c.in-Some.ensures.place)
