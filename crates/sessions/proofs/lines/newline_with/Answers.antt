use Rattle.std.proofs.Common.{sym, ◌∙◌}
use Rattle.sessions.proofs.Finding.{newline_known, newline_none, newline_other}
use Rattle.sessions.proofs.lines.newline_with.Goals as goal

pub returns-then-is_some : goal.returns-then-is_some
returns-then-is_some c = newline_known c.args.bytes.now c.args.searched c.args.newline (sym c.is_some.ensures ∙ c.if-is_some.true) c.requires.known

pub returns-in-None : goal.returns-in-None
returns-in-None c = newline_none c.args.bytes.now c.args.searched c.args.newline (sym c.is_some.ensures ∙ c.if-is_some.false) c.requires.known c.in-None.ensures.place

pub returns-in-Some : goal.returns-in-Some
returns-in-Some c = newline_other c.args.bytes.now c.args.searched c.in-Some.at c.args.newline c.requires.within (sym c.is_some.ensures ∙ c.if-is_some.false) c.requires.known c.in-Some.ensures.place
