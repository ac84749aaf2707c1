use Rattle.sessions.proofs.Blocks.{advanced}
use Rattle.sessions.proofs.lines.Lines.advance.Goals as goal

pub returns-clause-bytes : goal.returns-clause-bytes
returns-clause-bytes c = let l = c.args.self.now in advanced l.start l.end c.args.count l.block.items l.ordered c.requires
