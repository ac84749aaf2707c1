use Rattle.std.proofs.Common.{suc, refl, arith}
use Rattle.plain_database.proofs.Common.{common_steps}
use Rattle.plain_database.proofs.FeedTies.{feeds_open}
use Rattle.plain_database.proofs.feeds.book.FeedBook.open.Goals as goal

pub returns-clause-opened : goal.returns-clause-opened
returns-clause-opened c = λ p all tied. grind (arith, common_steps, feeds_open c.args.self.now p (suc c.args.self.now.opened) c.args.seat c.args.kind c.args.span.now c.args.cursor refl all tied)
