use Rattle.std.proofs.Common.{arith}
use Rattle.plain_database.proofs.Common.{common_steps}
use Rattle.plain_database.proofs.FeedTies.{feeds_tell}
use Rattle.plain_database.proofs.feeds.book.FeedBook.tell.Goals as goal

pub returns-clause-told : goal.returns-clause-told
returns-clause-told c = λ max p all tied. grind (arith, common_steps, feeds_tell c.args.self.now p c.args.feed max c.args.messages.now tied)
