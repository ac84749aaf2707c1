use Rattle.std.proofs.Common.{ap}
use Rattle.plain_database.specs.FeedTie.{Book}
use Rattle.plain_database.proofs.FeedTies.{record_found}
use Rattle.plain_database.proofs.feeds.book.FeedBook.find_live.Goals as goal

pub returns-in-Some-clause-record : goal.returns-in-Some-clause-record
returns-in-Some-clause-record c = λ p tied. record_found p c.args.feed c.args.self.now.live c.in-Some.record.now tied.each (cc (c.in-Some.ensures, ap (λ (b : Book). b.live) c.self.view_is))
