use Rattle.plain_database.proofs.FeedTies.{telling_none}
use Rattle.plain_database.proofs.feeds.book.tell_in.Goals as goal

pub returns-in-None-clause-ok : goal.returns-in-None-clause-ok
returns-in-None-clause-ok c = telling_none c.args.feed c.args.messages.now c.args.live.now.items (cc c.in-None.ensures)
