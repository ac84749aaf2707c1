use Rattle.plain_database.proofs.Common.{kind_of, open_cmd}
use Rattle.plain_database.proofs.Events.{open_does_nothing, stands_still}
use Rattle.plain_database.proofs.FeedReplies.{stands_opens}
use Rattle.plain_database.proofs.database.PlainDatabase.record_open.Goals as goal

pub returns-clause-ok : goal.returns-clause-ok
returns-clause-ok c = rw c.in-Opened.is (λ h n. let opened = c.in_ok-_feed.ensures in
    stands_opens c.args.self.now c.open.new.self h n c.args.seat c.in-Opened.feed c.in_ok-_feed._feed (kind_of c.args.initial c.args.gap) c.args.span.now c.args.cursor opened.number opened.opened)

pub returns-in_default : goal.returns-in_default
returns-in_default c = record { ok = λ h n. stands_still c.args.self.now h n c.args.seat (open_cmd (kind_of c.args.initial c.args.gap) c.args.span.now c.args.cursor) c.args.reply.now (open_does_nothing (kind_of c.args.initial c.args.gap) c.args.seat c.args.span.now c.args.cursor c.args.reply.now c.in_default.not-Opened); err = tt; memory = tt }
