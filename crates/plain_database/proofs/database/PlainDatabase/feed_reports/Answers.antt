use Rattle.std.proofs.Common.{arith, reverse}
use Rattle.plain_database.proofs.Common.{common_steps, effects_of, reverse-append}
use Rattle.plain_database.proofs.Reporting.{one_more}
use Rattle.plain_database.proofs.database.PlainDatabase.feed_reports.Goals as goal

pub loop-record-preserved : goal.loop-record-preserved
loop-record-preserved c = λ h stands.
    let x = c.record-item.result in
    let more = one_more c.args.whole (effects_of h) c.live-record-items.result.now c.loop-record.record-index x (reverse c.loop-record.reports.items) c.in_ok-untold.untold c.loop-record-test.true c.record-item.is (c.in_ok-untold.ensures h x.number stands) (c.loop-record.invariant h stands) in
    grind (arith, common_steps, reverse-append)
