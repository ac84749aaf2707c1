use Rattle.std.proofs.Common.{Some, ap, arith, length}
use Rattle.plain_database.proofs.Common.{effects_of, untold_rows}
use Rattle.plain_database.specs.FeedTie.{feed_part}
use Rattle.plain_database.proofs.Taken.{all_taken}
use Rattle.plain_database.proofs.database.PlainDatabase.untold_in.Goals as goal

pub returns : goal.returns
returns c = λ h f stands is.
    let rows = c.in_ok-rows.rows in
    let all = all_taken 18446744073709551615 rows.items (untold_rows (effects_of h) f (feed_part c.args.feed.now)) (c.in_ok-rows.ensures.left h f stands is) (omega (arith, rows.ok, rows.small)) in
    rw c.if-not-whole.false (ap Some (omega (arith, ap length all, c.len.ensures, rows.ok)))
