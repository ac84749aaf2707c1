-- What is told of a record is the report of its feed.
use Rattle.plain_database.proofs.Common.{Effect, common_steps, IsFeedReport, in_whole, untold_rows}
use Rattle.std.proofs.Common.{◌≡◌, ℕ, Bool, List, Option, length, arith}
use Rattle.plain_database.specs.declared.feeds.record.FeedRecord.{FeedRecord}
use Rattle.plain_database.specs.FeedTie.{feed_part, IsRecordOf, record_report}
use Rattle.plain_database.proofs.FeedTies.{floor_is}

pub record_reported : (whole : Bool) (p : List Effect) (x : FeedRecord) (untold : Option ℕ) → IsRecordOf p x.number x → untold ≡ in_whole whole (length (untold_rows p x.number (feed_part x))) → IsFeedReport whole p (record_report untold x)
record_reported whole p x untold is counted = grind (arith, common_steps, floor_is p x.number x)
