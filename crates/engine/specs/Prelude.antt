-- The words that clauses and specifications take from below.
pub use Rattle.closing.specs.Standing.{closed_in}
pub use Rattle.engine.specs.declared.looking.Places.{Places}
pub use Rattle.feed.specs.Left.{count_or}
pub use Rattle.feed.specs.Standing.{Standing, opened_in, place_in}
pub use Rattle.kept.specs.Answered.{IsStep}
pub use Rattle.kept.specs.Replies.{feed_refusal, kept_opening_tests}
pub use Rattle.mvto_rules.specs.Holding.{IsLimit, IsReachedIn, closing_of, holding, transactions_of}
pub use Rattle.mvto_rules.specs.Scans.{end_within}
pub use Rattle.spans.specs.Answer.{answer_of, first_refusal, snapshot_tests, transaction_tests}
pub use Rattle.spans.specs.Collection.{floor_of, horizon_of, live_feed}
pub use Rattle.spans.specs.Effects.{Effect, effects_of, event, open_cmd}
pub use Rattle.spans.specs.Feeds.{Feed, feed_of, is_cancelled, next_messages}
pub use Rattle.spans.specs.Kept.{Kept, Place, place_of}
pub use Rattle.spans.specs.Report.{IsReport, limit_of}
pub use Rattle.spans.specs.Transactions.{closed_of, is_undecided, owner_of}
pub use Rattle.spans.specs.Versions.{committed_version_of, is_blocked, newest, visible, written_keys}
pub use Rattle.spans.specs.declared.calls.commands.Cmd.{Cmd}
pub use Rattle.spans.specs.declared.calls.commands.Cmd.TheVariants.{Cancel, Collect, Poll, Scan, ScanAt, Stats}
pub use Rattle.spans.specs.declared.calls.events.Event.{Event}
