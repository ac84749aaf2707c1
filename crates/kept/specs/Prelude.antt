-- The words that the specifications take from below.
pub use Rattle.spans.specs.Answer.{answer_of, first_refusal_or, is_gap, is_timestamp}
pub use Rattle.spans.specs.Collection.{LiveFeed, Protection, VersionName, is_delete}
pub use Rattle.spans.specs.Effects.{Aborts, After, Begins, Cancels, Closes, Collects, Commits, Effect, HardCloses, NoEffect, Opens, Polls, Protects, Reads, Releases, Scans, SnapshotReads, SnapshotScans, Writes, effect, effect_of, effects_of, event, kind_of}
pub use Rattle.spans.specs.Feeds.{is_due, last_resolved, start_at}
pub use Rattle.spans.specs.Kept.{IsCrossed, IsKeptOf, Kept, Place, Transaction, kept_version, last_name, transaction_of}
pub use Rattle.spans.specs.Keys.{in_span, pairs_of}
pub use Rattle.spans.specs.Legal.{IsLegal, IsRightEvent, is_accepted, may_lack_memory}
pub use Rattle.spans.specs.Versions.{Version, newest}
pub use Rattle.spans.specs.Report.{IsReport, protection_report}
pub use Rattle.spans.specs.declared.calls.commands.Cmd.{Cmd}
pub use Rattle.spans.specs.declared.calls.commands.Cmd.TheVariants.{Abort, Begin, Cancel, Close, CloseHard, Collect, Commit, Del, Get, Open, OpenEvery, OpenInitial, OpenInitialEvery, Poll, Protect, Put, ReadAt, Release, Scan, ScanAt, Stats}
pub use Rattle.spans.specs.declared.calls.events.Event.{Event}
pub use Rattle.spans.specs.declared.calls.messages.Message.{Message}
pub use Rattle.spans.specs.declared.calls.replies.Refusal.{Refusal}
pub use Rattle.spans.specs.declared.calls.replies.Refusal.TheVariants.{BelowClosed, BelowHorizon, Blocked, Ended, FeedCancelled, GapRange, NoFeed, NoMemory, NoProtection, NoTxn, NotClosed, NotOwner, TooLate, TsRange, TsUsed}
pub use Rattle.spans.specs.declared.calls.replies.Reply.{Reply}
pub use Rattle.spans.specs.declared.calls.replies.Reply.TheVariants.{Aborted, Cancelled, Closed, Collected, Committed, Found, Messages, Opened, Protected, Refused, Released, Rows, Started, Written}
pub use Rattle.spans.specs.declared.kind.Kind.{Kind}
pub use Rattle.spans.specs.declared.report.Report.{Report}
pub use Rattle.spans.specs.declared.span.Span.{Span}
pub use Rattle.timestamps.specs.declared.row.Row.{Row}
pub use Rattle.timestamps.specs.declared.ts.TheConstants.{MAX}
