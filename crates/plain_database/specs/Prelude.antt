-- The words that clauses and specifications take from below.
pub use Rattle.restarts.specs.Dump.{greatest_of, left_rows, mark_of}
pub use Rattle.spans.proofs.Copies.{AllAllowed}
pub use Rattle.spans.proofs.Keyed.{RisingKeys}
pub use Rattle.spans.specs.Answer.{answer_of, first_refusal, first_refusal_or, horizon_tests, is_gap, opening_answer, snapshot_tests, transaction_tests}
pub use Rattle.spans.specs.Collection.{LiveFeed, Protection, VersionName, collection_horizon, dead_of, floor_after, floor_of, horizon_of, is_protected, live_feeds, protections_made, protections_of, versions_of}
pub use Rattle.spans.specs.Effects.{After, Cancels, Closes, Collects, Effect, HardCloses, Opens, Polls, Protects, Releases, effects_of, event, kind_of, open_cmd}
pub use Rattle.spans.specs.Feeds.{Feed, feed_of, feeds_opened, is_cancelled, is_due, last_resolved, next_messages, start_at, told_to, untold_rows}
pub use Rattle.spans.specs.Kept.{last_name}
pub use Rattle.spans.specs.KeyOrder.{from_low, key_lt, start_of}
pub use Rattle.spans.specs.Keys.{in_span, pairs_of, with_value}
pub use Rattle.spans.specs.Legal.{IsLegal, IsRightEvent, is_accepted, may_lack_memory}
pub use Rattle.spans.specs.Reads.{too_late}
pub use Rattle.spans.specs.Report.{AreFeeds, AreUndecided, IsReport, in_whole, last_told, limit_of, protection_report}
pub use Rattle.spans.specs.Streams.{pair_row, rows_of, stream_of}
pub use Rattle.spans.specs.Transactions.{begun_of, closed_of, decided_through, is_aborted, is_committed, least_of, owner_of, undecided_timestamps}
pub use Rattle.spans.specs.Versions.{Version, committed_value, is_blocked, newest, version_at, visible, write_of, write_set, written_keys}
pub use Rattle.spans.specs.declared.calls.commands.Cmd.{Cmd}
pub use Rattle.spans.specs.declared.calls.commands.Cmd.TheVariants.{Abort, Begin, Cancel, Close, CloseHard, Collect, Commit, Del, Get, Poll, Protect, Put, ReadAt, Release, Scan, ScanAt, Stats}
pub use Rattle.spans.specs.declared.calls.events.Event.{Event}
pub use Rattle.spans.specs.declared.calls.messages.Message.{Message}
pub use Rattle.spans.specs.declared.calls.replies.Refusal.{Refusal}
pub use Rattle.spans.specs.declared.calls.replies.Refusal.TheVariants.{Blocked, FeedCancelled, NoFeed, NotOwner, TooLate}
pub use Rattle.spans.specs.declared.calls.replies.Reply.{Reply}
pub use Rattle.spans.specs.declared.calls.replies.Reply.TheVariants.{Opened, Written}
pub use Rattle.spans.specs.declared.span.Span.{Span}
pub use Rattle.spans.specs.declared.state.State.{State}
pub use Rattle.spans.specs.declared.state.State.TheVariants.{Aborted, Committed, Undecided}
pub use Rattle.std.specs.List.{list_any}
pub use Rattle.std.specs.Map.{keys_of, lookup}
pub use Rattle.std.specs.Ordering.{nat_cmp}
pub use Rattle.timestamps.specs.Bytes.{key_cmp}
pub use Rattle.timestamps.specs.declared.row.Row.{Row}
pub use Rattle.timestamps.specs.declared.ts.TheConstants.{MAX}
