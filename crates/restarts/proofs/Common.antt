-- The words that the proofs take from below.
pub use Rattle.kept.proofs.AfterCloses.{open_is}
pub use Rattle.kept.proofs.Answering.{changed_stands, reply_is_answer, step_stands}
pub use Rattle.kept.proofs.Counts.{feeds_count, has_live, has_undecided, written_are}
pub use Rattle.kept.proofs.Dead.{high_live, kept_is, no_kept}
pub use Rattle.kept.proofs.Floors.{placed_by}
pub use Rattle.kept.proofs.Replying.{known_is}
pub use Rattle.kept.proofs.Standing.{alike_stands}
pub use Rattle.kept.specs.Answered.{IsChangedBy, IsReplyOf}
pub use Rattle.kept.specs.Changes.{IsAlike}
pub use Rattle.kept.specs.Finding.{AreKeysOf, is_dead_in, is_dropped, is_seen_blocked, seen, AreThose, IsNumberOf, IsOldest, is_open, new_transaction, reach, refusal}
pub use Rattle.kept.specs.Places.{AreLeft, AreNext, IsLeastFloor, moved, or_min, place_floor}
pub use Rattle.kept.specs.Replies.{abort_reply, begin_reply, cancel_reply, close_hard_reply, close_reply, collect_reply, commit_reply, feed_refusal, get_reply, kept_opening_tests, messages_left, open_reply, poll_place, poll_reply, protect_reply, read_at_reply, release_reply, scan_at_reply, scan_reply, stats_reply, unless_refused, write_reply}
pub use Rattle.kept.specs.StandsFor.{StandsFor}
pub use Rattle.spans.proofs.Copies.{AllAllowed, Allowed, not_both}
pub use Rattle.spans.proofs.Horizon.{horizon_low, least_low}
pub use Rattle.spans.proofs.Keyed.{IsIn, RisingKeys, filter_in, filter_rises}
pub use Rattle.spans.proofs.Legal.{keys_rise, legal_allowed, right_allowed, unless_is, written_in}
pub use Rattle.spans.proofs.Members.{AreDistinct, Has, among_has, distinct_filter, has_filter, has_is, in_has, open_distinct, rising_distinct}
pub use Rattle.spans.proofs.Steps.{by_test, key_itself, map_at_is, newest_fewer, newest_same, none_of, same_key, version_wrote}
pub use Rattle.spans.proofs.StreamOrder.{IsRowIn, IsStreamed, in_stream, stream_rises}
pub use Rattle.spans.proofs.WriteSets.{has, has_filtered, has_in, has_written, write_set_rises}
pub use Rattle.spans.specs.Answer.{answer_of, first_refusal_or, is_timestamp}
pub use Rattle.spans.specs.Collection.{LiveFeed, Protection, VersionName, horizon_of, is_dead, is_delete, live_feeds, protections_made, protections_of, version_name, versions_of}
pub use Rattle.spans.specs.Effects.{Aborts, After, Begins, Cancels, Closes, Collects, Commits, Effect, HardCloses, NoEffect, Opens, Polls, Protects, Reads, Releases, Scans, SnapshotReads, SnapshotScans, Writes, effect, effect_of, effects_of, event, kind_of}
pub use Rattle.spans.specs.Feeds.{Feed, feed_of, feeds_opened, start_at, untold_rows}
pub use Rattle.spans.specs.Kept.{IsCrossed, IsKeptOf, Kept, Place, Transaction, kept_version, place_of}
pub use Rattle.spans.specs.Keys.{in_span, pairs_of}
pub use Rattle.spans.specs.Legal.{IsLegal, IsRightEvent, is_accepted, may_lack_memory}
pub use Rattle.spans.specs.Versions.{Version, newest, committed_version_of, version_of, write_of, write_set, written_keys}
pub use Rattle.spans.specs.Promises.{left_version_of}
pub use Rattle.spans.specs.Reads.{too_late}
pub use Rattle.spans.specs.Streams.{rows_of, stream_of, written_value}
pub use Rattle.spans.specs.Transactions.{begun_of, closed_of, decided_through, is_aborted, is_committed, least_of, owner_of, undecided_timestamps}
pub use Rattle.spans.specs.declared.calls.commands.Cmd.{Cmd}
pub use Rattle.spans.specs.declared.calls.commands.Cmd.TheVariants.{Abort, Begin, Cancel, Close, CloseHard, Collect, Commit, Del, Get, Open, OpenEvery, OpenInitial, OpenInitialEvery, Poll, Protect, Put, ReadAt, Release, Scan, ScanAt, Stats}
pub use Rattle.spans.specs.declared.calls.events.Event.{Event}
pub use Rattle.spans.specs.declared.calls.replies.Refusal.TheVariants.{BelowClosed, BelowHorizon, Blocked, NoMemory, NoProtection, NotClosed, NotOwner, TooLate, TsRange, TsUsed}
pub use Rattle.spans.specs.declared.calls.replies.Reply.{Reply}
pub use Rattle.spans.specs.declared.calls.replies.Reply.TheVariants.{Aborted, Cancelled, Closed, Collected, Committed, Found, Messages, Opened, Protected, Refused, Released, Rows, Started, Written}
pub use Rattle.spans.specs.declared.kind.Kind.{Kind}
pub use Rattle.spans.specs.declared.span.Span.{Span}
pub use Rattle.std.proofs.lemmas.Bool.{and_from, and_parts, both_ways, eqb-true, leb-true, ltb-true, or_cases, or_left, or_parts, or_right}
pub use Rattle.std.proofs.lemmas.Bool.Decides.{nat_tests}
pub use Rattle.std.proofs.lemmas.Grind.{common_steps}
pub use Rattle.std.specs.List.{list_any}
pub use Rattle.timestamps.specs.declared.row.Row.{Row}
pub use Rattle.timestamps.specs.declared.ts.TheConstants.{MAX}
