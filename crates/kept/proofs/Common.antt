-- The words that the proofs take from below.
pub use Rattle.spans.proofs.Copies.{AllAllowed, Allowed, IsActive, closed_grows, closed_stays, found_whole, kept, not_both}
pub use Rattle.spans.proofs.Dead.{IsDropped, committed_is, dead_is, older_dead}
pub use Rattle.spans.proofs.FeedFloors.{floor_from, floors_high, is_live, live_is, rest_above}
pub use Rattle.spans.proofs.Feeding.{IsFeeding, ResolvedRise, apart_rises, due_if, fed, feed_rises, feeding, last_join, resolved_join, some_gap, uncancelled, unopened, untold_is}
pub use Rattle.spans.proofs.Horizon.{horizon_low, least_join, least_low}
pub use Rattle.spans.proofs.Keyed.{IsIn, RisingKeys, filter_in, filter_rises, filtered_same, pairs_alike, pairs_of_some}
pub use Rattle.spans.proofs.Legal.{blocked_in, keys_rise, legal_allowed, right_allowed, settled_in, visible_in}
pub use Rattle.spans.proofs.Listing.{IsListed, in_list, list_rises, listed_above, listed_low, start_low}
pub use Rattle.spans.proofs.Members.{AreDistinct, Has, all_of, among_has, distinct_filter, has_filter, has_is, in_has, open_distinct, parted, rising_distinct, same_length}
pub use Rattle.spans.proofs.Open.{begun_among, least_below, open_above}
pub use Rattle.spans.proofs.RowOrder.{name_order}
pub use Rattle.spans.proofs.Steps.{by_test, map_at_is, newest_fewer, newest_is, newest_only, newest_reaches, newest_same, same_key, version_wrote}
pub use Rattle.spans.proofs.StreamOrder.{IsRowIn, RisingRows, in_append, rises_append, rises_parts, rows_clash}
pub use Rattle.spans.proofs.VersionNames.{has_versions, versions_distinct}
pub use Rattle.spans.specs.Answer.{answer_of, first_refusal, first_refusal_or, is_owner, snapshot_tests, transaction_tests, with_feed}
pub use Rattle.spans.specs.Collection.{LiveFeed, Protection, VersionName, collection_horizon, dead_of, floor_after, floor_of, horizon_of, is_dead, is_delete, live_feeds, version_name, versions_of}
pub use Rattle.spans.specs.Consumer.{is_after_name, name_of}
pub use Rattle.spans.specs.Effects.{Aborts, After, Begins, Cancels, Closes, Collects, Commits, Effect, HardCloses, NoEffect, Opens, Polls, Protects, Reads, Releases, Scans, SnapshotReads, SnapshotScans, Writes, effect, effect_of, effects_of, event, kind_of}
pub use Rattle.spans.specs.Feeds.{Feed, due_message, feed_of, feeds_opened, is_cancelled, is_due, last_resolved, next_messages, resolved_of, rows_in, start_at, start_of, told_to, untold_rows}
pub use Rattle.spans.specs.Kept.{IsCrossed, IsKeptOf, Kept, Place, Transaction, kept_version, last_name, place_of, place_with, transaction_with}
pub use Rattle.spans.specs.Keys.{in_span, insert_key, insert_where, pairs_of}
pub use Rattle.spans.specs.Legal.{IsRightEvent, is_accepted}
pub use Rattle.spans.specs.Versions.{IsNewest, Version, newest, version_at, committed_value, committed_version_of, is_blocked, version_of, visible, write_count, write_of, write_set, written_keys}
pub use Rattle.spans.specs.Reads.{too_late}
pub use Rattle.spans.specs.Transactions.{begun_of, closed_of, decided_through, is_aborted, is_committed, is_undecided, least_of, owner_of, undecided_timestamps}
pub use Rattle.spans.specs.declared.calls.commands.Cmd.TheVariants.{Abort, Begin, Cancel, Close, CloseHard, Collect, Commit, Del, Get, Open, OpenEvery, OpenInitial, OpenInitialEvery, Poll, Protect, Put, ReadAt, Release, Scan, ScanAt, Stats}
pub use Rattle.spans.specs.declared.calls.events.Event.{Event}
pub use Rattle.spans.specs.declared.calls.messages.Message.{Message}
pub use Rattle.spans.specs.declared.calls.replies.Refusal.{Refusal}
pub use Rattle.spans.specs.declared.calls.replies.Refusal.TheVariants.{BelowHorizon, Blocked, Ended, FeedCancelled, NoFeed, NoTxn, NotClosed, NotOwner, TooLate, TsRange}
pub use Rattle.spans.specs.declared.calls.replies.Reply.{Reply}
pub use Rattle.spans.specs.declared.calls.replies.Reply.TheVariants.{Aborted, Cancelled, Closed, Collected, Committed, Found, Messages, Refused, Rows, Written}
pub use Rattle.spans.specs.declared.kind.Kind.{Kind}
pub use Rattle.spans.specs.declared.span.Span.{Span}
pub use Rattle.spans.specs.declared.state.State.{State}
pub use Rattle.std.proofs.lemmas.Bool.{and_from, and_parts, both_ways, eq-eqb, eqb-true, false_from_ne_true, le-leb, leb-true, lt-ltb, ltb-false, ltb-true, not-true, or_cases, or_left, or_right}
pub use Rattle.std.proofs.lemmas.Bool.Decides.{nat_tests}
pub use Rattle.std.proofs.lemmas.Grind.{common_steps}
pub use Rattle.std.proofs.lemmas.List.{map-append, reverse-append, take-take}
pub use Rattle.std.proofs.lemmas.List.Elements.{All-contains, All-from_recursion, All-weaker, Contains-append_right}
pub use Rattle.std.specs.List.{AllByRecursion}
pub use Rattle.std.specs.Ordering.{nat_cmp, ordering_reverse}
pub use Rattle.std.specs.declared.cmp.Ordering.TheVariants.{Equal, Greater, Less}
pub use Rattle.timestamps.specs.declared.row.Row.{Row}
pub use Rattle.timestamps.specs.declared.ts.TheConstants.{MAX}
