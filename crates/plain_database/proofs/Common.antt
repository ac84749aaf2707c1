-- The words that the proofs take from below.
pub use Rattle.kept.proofs.Counts.{has_undecided, write_set_length}
pub use Rattle.kept.proofs.Untold.{beyond_is, only_rows}
pub use Rattle.restarts.proofs.InRange.{at_most, each_low, first_low, has_mark}
pub use Rattle.restarts.specs.Dump.{greatest_of, mark_of, all_keys, is_left, left_rows}
pub use Rattle.spans.proofs.Ascending.{rising_keys}
pub use Rattle.spans.proofs.Closed.{closed_committed, closed_value, closed_version, wrote_begun}
pub use Rattle.spans.proofs.Copies.{AllAllowed, Allowed, IsActive, closed_stays, not_both}
pub use Rattle.spans.proofs.FeedFloors.{floor_append, floor_from, is_live}
pub use Rattle.spans.proofs.Feeding.{feeding, uncancelled, unopened, untold_is}
pub use Rattle.spans.proofs.Horizon.{horizon_low, least_join, least_low, protections_high}
pub use Rattle.spans.proofs.Keyed.{IsIn, RisingKeys, add_rises, added_in, filter_in, filter_rises, filtered_same, only_in, pairs_of_some, stays_in}
pub use Rattle.spans.proofs.Legal.{blocked_in, keys_rise, legal_allowed, right_allowed, visible_in}
pub use Rattle.spans.proofs.Listing.{start_low}
pub use Rattle.spans.proofs.Members.{AreDistinct, Has, among_has, distinct_append, distinct_filter, fits_in, has_append, has_begun, has_filter, has_is, in_has, open_distinct, rising_distinct, same_length}
pub use Rattle.spans.proofs.Open.{begun_among, open_above}
pub use Rattle.spans.proofs.Refusals.{first_met, none_met, tests_past}
pub use Rattle.spans.proofs.Results.{any_err}
pub use Rattle.spans.proofs.Sets.{all_within, distinct_times, has_any, is_found, number_at, one_less, one_more}
pub use Rattle.spans.proofs.Steps.{by_test, key_itself, map_at_is, newest_is, newest_like, newest_only, newest_rises, newest_same, none_of, same_key, version_wrote}
pub use Rattle.spans.proofs.StreamOrder.{IsRowIn, IsStreamed, RisingRows, in_append, in_stream, rises_append, stream_rises}
pub use Rattle.spans.proofs.VersionNames.{has_versions, versions_distinct}
pub use Rattle.spans.specs.Answer.{answer_of, first_refusal, first_refusal_or, horizon_tests, snapshot_tests, transaction_tests}
pub use Rattle.spans.specs.Collection.{LiveFeed, Protection, VersionName, collection_horizon, dead_of, floor_of, horizon_of, is_dead, is_delete, live_feed, live_feeds, protections_made, protections_of, version_name, versions_of}
pub use Rattle.spans.specs.Consumer.{name_of}
pub use Rattle.spans.specs.Effects.{Aborts, After, Begins, Cancels, Collects, Commits, Effect, HardCloses, NoEffect, Opens, Polls, Reads, Scans, SnapshotReads, SnapshotScans, Writes, effect, effects_of, event, kind_of, open_cmd}
pub use Rattle.spans.specs.Feeds.{Feed, due_message, feed_of, feeds_opened, first_rows, is_cancelled, is_due, list_of, next_messages, resolved_of, rows_in, same_version, start_at, told_to, untold_rows}
pub use Rattle.spans.specs.KeyOrder.{below_high, key_lt, start_of}
pub use Rattle.spans.specs.Keys.{in_span, insert_key, insert_where, pairs_of, with_value}
pub use Rattle.spans.specs.Legal.{IsLegal, IsRightEvent, is_accepted, may_lack_memory}
pub use Rattle.spans.specs.Versions.{IsNewest, Version, newer_or, newest, committed_value, committed_version_of, is_blocked, version_of, visible, write_count, write_of, write_set, written_keys}
pub use Rattle.spans.specs.Report.{AreFeeds, AreUndecided, IsFeedReport, feed_limit, first_least, in_whole, last_told, limit, limit_of, protection_limit, removable_of}
pub use Rattle.spans.specs.Streams.{stream_of}
pub use Rattle.spans.specs.Transactions.{begun_of, closed_of, decided_through, is_aborted, is_committed, is_undecided, least_of, owner_of, undecided_timestamps}
pub use Rattle.spans.specs.declared.calls.commands.Cmd.{Cmd}
pub use Rattle.spans.specs.declared.calls.commands.Cmd.TheVariants.{Abort, Begin, Close, CloseHard, Collect, Commit, Del, Get, Poll, Protect, Put, ReadAt, Scan, ScanAt, Stats}
pub use Rattle.spans.specs.declared.calls.events.Event.{Event}
pub use Rattle.spans.specs.declared.calls.messages.Message.{Message}
pub use Rattle.spans.specs.declared.calls.replies.Refusal.{Refusal}
pub use Rattle.spans.specs.declared.calls.replies.Refusal.TheVariants.{Blocked, Ended, NoMemory, NotClosed, TooLate, TsRange}
pub use Rattle.spans.specs.declared.calls.replies.Reply.{Reply}
pub use Rattle.spans.specs.declared.calls.replies.Reply.TheVariants.{Aborted, Closed, Collected, Committed, Found, Messages, Opened, Protected, Refused, Rows, Started, Written}
pub use Rattle.spans.specs.declared.kind.Kind.{Kind}
pub use Rattle.spans.specs.declared.report.FeedReport.{FeedReport}
pub use Rattle.spans.specs.declared.span.Span.{Span}
pub use Rattle.spans.specs.declared.state.State.{State}
pub use Rattle.std.proofs.Math.Bool.{and-false, and-true, and_assoc, or_assoc}
pub use Rattle.std.proofs.lemmas.Bool.{and_from, and_parts, both_ways, eq-eqb, eqb-true, false_from_ne_true, le-leb, le-ltb, leb-true, lt-ltb, ltb-false, ltb-true, ne_eqb, or_cases, or_left, or_parts, or_right}
pub use Rattle.std.proofs.lemmas.Bool.Decides.{nat_tests}
pub use Rattle.std.proofs.lemmas.Cmp.{nat_list_cmp_total, tied_itself}
pub use Rattle.std.proofs.lemmas.Grind.{common_steps}
pub use Rattle.std.proofs.lemmas.List.{append-nil, drop_more, length-append, length-map, length-take, map-append, nil_from_length, reverse-append, take_all}
pub use Rattle.std.proofs.lemmas.List.Elements.{All-cons, All-get_or, All-head, All-nil, All-tail, All-weaker, AllZip-push}
pub use Rattle.std.proofs.lemmas.Map.Steps.{set_value_same}
pub use Rattle.std.proofs.lemmas.Map.Text.{is_eq-slice_cmp}
pub use Rattle.std.proofs.lemmas.Result.{IfOk-weaker, on_err_weaker, on_ok_weaker}
pub use Rattle.std.specs.BTreeMap.{BTreeMap, insert_entry, is_at}
pub use Rattle.std.specs.BTreeMap.Range.{entries_between, range_contains}
pub use Rattle.std.specs.BTreeSet.{BTreeSet, IsOrdered, contains}
pub use Rattle.std.specs.List.{AllByRecursion, filter, find, list_any}
pub use Rattle.std.specs.List.Sorted.{IsStrictlySortedBy}
pub use Rattle.std.specs.Map.{keys_of, lookup, set_value}
pub use Rattle.std.specs.Option.{option_copied}
pub use Rattle.std.specs.Ordering.{is_eq, is_gt, is_lt, match_ordering, nat_cmp, ordering_reverse}
pub use Rattle.std.specs.declared.cmp.Ordering.{Ordering}
pub use Rattle.std.specs.declared.cmp.Ordering.TheVariants.{Equal, Greater, Less}
pub use Rattle.std.specs.declared.ops.Bound.TheVariants.{Excluded, Included, Unbounded}
pub use Rattle.timestamps.specs.Bytes.{key_cmp}
pub use Rattle.timestamps.specs.declared.row.Row.{Row}
pub use Rattle.timestamps.specs.declared.ts.TheConstants.{MAX}
