-- The words that the proofs take from below.
pub use Rattle.follow.specs.Following.{begins_message, is_feed, is_taking_after, polled_among, polled_by, polled_in, is_chosen, start_of, Followed, chosen_at, followed_lines, followed_through, line_at, onto_followed, said_by}
unfoldable pub use Rattle.follow.specs.Following.{followed_at}
pub use Rattle.follow.specs.Reports.{IsFollowReport, shown_before}
pub use Rattle.follow.specs.declared.options.FollowOptions.{FollowOptions}
unfoldable pub use Rattle.json_lines.specs.Messages.{message_line}
pub use Rattle.json_lines.specs.Messages.{IsAfter, IsKey, IsMessage, after_text, base64, symbols}
pub use Rattle.json_lines.specs.Tests.{message_at}
pub use Rattle.replica.specs.Replicas.{Takes, span_in, test_of, view_in}
pub use Rattle.replica.specs.Starts.{IsStartOf, Pairs, Start, seeded_start}
pub use Rattle.replica.specs.declared.replica.Replica.{Replica}
pub use Rattle.script.proofs.CutLines.{lines_again, words_line_again}
pub use Rattle.script.proofs.EventsAgain.{row_again, transcript_again}
unfoldable pub use Rattle.script.specs.EventLines.{lines_of}
pub use Rattle.script.specs.Transcripts.{events_text, transcript_at, transcript_text}
pub use Rattle.sessions.specs.Runs.{BeginWith, IsOpenAt, IsServed, MayHold, calls_of}
pub use Rattle.spans.proofs.Copies.{AllAllowed}
pub use Rattle.spans.proofs.Floors.{taken_after}
pub use Rattle.spans.proofs.Histories.{effect_count, made_at_most, opened_at_most, turned_more}
pub use Rattle.spans.proofs.Horizon.{horizon_low, least_low}
pub use Rattle.spans.proofs.Keyed.{IsIn, among_rows, filter_in, only_in}
pub use Rattle.spans.proofs.Lawful.{lawful}
pub use Rattle.spans.proofs.Legal.{Follows, each_key, in_txn, legal_allowed, settled_in, unless_is}
pub use Rattle.spans.proofs.ReportLimit.{All-reverse}
pub use Rattle.spans.proofs.Steps.{by_test, map_at_is, newest_is, same_key, version_wrote}
pub use Rattle.spans.specs.Collection.{LiveFeed, Protection, collection_horizon, dead_of, floor_of, horizon_of, is_protected, live_feeds, protections_made, protections_of, versions_of}
pub use Rattle.spans.specs.Consumer.{AllTaken, ApplyFault, ConsumerIsRight, apply_fault, seed_of, view_of}
pub use Rattle.spans.specs.Effects.{After, Begins, Cancels, Collects, Effect, Opens, Writes, effect, effects_of, kind_of}
pub use Rattle.spans.specs.Feeds.{Feed, due_message, feed_of, feeds_opened, is_cancelled, is_due, list_of, next_messages, resolved_of, rows_in, same_version, told_to, untold_rows}
pub use Rattle.spans.specs.Keys.{AreRows, in_span, insert_key, insert_where, pairs_of, value_among, with_value, Has}
pub use Rattle.spans.specs.Legal.{IsGapless, IsLegal, IsRightEvent}
pub use Rattle.spans.specs.Serial.{Map, map_at, put, span_part}
pub use Rattle.spans.specs.Transactions.{begun_of, closed_of, decided_through, is_undecided, owner_of, undecided_timestamps}
pub use Rattle.spans.specs.Versions.{committed_value, committed_version_of, is_blocked, version_of, visible, write_count, write_of, written_keys}
pub use Rattle.spans.specs.declared.calls.commands.Cmd.{Cmd}
pub use Rattle.spans.specs.declared.calls.commands.Cmd.TheVariants.{Abort, Begin, Cancel, Close, CloseHard, Collect, Commit, Del, Get, Open, OpenEvery, OpenInitial, OpenInitialEvery, Poll, Protect, Put, ReadAt, Release, Scan, ScanAt, Stats}
pub use Rattle.spans.specs.declared.calls.events.Event.{Event}
pub use Rattle.spans.specs.declared.calls.messages.Message.{Message}
pub use Rattle.spans.specs.declared.calls.replies.Refusal.TheVariants.{BelowClosed, BelowHorizon, Blocked, Ended, FeedCancelled, GapRange, NoFeed, NoMemory, NoProtection, NoTxn, NotClosed, NotOwner, TooLate, TsRange, TsUsed}
pub use Rattle.spans.specs.declared.calls.replies.Reply.{Reply}
pub use Rattle.spans.specs.declared.calls.replies.Reply.TheVariants.{Aborted, Cancelled, Closed, Collected, Committed, Found, Messages, Opened, Protected, Refused, Released, Rows, Started, Written}
pub use Rattle.spans.specs.declared.span.Span.{Span}
pub use Rattle.std.proofs.lemmas.Bool.{and_parts, both_ways, eq-eqb, ne_eqb}
pub use Rattle.std.proofs.lemmas.Fmt.{decimal_nonempty, length-decimal-le}
pub use Rattle.std.proofs.lemmas.List.{append-nil, length-append, length-replicate, length-reverse, reverse-append, reverse-reverse}
pub use Rattle.std.proofs.lemmas.List.Elements.{All-append, All-cons, All-filter, All-from_recursion, All-map, All-nil, All-take, All-weaker, recursion_from_All}
pub use Rattle.std.specs.List.{All, AllByRecursion, flat_map, list_all, list_any}
pub use Rattle.text_format.specs.Limits.{format_of, header, key_limit, line_limit, value_limit}
pub use Rattle.text_format.specs.declared.Format.{Format}
pub use Rattle.text_format.specs.declared.Format.TheVariants.{One, Two}
pub use Rattle.ticket_lock.specs.Lists.{StartsWith, of_seat}
pub use Rattle.timestamps.specs.declared.row.Row.{Row}
pub use Rattle.timestamps.specs.declared.ts.TheConstants.{MAX}
pub use Rattle.trace_check.proofs.TraceSteps.{gapless_begins, gapless_from_first, wrong_is_no_trace}
pub use Rattle.word_lines.proofs.JoinedParts.{IsWord, Lacks, decimal_all, is_false, text_again, words_again}
pub use Rattle.word_lines.proofs.ReadWords.{ok_is}
pub use Rattle.word_lines.proofs.WrittenWords.{bytes_few, bytes_word, command_few, joined_few, letters, number_length, number_word, room, words_then}
unfoldable pub use Rattle.word_lines.specs.Events.{words_of, following_lines, reply_words}
pub use Rattle.word_lines.specs.Events.{joined, event_text, heading_text, refusal_words, row_line}
unfoldable pub use Rattle.word_lines.specs.Limits.{IsCommand, IsReply}
pub use Rattle.word_lines.specs.Limits.{IsEvent, IsNumber, IsPair, IsRefusal, KeepsLimit}
pub use Rattle.word_lines.specs.Words.{text_at}
