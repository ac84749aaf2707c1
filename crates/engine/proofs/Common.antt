-- The words that the proofs take from below.
pub use Rattle.closing.specs.Standing.{Standing, closed_in, protections_in}
pub use Rattle.feed.proofs.Serving.{is_moved, is_opened, uncut}
pub use Rattle.feed.specs.Standing.{cut_at_max, opened_at, IsPolledBy, IsPut, opened_in, place_in}
pub use Rattle.feed.specs.Left.{IsFeedCount, count_or}
pub use Rattle.kept.proofs.Floors.{least_floor_is, place_floor_is, placed_by}
pub use Rattle.kept.proofs.Refusals.{refusal_is, used_is}
pub use Rattle.kept.specs.Answered.{IsAnswered, IsReplyOf, IsStep, IsWanting}
pub use Rattle.kept.specs.Changes.{IsAlike, IsMovedBy, IsOpenedAt}
pub use Rattle.kept.specs.Finding.{AreKeysOf, is_seen_blocked, kept_committed, seen}
pub use Rattle.kept.specs.Places.{AreLeft, AreNext, IsLeastFloor, or_min, place_floor}
pub use Rattle.kept.specs.Replies.{kept_opening_tests, messages_left, open_reply, poll_place, poll_reply}
pub use Rattle.kept.specs.StandsFor.{StandsFor}
pub use Rattle.mvto_rules.specs.Holding.{Steps, closing_of, holding, versions_of, IsReachedIn, kept_value_version, value_at}
pub use Rattle.spans.proofs.Copies.{AllAllowed}
pub use Rattle.spans.proofs.Dead.{committed_is, left_newest, older_dead}
pub use Rattle.spans.proofs.Histories.{effect_count, gapless_more, made_at_most, opened_at_most, turned_more}
pub use Rattle.spans.proofs.Legal.{blocked_in, keys_rise, legal_allowed, visible_in}
pub use Rattle.spans.proofs.Steps.{by_test, newest_fewer, newest_is, newest_reaches, newest_same, version_wrote}
pub use Rattle.spans.specs.Answer.{first_refusal, snapshot_tests, transaction_tests}
pub use Rattle.spans.specs.Collection.{Protection, floor_of, horizon_of, is_dead, live_feeds, protections_of, version_name}
pub use Rattle.spans.specs.Effects.{After, Begins, Effect, effects_of, event, kind_of, open_cmd}
pub use Rattle.spans.specs.Feeds.{Feed, feed_of, is_cancelled, next_messages}
pub use Rattle.spans.specs.Kept.{IsKeptOf, Kept, Place, kept_version, place_of, place_with, transaction_with}
pub use Rattle.spans.specs.Legal.{IsGapless}
pub use Rattle.spans.specs.Promises.{left_version_of}
pub use Rattle.spans.specs.Report.{IsReport, feed_limit, first_least, limit, limit_of, protection_limit, protection_report}
pub use Rattle.spans.specs.Transactions.{closed_of, is_committed, least_of, owner_of}
pub use Rattle.spans.specs.Versions.{committed_version_of, is_blocked, visible, write_of, written_keys}
pub use Rattle.spans.specs.declared.calls.commands.Cmd.{Cmd}
pub use Rattle.spans.specs.declared.calls.commands.Cmd.TheVariants.{Poll}
pub use Rattle.spans.specs.declared.calls.events.Event.{Event}
pub use Rattle.spans.specs.declared.calls.messages.Message.{Message}
pub use Rattle.spans.specs.declared.calls.replies.Refusal.TheVariants.{BelowHorizon, NotClosed, NotOwner}
pub use Rattle.spans.specs.declared.calls.replies.Reply.{Reply}
pub use Rattle.spans.specs.declared.calls.replies.Reply.TheVariants.{Messages, Opened, Refused}
pub use Rattle.spans.specs.declared.span.Span.{Span}
pub use Rattle.std.proofs.lemmas.Bool.{and_from, and_parts, both_ways, cases_lt, eq-eqb, eqb-true, false_from_ne_true, ltb-false, ltb-true}
pub use Rattle.std.proofs.lemmas.Bool.Decides.{nat_tests}
pub use Rattle.std.proofs.lemmas.List.{length_push, map-append, reverse-append}
pub use Rattle.std.proofs.lemmas.Result.{IfOk-weaker}
pub use Rattle.std.specs.Option.{is_some, option_copied, option_to_list}
pub use Rattle.timestamps.specs.declared.row.Row.{Row}
pub use Rattle.version_chain.specs.Stores.{Stored, is_committed_in, version_in}
