-- The words that the proofs take from below.
pub use Rattle.closing.specs.Standing.{Standing, closed_in, made_in, protection, protections_in}
pub use Rattle.kept.proofs.Refusals.{within}
pub use Rattle.kept.proofs.Staying.{alike_self}
pub use Rattle.kept.specs.Answered.{IsAnswered, IsChangedBy, IsScanReply, IsStep, IsWanting, IsWriteReply}
pub use Rattle.kept.specs.Changes.{IsAbortedBy, IsAlike, IsBegun, IsClosedAt, IsCollectedTo, IsCommittedBy, IsHardClosedAt, IsReadBy, IsScannedBy, IsWritten}
pub use Rattle.kept.specs.Places.{reached}
pub use Rattle.kept.specs.Finding.{AreKeysOf, IsNextAbove, is_dropped, is_seen_blocked, seen, AreThose, IsNumberOf, IsOldest, is_open, reach, refusal}
pub use Rattle.kept.specs.Marks.{IsLate, IsNoted, IsPiece, until}
pub use Rattle.kept.specs.Replies.{begin_reply, get_reply, scan_reply, unless_refused, write_reply}
pub use Rattle.spans.proofs.Keyed.{IsIn, RisingKeys}
pub use Rattle.spans.proofs.Members.{AreDistinct, Has}
pub use Rattle.spans.proofs.Results.{any_err}
pub use Rattle.spans.proofs.Steps.{by_test, newest_is, newest_only}
pub use Rattle.spans.specs.Answer.{first_refusal, first_refusal_or}
pub use Rattle.spans.specs.Collection.{Protection, VersionName}
pub use Rattle.spans.specs.Effects.{After, effect}
pub use Rattle.spans.specs.Kept.{Kept, Transaction}
pub use Rattle.spans.specs.Keys.{in_span, pairs_of, with_value}
pub use Rattle.spans.specs.Legal.{is_accepted}
pub use Rattle.spans.specs.Versions.{newest, version_at}
pub use Rattle.spans.specs.declared.calls.commands.Cmd.TheVariants.{Abort, Begin, Close, CloseHard, Collect, Commit, Del, Get, Protect, Put, ReadAt, Release, Scan, ScanAt}
pub use Rattle.spans.specs.declared.calls.replies.Refusal.{Refusal}
pub use Rattle.spans.specs.declared.calls.replies.Refusal.TheVariants.{BelowHorizon, Blocked, NoMemory, NoProtection, NotClosed, TooLate, TsRange}
pub use Rattle.spans.specs.declared.calls.replies.Reply.{Reply}
pub use Rattle.spans.specs.declared.calls.replies.Reply.TheVariants.{Aborted, Closed, Collected, Committed, Found, Protected, Refused, Released, Rows, Started, Written}
pub use Rattle.spans.specs.declared.span.Span.{Span}
pub use Rattle.std.proofs.lemmas.Bool.{and_from, and_parts, both_ways, ltb-false, ltb-true, or_cases, or_left, or_right}
pub use Rattle.std.proofs.lemmas.Bool.Decides.{nat_tests}
pub use Rattle.std.proofs.lemmas.Grind.{common_steps}
pub use Rattle.std.proofs.lemmas.List.{append-nil, map-append}
pub use Rattle.std.proofs.lemmas.Map.Iter.{rest_all}
pub use Rattle.std.proofs.lemmas.Result.{on_err_weaker, on_ok_weaker}
pub use Rattle.std.specs.List.{AllByRecursion, list_any}
pub use Rattle.std.specs.List.Sorted.{IsStrictlyIncreasing}
pub use Rattle.std.specs.Map.{keys_of}
pub use Rattle.std.specs.Map.Iter.{deref_pair}
pub use Rattle.std.specs.Option.{option_copied}
pub use Rattle.timestamps.specs.declared.ts.TheConstants.{MAX}
pub use Rattle.txn_table.specs.States.{Table, transaction_in}
pub use Rattle.version_chain.proofs.InSpans.{chain_among, chain_nowhere, key_among, rises_filtered}
pub use Rattle.version_chain.specs.Stores.{AreFilled, Entry, chain_of, AreMarkedAt, IsCrossedIn, IsMarkedAt, newest_in, AreDroppedAt, HaveSameMarks, IsAsBefore, IsNewestIn, IsWrittenTo, Stored, after_of, is_committed_in, marked_in, version_in}
pub use Rattle.version_chain.specs.Versions.{IsNewestOf, IsNoneUpTo, version_of}
pub use Rattle.version_chain.specs.declared.chain.Version.{Version}
