-- The words that clauses and specifications take from below.
pub use Rattle.closing.specs.Standing.{Standing, closed_in, made_in, protections_in}
pub use Rattle.kept.specs.Answered.{IsAnswered, IsStep, IsWanting}
pub use Rattle.kept.specs.Changes.{IsAbortedBy, IsAlike, IsClosedAt}
pub use Rattle.kept.specs.Finding.{AreKeysOf, AreThose, IsNumberOf, IsOldest, is_open, is_seen_blocked, kept_committed, refusal, seen}
pub use Rattle.kept.specs.Marks.{IsForgotten}
pub use Rattle.kept.specs.Places.{IsLeastFloor, or_min}
pub use Rattle.kept.specs.StandsFor.{nothing_kept}
pub use Rattle.spans.proofs.Keyed.{RisingKeys}
pub use Rattle.spans.specs.Effects.{After}
pub use Rattle.spans.specs.Kept.{Kept, Transaction}
pub use Rattle.spans.specs.Keys.{in_span, pairs_of, with_value}
pub use Rattle.spans.specs.declared.calls.commands.Cmd.TheVariants.{Abort, Begin, Close, CloseHard, Collect, Commit, Del, Get, Protect, Put, ReadAt, Release, Scan, ScanAt}
pub use Rattle.spans.specs.declared.calls.replies.Refusal.{Refusal}
pub use Rattle.spans.specs.declared.calls.replies.Refusal.TheVariants.{BelowHorizon, NoMemory, NotClosed, TooLate}
pub use Rattle.spans.specs.declared.calls.replies.Reply.TheVariants.{Refused}
pub use Rattle.spans.specs.declared.span.Span.{Span}
pub use Rattle.timestamps.specs.declared.ts.TheConstants.{MAX}
pub use Rattle.txn_table.specs.States.{Table, transaction_in}
pub use Rattle.version_chain.specs.Stores.{AreFilled, Entry, HaveSameMarks, Stored, has_versions, is_committed_in, marked_in, newest_in, version_in}
pub use Rattle.version_chain.specs.declared.chain.Version.{Version}
