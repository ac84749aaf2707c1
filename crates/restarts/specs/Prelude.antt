-- The words that the specifications take from below.
pub use Rattle.spans.specs.Collection.{LiveFeed, Protection, horizon_of, is_dead, live_feeds, protections_made, protections_of, version_name}
pub use Rattle.spans.specs.Effects.{After, Effect, effects_of, event}
pub use Rattle.spans.specs.Legal.{IsLegal}
pub use Rattle.spans.specs.Streams.{stream_of, written_value}
pub use Rattle.spans.specs.Transactions.{begun_of, closed_of, is_undecided, owner_of}
pub use Rattle.spans.specs.declared.calls.commands.Cmd.{Cmd}
pub use Rattle.spans.specs.declared.calls.commands.Cmd.TheVariants.{Begin, Cancel, Close, CloseHard, Collect, Commit, Del, Open, Poll, Put, Release}
pub use Rattle.spans.specs.declared.calls.events.Event.{Event}
pub use Rattle.spans.specs.declared.calls.replies.Reply.{Reply}
pub use Rattle.spans.specs.declared.calls.replies.Reply.TheVariants.{Cancelled, Closed, Collected, Committed, Opened, Protected, Started, Written}
pub use Rattle.spans.specs.declared.span.Span.{Span}
