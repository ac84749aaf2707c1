-- The words that the specifications take from below.
pub use Rattle.embedded_replica.specs.Consumers.{BeginsWith, pairs_at, seeded_of}
pub use Rattle.follow.specs.declared.options.FollowOptions.{FollowOptions}
pub use Rattle.json_lines.specs.Messages.{message_line}
pub use Rattle.replica.specs.Replicas.{Follows, Takes, span_in, view_in}
pub use Rattle.replica.specs.Starts.{IsStartOf, Pairs, Start}
pub use Rattle.replica.specs.declared.replica.Replica.{Replica}
pub use Rattle.script.specs.Transcripts.{transcript_at, transcript_text}
pub use Rattle.sessions.specs.Devices.{Reads, Writes}
pub use Rattle.sessions.specs.Runs.{IsServed, MayHold}
pub use Rattle.sessions.specs.declared.ending.ServeEnd.{ServeEnd}
pub use Rattle.spans.specs.Effects.{Effect, effects_of}
pub use Rattle.spans.specs.Feeds.{Feed, feed_of, told_to}
pub use Rattle.spans.specs.declared.calls.events.Event.{Event}
pub use Rattle.spans.specs.declared.calls.messages.Message.{Message}
pub use Rattle.std.specs.List.{All, flat_map}
pub use Rattle.text_format.specs.declared.Format.{Format}
pub use Rattle.text_format.specs.declared.Format.TheVariants.{Two}
pub use Rattle.word_lines.specs.Limits.{IsCommand, IsEvent, IsPair, KeepsLimit}
pub use Rattle.word_lines.specs.Events.{row_line}
