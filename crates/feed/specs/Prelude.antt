-- The words that the specifications take from below.
pub use Rattle.kept.specs.Finding.{AreThose}
pub use Rattle.kept.specs.Places.{AreFirsts, AreLeft, AreStored, IsFirst, IsLeastFloor, moved, place_floor, row_floor}
pub use Rattle.kept.specs.Replies.{messages_left}
pub use Rattle.kept.specs.Reports.{AreLive, complete_at, feed_report, resolved_at, told_through}
pub use Rattle.spans.specs.Collection.{VersionName}
pub use Rattle.spans.specs.Consumer.{is_after_name, name_of}
pub use Rattle.spans.specs.Effects.{After}
pub use Rattle.spans.specs.Feeds.{is_due, last_resolved, start_at}
pub use Rattle.spans.specs.Kept.{Place, last_name}
pub use Rattle.spans.specs.declared.calls.messages.Message.{Message}
pub use Rattle.std.specs.Map.{lookup}
pub use Rattle.timestamps.specs.declared.row.Row.{Row}
pub use Rattle.timestamps.specs.declared.ts.TheConstants.{MAX}
pub use Rattle.version_chain.specs.Stores.{Stored, is_committed_in, version_in}
