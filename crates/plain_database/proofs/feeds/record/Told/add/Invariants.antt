use Rattle.std.proofs.Common.{◌≡◌, drop}
use Rattle.std.specs.Prelude.{option_map}
use Rattle.std.specs.Option.{option_copied, option_or}
use Rattle.plain_database.proofs.Common.{name_of}
use Rattle.plain_database.specs.FeedTie.{told_more}
use Rattle.plain_database.proofs.feeds.record.Told.add.Given as goal

-- what is left gives the whole answer
abbrev pub invariant-loop-message : goal.invariant-loop-message
invariant-loop-message l =
    told_more (drop l.message-index l.messages) (record { row = option_or (option_map name_of (option_copied l.last)) l.self.row; resolved = l.resolved; latest = l.latest; floor = l.floor })
    ≡ told_more l.messages l.self
