use Rattle.std.proofs.Common.{sym}
use Rattle.plain_database.specs.Table.{ended}
use Rattle.plain_database.proofs.TableSteps.{set_is_changed}
use Rattle.plain_database.proofs.versions.time_table.TimeTable.end.Goals as goal

pub returns : goal.returns
returns c = rw ((c.get_mut.follows.holds (ended c.args.state c.in-Some.begun.now)).0, ← c.self.view_is)
    (set_is_changed (ended c.args.state) c.self.inside.map.entries c.args.ts c.in-Some.begun.now (sym c.in-Some.ensures.value))
