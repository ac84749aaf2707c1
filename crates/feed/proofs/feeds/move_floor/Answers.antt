use Rattle.std.proofs.Common.{subst}
use Rattle.feed.specs.Standing.{IsFloorMoved}
use Rattle.feed.proofs.Tying.{floor_moves, floor_stays}
use Rattle.feed.proofs.feeds.move_floor.Goals as goal

pub returns-then-from-to-clause-ok : goal.returns-then-from-to-clause-ok
returns-then-from-to-clause-ok c = subst (IsFloorMoved c.args.floors.now c.args.floors.now c.args.feed c.args.from) c.if-from-to.true (floor_stays c.args.floors.now c.args.from c.args.feed c.requires.stands)

pub returns-clause-ok : goal.returns-clause-ok
returns-clause-ok c = floor_moves c.args.floors.now c.insert.new.self c.remove.new.self c.args.from c.args.to c.args.feed c.if-from-to.false c.in_ok-insert.ensures.updates.0 c.remove.ensures.updates.0
