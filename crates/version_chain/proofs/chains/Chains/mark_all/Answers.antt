use Rattle.std.proofs.Common.{arith}
use Rattle.version_chain.specs.Records.{stored_of}
use Rattle.version_chain.proofs.Spanning.{all_marked}
use Rattle.version_chain.proofs.chains.Chains.mark_all.Goals as goal

pub returns-clause-ok : goal.returns-clause-ok
returns-clause-ok c = let m = c.make_room_for.new.self in
    all_marked (stored_of c.args.self.now) m.keys m.records.items c.make_room.new.records.items c.note_each.new.records.items m.spans c.raise.new.self m.forgotten c.args.ts c.args.span.now
    c.make_room_for.ensures.chains c.make_room_for.ensures.marks c.make_room.ensures.chains c.make_room.ensures.readers c.make_room_for.ensures.late (omega (arith, c.ranges.ts.fits)) c.in_ok-raise.ensures.ok c.note_each.ensures
