use Rattle.std.proofs.Common.{arith, sym, ◌∙◌}
use Rattle.version_chain.proofs.Roaming.{IsNotedAt, next_low, noted_next, noting_ends, room_next, walk_first, walk_next}
use Rattle.version_chain.proofs.chains.Chains.note_each.Goals as goal

pub loop-number-init : goal.loop-number-init
loop-number-init c = walk_first (IsNotedAt c.args.records.now.items c.args.ts c.args.forgotten) c.args.keys.now c.args.records.now.items c.args.span.now c.into_iter-number-iterator.result c.numbers_in-number-items.ensures.rising (c.into_iter-number-iterator.ensures.into_iter_gives ∙ c.numbers_in-number-items.ensures.those)

pub index_mut-requires : goal.index_mut-requires
index_mut-requires c = omega (arith, next_low (IsNotedAt c.args.records.now.items c.args.ts c.args.forgotten) c.args.keys.now c.args.records.now.items c.loop-number.records.items c.args.span.now (c.in-Some.field-0-0.now, c.in-Some.number.now) c.loop-number.number-iterator c.next.new.self c.requires.low c.in-Some.ensures.steps c.loop-number.invariant)

pub note-requires-clause-room : goal.note-requires-clause-room
note-requires-clause-room c = room_next c.args.keys.now c.args.records.now.items c.loop-number.records.items c.args.span.now c.args.ts c.args.forgotten (c.in-Some.field-0-0.now, c.in-Some.number.now) c.loop-number.number-iterator c.next.new.self c.requires.low c.in-Some.ensures.steps c.loop-number.invariant c.index_mut.result.now c.index_mut.ensures.value c.requires.room

pub loop-number-preserved : goal.loop-number-preserved
loop-number-preserved c = walk_next (IsNotedAt c.args.records.now.items c.args.ts c.args.forgotten) c.args.keys.now c.args.records.now.items c.loop-number.records.items c.args.span.now (c.in-Some.field-0-0.now, c.in-Some.number.now) c.loop-number.number-iterator c.next.new.self c.requires.low c.in-Some.ensures.steps c.loop-number.invariant c.index_mut.result.now c.note.new.self c.index_mut.ensures.value c.note.ensures.chain
    (noted_next c.args.keys.now c.args.records.now.items c.loop-number.records.items c.args.span.now c.args.ts c.args.forgotten (c.in-Some.field-0-0.now, c.in-Some.number.now) c.loop-number.number-iterator c.next.new.self c.requires.low c.in-Some.ensures.steps c.loop-number.invariant c.index_mut.result.now c.index_mut.ensures.value c.note.new.self c.note.ensures.noted) c.numbers_in-number-items.ensures.apart

pub returns : goal.returns
returns c = noting_ends c.args.keys.now c.args.records.now.items c.loop-number.records.items c.args.span.now c.args.ts c.args.forgotten c.loop-number.number-iterator c.requires.low (sym c.in-None.ensures.steps.0) c.loop-number.invariant
