use Rattle.std.proofs.Common.{arith, refl, sym, ◌∙◌}
use Rattle.version_chain.proofs.Common.{has_room, readers_of}
use Rattle.version_chain.specs.declared.record.Record.{Record}
use Rattle.version_chain.proofs.Roaming.{kept_by, next_low, rooming_ends, walk_first, walk_next}
use Rattle.version_chain.proofs.chains.Chains.make_room.Goals as goal

pub loop-number-init : goal.loop-number-init
loop-number-init c = record { walk = walk_first (λ n q. has_room q.readers) c.args.keys.now c.args.records.now.items c.args.span.now c.into_iter-number-iterator.result c.numbers_in-number-items.ensures.rising (c.into_iter-number-iterator.ensures.into_iter_gives ∙ c.numbers_in-number-items.ensures.those); readers = refl }

pub index_mut-requires : goal.index_mut-requires
index_mut-requires c = omega (arith, next_low (λ n q. has_room q.readers) c.args.keys.now c.args.records.now.items c.loop-number.records.items c.args.span.now (c.in-Some.field-0-0.now, c.in-Some.number.now) c.loop-number.number-iterator c.next.new.self c.requires c.in-Some.ensures.steps c.loop-number.invariant.walk)

pub loop-number-preserved : goal.loop-number-preserved
loop-number-preserved c = let r = c.index_mut.result.now in let q : Record = record { chain = r.chain; readers = c.make_room.new.self } in record {
  walk = walk_next (λ n q. has_room q.readers) c.args.keys.now c.args.records.now.items c.loop-number.records.items c.args.span.now (c.in-Some.field-0-0.now, c.in-Some.number.now) c.loop-number.number-iterator c.next.new.self c.requires c.in-Some.ensures.steps c.loop-number.invariant.walk
      r q c.index_mut.ensures.value refl c.in_ok-make_room.ensures.room c.numbers_in-number-items.ensures.apart;
  readers = kept_by (λ (k : Record). readers_of k.readers) c.loop-number.records.items c.in-Some.number.now r q c.index_mut.ensures.value c.in_ok-make_room.ensures.readers ∙ c.loop-number.invariant.readers;
}

pub returns-in_err-make_room-clause-chains : goal.returns-in_err-make_room-clause-chains
returns-in_err-make_room-clause-chains c = kept_by (λ (k : Record). k.chain) c.loop-number.records.items c.in-Some.number.now c.index_mut.result.now (record { chain = c.index_mut.result.now.chain; readers = c.make_room.new.self }) c.index_mut.ensures.value refl ∙ c.loop-number.invariant.walk.chains

pub returns-in_err-make_room-clause-readers : goal.returns-in_err-make_room-clause-readers
returns-in_err-make_room-clause-readers c = kept_by (λ (k : Record). readers_of k.readers) c.loop-number.records.items c.in-Some.number.now c.index_mut.result.now (record { chain = c.index_mut.result.now.chain; readers = c.make_room.new.self }) c.index_mut.ensures.value c.make_room.ensures.readers ∙ c.loop-number.invariant.readers

pub returns-clause-room : goal.returns-clause-room
returns-clause-room c = rooming_ends c.args.keys.now c.args.records.now.items c.loop-number.records.items c.args.span.now c.loop-number.number-iterator (sym c.in-None.ensures.steps.0) c.loop-number.invariant.walk
