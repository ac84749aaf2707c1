use Rattle.std.proofs.Common.{◌≡◌, ◌∙◌, [], refl, sym}
use Rattle.version_chain.specs.declared.record.Record.{Record}
use Rattle.version_chain.specs.Stores.{chain_of}
use Rattle.version_chain.specs.Records.{IsPut, stored_of}
use Rattle.version_chain.proofs.Recorded.{IsHere, chain_here, chain_nowhere, changed_chain, kept_marks}
use Rattle.version_chain.proofs.Thinning.{thinned_none, thinned_put, counted_left, unlisted_in, unlisted_none}
use Rattle.version_chain.proofs.chains.Chains.drop_dead.Goals as goal
use Rattle.version_chain.proofs.chains.Chains.drop_dead.Goals.{After-free_idle, In_default}

here : (c : After-free_idle) → IsHere c.args.self.now.keys c.args.self.now.records.items c.args.key.now c.in-Some.number c.index_mut.result.now
here c = record { number = sym c.in-Some.ensures.number; own = c.in-Some.ensures.own; low = c.args.self.now.low c.args.key.now c.in-Some.number (sym c.in-Some.ensures.number); value = c.index_mut.ensures.value }

abbrev thinned : After-free_idle → Record
thinned c = record { chain = c.drop_dead-dropped.new.self; readers = c.index_mut.result.now.readers }

-- the chain that was there
chain : (c : After-free_idle) → chain_of (stored_of c.args.self.now) c.args.key.now ≡ c.index_mut.result.now.chain
chain c = let m = c.args.self.now in chain_here m.keys m.records.items m.spans m.forgotten c.args.key.now c.in-Some.number c.index_mut.result.now (here c)

put : (c : After-free_idle) → IsPut (stored_of c.args.self.now) (stored_of c.free_idle.new.self) c.args.key.now c.drop_dead-dropped.new.self
put c y = let m = c.args.self.now in c.free_idle.ensures.chains y ∙ changed_chain m.keys m.records.items m.spans m.forgotten c.args.key.now c.in-Some.number c.index_mut.result.now (thinned c) (here c) y

pub returns-clause-thinned : goal.returns-clause-thinned
returns-clause-thinned c = thinned_put (stored_of c.args.self.now) (stored_of c.free_idle.new.self) c.args.key.now c.drop_dead-dropped.new.self c.args.horizon (put c) c.index_mut.result.now.chain (chain c) c.drop_dead-dropped.ensures.left c.drop_dead-dropped.ensures.rising

pub returns-clause-counted : goal.returns-clause-counted
returns-clause-counted c = counted_left (stored_of c.args.self.now) (stored_of c.free_idle.new.self) c.args.key.now c.index_mut.result.now.chain c.drop_dead-dropped.result c.args.horizon (chain c) c.drop_dead-dropped.ensures.rising (returns-clause-thinned c) c.drop_dead-dropped.ensures.count

pub returns-clause-listed : goal.returns-clause-listed
returns-clause-listed c = unlisted_in (stored_of c.args.self.now) c.args.index.now c.drop_dead-dropped.new.index c.args.key.now c.index_mut.result.now.chain c.args.horizon (chain c) c.drop_dead-dropped.ensures.rising c.drop_dead-dropped.ensures.listed

pub returns-clause-marks : goal.returns-clause-marks
returns-clause-marks c = let m = c.args.self.now in
    λ x j. c.free_idle.ensures.marks x j ∙ kept_marks m.keys m.records.items m.spans m.forgotten c.args.key.now c.in-Some.number c.index_mut.result.now (thinned c) (here c) refl x j

-- no version is there
nowhere : (c : In_default) → chain_of (stored_of c.args.self.now) c.args.key.now ≡ []
nowhere c = let m = c.args.self.now in chain_nowhere m.keys m.records.items m.spans m.forgotten c.args.key.now (sym c.in_default.ensures.number)

pub returns-in_default-clause-thinned : goal.returns-in_default-clause-thinned
returns-in_default-clause-thinned c = thinned_none (stored_of c.args.self.now) c.args.key.now c.args.horizon (nowhere c)

pub returns-in_default-clause-listed : goal.returns-in_default-clause-listed
returns-in_default-clause-listed c = unlisted_none (stored_of c.args.self.now) c.args.index.now c.args.key.now c.args.horizon (nowhere c)
