use Rattle.std.proofs.Common.{refl, sym}
use Rattle.std.specs.Prelude.{option_map}
use Rattle.version_chain.specs.Versions.{as_committed}
use Rattle.version_chain.specs.Records.{stored_of}
use Rattle.version_chain.proofs.Changes.{unchanged}
use Rattle.version_chain.proofs.Recorded.{IsHere, chain_nowhere, edited_here, kept_marks}
use Rattle.version_chain.proofs.chains.Chains.commit.Goals as goal

here : (c : goal.After-self-in-Some-1) → IsHere c.args.self.now.keys c.args.self.now.records.items c.args.key.now c.in-Some.number c.index_mut.result.now
here c = record { number = sym c.in-Some.ensures.number; own = c.in-Some.ensures.own; low = c.args.self.now.low c.args.key.now c.in-Some.number (sym c.in-Some.ensures.number); value = c.index_mut.ensures.value }

pub returns-in-Some-clause-changed : goal.returns-in-Some-clause-changed
returns-in-Some-clause-changed c = let m = c.args.self.now in
    edited_here m.keys m.records.items m.spans m.forgotten c.args.key.now c.in-Some.number c.index_mut.result.now (record { chain = c.commit.new.self; readers = c.index_mut.result.now.readers }) (here c) c.args.ts (option_map as_committed) c.commit.ensures

pub returns-in-Some-clause-marks : goal.returns-in-Some-clause-marks
returns-in-Some-clause-marks c = let m = c.args.self.now in
    kept_marks m.keys m.records.items m.spans m.forgotten c.args.key.now c.in-Some.number c.index_mut.result.now (record { chain = c.commit.new.self; readers = c.index_mut.result.now.readers }) (here c) refl

pub returns-in_default-clause-changed : goal.returns-in_default-clause-changed
returns-in_default-clause-changed c = let m = c.args.self.now in
    unchanged (stored_of m) c.args.key.now c.args.ts (option_map as_committed) (chain_nowhere m.keys m.records.items m.spans m.forgotten c.args.key.now (sym c.in_default.ensures.number)) refl
