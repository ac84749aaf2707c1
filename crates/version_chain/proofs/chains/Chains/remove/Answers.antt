use Rattle.std.proofs.Common.{refl, sym, None, ◌∙◌}
use Rattle.std.specs.Prelude.{slice_set}
use Rattle.version_chain.specs.ByNumber.{stored}
use Rattle.version_chain.specs.Records.{stored_of}
use Rattle.version_chain.proofs.Changes.{changed_alike, unchanged}
use Rattle.version_chain.proofs.Recorded.{IsHere, chain_nowhere, edited_here, kept_marks}
use Rattle.version_chain.proofs.chains.Chains.remove.Goals as goal

here : (c : goal.After-free_idle) → IsHere c.args.self.now.keys c.args.self.now.records.items c.args.key.now c.in-Some.number c.index_mut.result.now
here c = record { number = sym c.in-Some.ensures.number; own = c.in-Some.ensures.own; low = c.args.self.now.low c.args.key.now c.in-Some.number (sym c.in-Some.ensures.number); value = c.index_mut.ensures.value }

pub returns-in-Some-clause-changed : goal.returns-in-Some-clause-changed
returns-in-Some-clause-changed c = let m = c.args.self.now in
    changed_alike (stored_of m) (stored m.keys (slice_set m.records.items c.in-Some.number (record { chain = c.remove.new.self; readers = c.index_mut.result.now.readers })) m.spans m.forgotten) (stored_of c.free_idle.new.self) c.args.key.now c.args.ts (λ _. None)
    (edited_here m.keys m.records.items m.spans m.forgotten c.args.key.now c.in-Some.number c.index_mut.result.now (record { chain = c.remove.new.self; readers = c.index_mut.result.now.readers }) (here c) c.args.ts (λ _. None) c.remove.ensures)
    c.free_idle.ensures.chains

pub returns-in-Some-clause-marks : goal.returns-in-Some-clause-marks
returns-in-Some-clause-marks c = let m = c.args.self.now in
    λ x j. c.free_idle.ensures.marks x j ∙ kept_marks m.keys m.records.items m.spans m.forgotten c.args.key.now c.in-Some.number c.index_mut.result.now (record { chain = c.remove.new.self; readers = c.index_mut.result.now.readers }) (here c) refl x j

pub returns-in_default-clause-changed : goal.returns-in_default-clause-changed
returns-in_default-clause-changed c = let m = c.args.self.now in
    unchanged (stored_of m) c.args.key.now c.args.ts (λ _. None) (chain_nowhere m.keys m.records.items m.spans m.forgotten c.args.key.now (sym c.in_default.ensures.number)) refl
