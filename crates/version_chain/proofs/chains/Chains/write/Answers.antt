use Rattle.std.proofs.Common.{List, false, true, refl, sym, ap, Some, ℕ, [], ◌∷◌, ◌≡◌, ◌∙◌}
use Rattle.std.specs.Prelude.{is_none, slice_index_or}
use Rattle.version_chain.proofs.Common.{IsOwn, number_in, option_copied}
use Rattle.version_chain.specs.declared.chain.Version.{Version}
use Rattle.version_chain.specs.declared.chains.Chains.{Chains}
use Rattle.version_chain.specs.declared.record.Record.{Record}
use Rattle.version_chain.specs.Versions.{version_of}
use Rattle.version_chain.specs.Records.{stored_of}
use Rattle.version_chain.proofs.Changes.{changed, edited_one}
use Rattle.version_chain.proofs.Recorded.{IsHere, chain_nowhere, kept_marks, not_crossed, written_here}
use Rattle.version_chain.proofs.chains.Chains.write.Goals as goal

here : (m : Chains) (x : List ℕ) (n : ℕ) (r : Record) → Some n ≡ number_in m.keys x → IsOwn m.keys x n → r ≡ slice_index_or m.records.items n r → IsHere m.keys m.records.items x n r
here m x n r found own value = record { number = sym found; own = own; low = m.low x n (sym found); value = value }

pub returns-in_default-clause-ok : goal.returns-in_default-clause-ok
returns-in_default-clause-ok c = let m = c.args.self.now in
    let one : Version = record { ts = c.args.ts; after = option_copied c.args.after; committed = false } in
    let none = chain_nowhere m.keys m.records.items m.spans m.forgotten c.args.key.now (sym c.in_default.ensures.number) in (
      not_crossed (stored_of m) c.args.key.now c.args.ts c.get.result c.is_crossed.result c.get.ensures.number c.is_crossed.ensures c.if-is_crossed.false,
      ap (λ vs. is_none (version_of vs c.args.ts)) none,
      changed (stored_of m) (stored_of c.add.new.self) c.args.key.now c.in_ok-chain.chain c.args.ts (λ _. Some one) c.in_ok-add.ensures.chains
          (edited_one _ _ one none (c.in_ok-chain.ensures ∙ ap (λ (v : Version). v ∷ []) c.in_ok-version.ensures)),
    )

pub returns-then-new-clause-ok : goal.returns-then-new-clause-ok
returns-then-new-clause-ok c = let m = c.args.self.now in let r = c.index_mut.result.now in
    let done = written_here m.keys m.records.items m.spans m.forgotten c.args.key.now c.in-Some.number r (record { chain = c.write.new.self; readers = r.readers })
    (here m c.args.key.now c.in-Some.number r c.in-Some.ensures.number c.in-Some.ensures.own c.index_mut.ensures.value) c.in_ok-version.version (record { ts = c.args.ts; after = option_copied c.args.after; committed = false }) c.in_ok-new.new true
    c.in_ok-version.ensures c.in_ok-new.ensures.new c.if-new.true c.in_ok-new.ensures.ok in
    (not_crossed (stored_of m) c.args.key.now c.args.ts c.get.result c.is_crossed.result c.get.ensures.number c.is_crossed.ensures c.if-is_crossed.false, done.0, done.1)

pub returns-else-new-clause-ok : goal.returns-else-new-clause-ok
returns-else-new-clause-ok c = let m = c.args.self.now in let r = c.index_mut.result.now in
    let done = written_here m.keys m.records.items m.spans m.forgotten c.args.key.now c.in-Some.number r (record { chain = c.write.new.self; readers = r.readers })
    (here m c.args.key.now c.in-Some.number r c.in-Some.ensures.number c.in-Some.ensures.own c.index_mut.ensures.value) c.in_ok-version.version (record { ts = c.args.ts; after = option_copied c.args.after; committed = false }) c.in_ok-new.new false
    c.in_ok-version.ensures c.in_ok-new.ensures.new c.if-new.false c.in_ok-new.ensures.ok in
    (not_crossed (stored_of m) c.args.key.now c.args.ts c.get.result c.is_crossed.result c.get.ensures.number c.is_crossed.ensures c.if-is_crossed.false, done.0, done.1)

pub returns-then-new-clause-marks : goal.returns-then-new-clause-marks
returns-then-new-clause-marks c = let m = c.args.self.now in let r = c.index_mut.result.now in
    kept_marks m.keys m.records.items m.spans m.forgotten c.args.key.now c.in-Some.number r (record { chain = c.write.new.self; readers = r.readers })
    (here m c.args.key.now c.in-Some.number r c.in-Some.ensures.number c.in-Some.ensures.own c.index_mut.ensures.value) refl

pub returns-else-new-clause-marks : goal.returns-else-new-clause-marks
returns-else-new-clause-marks c = let m = c.args.self.now in let r = c.index_mut.result.now in
    kept_marks m.keys m.records.items m.spans m.forgotten c.args.key.now c.in-Some.number r (record { chain = c.write.new.self; readers = r.readers })
    (here m c.args.key.now c.in-Some.number r c.in-Some.ensures.number c.in-Some.ensures.own c.index_mut.ensures.value) refl
