use Rattle.std.proofs.Common.{sym}
use Rattle.version_chain.specs.Records.{HasNoRecord}
use Rattle.version_chain.proofs.Recorded.{IsHere, chain_here, chain_nowhere, marks_here, marks_nowhere}
use Rattle.version_chain.proofs.chains.Chains.record.Goals as goal

pub returns-in_err-number : goal.returns-in_err-number
returns-in_err-number c =
    let m = c.args.self.now in
    let none : HasNoRecord m c.args.key.now = record {
      chain = chain_nowhere m.keys m.records.items m.spans m.forgotten c.args.key.now (sym c.in_err-number.ensures.number);
      readers = marks_nowhere m.keys m.records.items m.spans m.forgotten c.args.key.now (sym c.in_err-number.ensures.number);
    } in
    rw c.from_residual.ensures none

pub returns : goal.returns
returns c =
    let m = c.args.self.now in
    let here : IsHere m.keys m.records.items c.args.key.now c.in_ok-number.number c.index.result.now = record { number = sym c.in_ok-number.ensures.number; own = c.in_ok-number.ensures.own; low = m.low c.args.key.now c.in_ok-number.number (sym c.in_ok-number.ensures.number); value = c.index.ensures } in
    record {
      chain = chain_here m.keys m.records.items m.spans m.forgotten c.args.key.now c.in_ok-number.number c.index.result.now here;
      readers = marks_here m.keys m.records.items m.spans m.forgotten c.args.key.now c.in_ok-number.number c.index.result.now here;
    }
