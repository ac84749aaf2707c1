use Rattle.std.proofs.Common.{refl}
use Rattle.std.proofs.lemmas.List.{length-set}
use Rattle.version_chain.specs.Records.{MayGo}
use Rattle.version_chain.proofs.ByNumber.{low_less}
use Rattle.version_chain.proofs.Recorded.{fewer_readers, gone_chains, gone_marks, low_set}
use Rattle.version_chain.proofs.chains.Chains.free_idle.Goals as goal

pub invariant_of-self : goal.invariant_of-self
invariant_of-self c =
    let may : MayGo c.args.self.now c.args.number = c.may_go.ensures c.if-may_go.true in
    record { low = low_set c.free_at.new.self c.args.self.now.records.items c.args.number (record { chain = c.none.result; readers = c.new.result }) (low_less c.args.self.now.keys c.free_at.new.self may.key _ c.args.self.now.low (c.free_at.ensures may.key may.number)) }

pub returns-then-may_go-clause-chains : goal.returns-then-may_go-clause-chains
returns-then-may_go-clause-chains c =
    let m = c.args.self.now in
    let may : MayGo m c.args.number = c.may_go.ensures c.if-may_go.true in
    gone_chains m.keys c.free_at.new.self m.records.items m.spans m.forgotten may.key c.args.number (record { chain = c.none.result; readers = c.new.result }) (c.free_at.ensures may.key may.number) may.number may.own c.requires may.chain

pub returns-then-may_go-clause-marks : goal.returns-then-may_go-clause-marks
returns-then-may_go-clause-marks c =
    let m = c.args.self.now in
    let may : MayGo m c.args.number = c.may_go.ensures c.if-may_go.true in
    gone_marks m.keys c.free_at.new.self m.records.items m.spans m.forgotten may.key c.args.number (record { chain = c.none.result; readers = c.new.result }) (c.free_at.ensures may.key may.number) may.number may.own c.requires may.latest may.readers

pub returns-then-may_go-clause-swept : goal.returns-then-may_go-clause-swept
returns-then-may_go-clause-swept c = record {
  readers = fewer_readers c.args.self.now.records.items c.args.number (record { chain = c.none.result; readers = c.new.result }) c.requires c.new.ensures;
  count = length-set c.args.self.now.records.items c.args.number (record { chain = c.none.result; readers = c.new.result });
  spans = λ x. refl;
  forgotten = refl;
}
