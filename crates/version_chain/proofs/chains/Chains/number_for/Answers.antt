use Rattle.std.proofs.Common.{sym}
use Rattle.std.proofs.lemmas.Result.{on_ok_weaker}
use Rattle.version_chain.specs.Records.{stored_of}
use Rattle.version_chain.proofs.Changes.{by_result, put_nothing}
use Rattle.version_chain.proofs.Recorded.{chain_nowhere}
use Rattle.version_chain.proofs.chains.Chains.number_for.Goals as goal

pub returns-in-None-clause-chains : goal.returns-in-None-clause-chains
returns-in-None-clause-chains c = let m = c.args.self.now in
    by_result c.add.result (on_ok_weaker c.add.result (put_nothing (stored_of m) (stored_of c.add.new.self) c.args.key.now c.none.result c.none.ensures (chain_nowhere m.keys m.records.items m.spans m.forgotten c.args.key.now (sym c.in-None.ensures.number))) c.add.ensures.chains) c.add.ensures.err
