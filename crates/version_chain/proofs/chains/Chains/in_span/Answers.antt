use Rattle.std.proofs.Common.{ap}
use Rattle.version_chain.specs.ByNumber.{chains_in, entries_of}
use Rattle.version_chain.specs.Stores.{filled}
use Rattle.version_chain.proofs.InSpans.{are_found}
use Rattle.version_chain.proofs.chains.Chains.in_span.Goals as goal

pub returns : goal.returns
returns c = are_found c.args.span.now c.args.self.now.keys c.numbers_in.result (chains_in c.args.self.now.records.items) _ c.numbers_in.ensures.rising c.numbers_in.ensures.those
    (ap (λ rs. filled (entries_of c.numbers_in.result (chains_in rs))) c.deref.ensures.value)
