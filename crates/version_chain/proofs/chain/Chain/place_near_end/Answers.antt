use Rattle.std.proofs.Common.{arith}
use Rattle.version_chain.proofs.Places.{all_below}
use Rattle.version_chain.proofs.chain.Chain.place_near_end.Goals as goal

pub returns : goal.returns
returns c = all_below c.args.self.now c.args.t c.len-len.result c.version.result.now c.version.ensures.rises c.len-len.ensures c.version.ensures.version (omega (arith, c.get.ensures.number, c.if-get-t.false))
