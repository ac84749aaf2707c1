use Rattle.std.proofs.Common.{arith}
use Rattle.version_chain.proofs.Places.{none_above, is_least}
use Rattle.version_chain.proofs.chain.Chain.at.Goals as goal

pub returns-then-place-len : goal.returns-then-place-len
returns-then-place-len c = λ t above. none_above c.args.self.now t c.args.place above (omega arith)

pub returns : goal.returns
returns c = λ t above. is_least c.args.self.now t c.args.place _ c.version.ensures.rises above (omega arith) c.version.ensures.version
