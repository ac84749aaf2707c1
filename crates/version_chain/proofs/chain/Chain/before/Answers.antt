use Rattle.std.proofs.Common.{arith}
use Rattle.version_chain.proofs.Places.{none_up_to, is_newest}
use Rattle.version_chain.proofs.chain.Chain.before.Goals as goal

pub returns-then-place-eq0 : goal.returns-then-place-eq0
returns-then-place-eq0 c = λ t above. none_up_to _ _ _ above c.if-place-eq0.true

pub returns : goal.returns
returns c = λ t above. is_newest c.args.self.now t c.args.place _ c.version.ensures.rises above (omega arith) c.version.ensures.version
