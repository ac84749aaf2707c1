use Rattle.std.proofs.Common.{arith}
use Rattle.version_chain.proofs.ByNumber.{placed}
use Rattle.version_chain.proofs.chains.place.Goals as goal

pub returns-then-number-len : goal.returns-then-number-len
returns-then-number-len c = placed c.args.records.now.items c.args.number c.args.one (omega (arith, c.len.ensures))
