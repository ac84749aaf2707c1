use Rattle.std.proofs.Common.{arith, ◌∙◌}
use Rattle.version_chain.proofs.Sweeping.{lowered}
use Rattle.version_chain.proofs.chains.Chains.make_room_for.Goals as goal

pub returns-then-ts-self-clause-marks : goal.returns-then-ts-self-clause-marks
returns-then-ts-self-clause-marks c = λ x j. lowered c.sweep.new.self c.min-self.result c.sweep.ensures.swept (omega (arith, c.min-self.ensures)) x j ∙ c.sweep.ensures.marks x j
