use Rattle.engine.proofs.Histories.{collect_answered, goes_on, has_number, has_room, history_step}
use Rattle.engine.proofs.Engine.step.Goals as goal

pub step-reply-requires-clause-number : goal.step-reply-requires-clause-number
step-reply-requires-clause-number c = has_number c.args.self.now.layers c.args.self.now.steps c.args.self.now.stands c.requires.room

pub step-reply-requires-clause-room : goal.step-reply-requires-clause-room
step-reply-requires-clause-room c = has_room c.args.self.now.layers c.args.self.now.steps c.args.self.now.stands c.requires.room

pub invariant_of-self : goal.invariant_of-self
invariant_of-self c = record { stands = goes_on c.args.self.now.layers c.step-reply.new.self c.args.self.now.steps c.args.seat c.args.cmd.now c.step-reply.result c.step-reply.ensures c.args.self.now.stands }

pub returns-clause-history : goal.returns-clause-history
returns-clause-history c = λ h n stands. history_step c.args.self.now.layers c.step-reply.new.self c.args.self.now.steps h n c.args.seat c.args.cmd.now c.step-reply.result stands c.step-reply.ensures

pub returns-clause-collects : goal.returns-clause-collects
returns-clause-collects c = λ h to stands collects. collect_answered c.args.self.now.layers c.step-reply.new.self c.args.self.now.steps h c.args.seat to c.args.cmd.now c.step-reply.result stands collects c.step-reply.ensures
