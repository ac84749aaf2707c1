use Rattle.engine.proofs.Engine.event.Goals as goal

pub returns-clause-history : goal.returns-clause-history
returns-clause-history c = λ h stands. c.step-reply.ensures.history h c.steps-position.result stands
