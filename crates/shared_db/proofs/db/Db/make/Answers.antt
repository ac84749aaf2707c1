use Rattle.std.proofs.Common.{ℕ, List, [], ◌∷◌, ◌++◌, reverse, sym, refl, ◌∙◌, subst}
use Rattle.shared_db.proofs.Common.{Engine, Event, found}
use Rattle.spans.specs.Effects.{event}
use Rattle.engine.specs.Engine as engines
use Rattle.shared_db.specs.History.{StandsFor}
use Rattle.shared_db.proofs.Turning.{stands_more}
use Rattle.shared_db.proofs.Answering.{made}
use Rattle.shared_db.proofs.db.Db.make.Goals as goal

pub end-requires-clause-stands : goal.end-requires-clause-stands
end-requires-clause-stands c = let e : Event = event c.ticket-event.result c.number-by.result c.args.event.now.cmd c.step.result in let h : List Event = found c.args.seat.now in let first : ℕ = c.args.self.now.lock.first in
    subst (λ (l : List Event). StandsFor c.step.new.self first (l ++ e ∷ [])) (sym c.raise_floor.ensures.keeps.found)
    (stands_more c.args.held.value.engine.value c.step.new.self first h e c.requires.turn.stood (λ x. c.step.ensures.history (reverse h) e.position (subst (λ (y : Engine). engines.StandsFor y (reverse h)) (sym c.deref_mut.ensures.value) x)) (c.ticket-event.ensures ∙ sym c.requires.turn.place))

pub returns-clause-made : goal.returns-clause-made
returns-clause-made c = let e : Event = event c.ticket-event.result c.number-by.result c.args.event.now.cmd c.step.result in let h : List Event = found c.args.seat.now in let first : ℕ = c.args.self.now.lock.first in let raised = c.raise_floor.ensures in let ended = c.end.ensures in
    made first c.args.held.ticket c.args.seat.now c.raise_floor.new.seat c.end.new.seat c.step.new.self c.args.event.now.cmd e
    (stands_more c.args.held.value.engine.value c.step.new.self first h e c.requires.turn.stood (λ x. c.step.ensures.history (reverse h) e.position (subst (λ (y : Engine). engines.StandsFor y (reverse h)) (sym c.deref_mut.ensures.value) x)) (c.ticket-event.ensures ∙ sym c.requires.turn.place))
    raised.keeps ended.seen ended.mine ended.own c.number-by.ensures.is refl c.ticket-event.ensures raised.known raised.high ended.high ended.known ended.spent
