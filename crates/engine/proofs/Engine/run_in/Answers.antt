use Rattle.std.proofs.Common.{rules, ◌++◌, ◌∷◌, map, reverse, length, sym, ap, ◌∙◌, subst, arith}
use Rattle.std.proofs.lemmas.Grind.{common_steps}
use Rattle.engine.proofs.Common.{IsGapless, gapless_more, length_push, turned_more}
use Rattle.engine.specs.Engine.{call_of, StandsFor}
use Rattle.engine.proofs.Runs.{calls_more}
use Rattle.engine.proofs.Engine.run_in.Goals as goal

pub event-event-requires : goal.event-event-requires
event-event-requires c = record { room = omega (arith, c.loop-seat.invariant.steps, c.loop-seat.invariant.left, c.in-Some.ensures.steps.1, c.into_iter-seat-iterator.ensures.into_iter_gives.1) }

pub loop-seat-preserved : goal.loop-seat-preserved
loop-seat-preserved c = let before = c.loop-seat.invariant in let grown = c.in-Ok.ensures.items in record {
  stands = subst (λ es. StandsFor c.event-event.new.self (reverse es)) (sym grown)
      (subst (StandsFor c.event-event.new.self) (sym (turned_more c.loop-seat.events.items c.event-event.result)) (c.event-event.ensures.history (reverse c.loop-seat.events.items) before.stands));
  gapless = subst (IsGapless 0) (sym grown) (gapless_more 0 c.loop-seat.events.items c.event-event.result before.gapless (omega (arith, c.event-event.ensures.position, before.steps)));
  calls = ap (λ es. map call_of es ++ c.next.new.self.rest.items) grown
      ∙ calls_more c.loop-seat.events.items c.event-event.result c.next.new.self.rest.items
      ∙ ap (λ call. map call_of c.loop-seat.events.items ++ call ∷ c.next.new.self.rest.items) c.event-event.ensures.call
      ∙ ap (λ rest. map call_of c.loop-seat.events.items ++ rest) (sym c.in-Some.ensures.steps.0)
      ∙ before.calls;
  steps = c.event-event.ensures.steps ∙ (omega (arith, before.steps, ap length grown, length_push c.loop-seat.events.items c.event-event.result));
  left = omega (arith, before.left, c.in-Some.ensures.steps.1, ap length grown, length_push c.loop-seat.events.items c.event-event.result);
  filled = omega (arith, before.filled, c.in-Some.ensures.steps.1, c.in-Ok.ensures.len);
  room = omega (arith, before.room, c.in-Ok.ensures.capacity);
}

pub returns-clause-history : goal.returns-clause-history
returns-clause-history c = c.loop-seat.invariant.stands

pub returns-clause-positions : goal.returns-clause-positions
returns-clause-positions c = c.loop-seat.invariant.gapless

pub returns-clause-calls : goal.returns-clause-calls
returns-clause-calls c = first_of (search rules, grind (arith, common_steps))
