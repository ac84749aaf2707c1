use Rattle.std.proofs.Common.{◌≡◌, ◌≤◌, ◌+◌, ◌++◌, map, reverse, length, vec_len}
use Rattle.std.specs.Prelude.{vec_capacity}
use Rattle.spans.specs.Legal.{IsGapless}
use Rattle.engine.specs.Engine.{call_of, StandsFor, steps_of}
use Rattle.engine.proofs.Engine.run_in.Given as goal

-- the engine stands for the events so far, which are the calls so far; the others are still to come
abbrev pub invariant-loop-seat : goal.invariant-loop-seat
invariant-loop-seat l = record {
  stands : StandsFor l.engine (reverse l.events.items);
  gapless : IsGapless 0 l.events.items;
  calls : map call_of l.events.items ++ l.seat-iterator.rest.items ≡ l.fn.calls.items;
  steps : steps_of l.engine ≡ length l.events.items;
  left : length l.events.items + l.seat-iterator.rest.len ≡ l.initial.seat-iterator.rest.len;
  filled : vec_len l.events + l.seat-iterator.rest.len ≡ vec_len l.fn.events + l.initial.seat-iterator.rest.len;
  room : vec_len l.fn.events + l.initial.seat-iterator.rest.len ≤ vec_capacity l.events;
}
