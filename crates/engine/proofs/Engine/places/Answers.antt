use Rattle.engine.specs.Layers.{feeds_of}
use Rattle.engine.proofs.Progress.{places_are}
use Rattle.engine.proofs.Engine.places.Goals as goal

pub returns : goal.returns
returns c = λ h stands. places_are c.args.self.now.layers h _ stands.kept (record {
  closed = c.closed.ensures.closed;
  horizon = c.horizon.ensures;
  limit = (c.least_floor.result, c.least_floor.ensures, c.limit.ensures);
  oldest = c.oldest_undecided.ensures (feeds_of c.args.self.now.layers.feeds);
  reached = c.reached.ensures (feeds_of c.args.self.now.layers.feeds);
})
