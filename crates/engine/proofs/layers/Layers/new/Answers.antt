use Rattle.engine.proofs.layers.Layers.new.Goals as goal

pub returns : goal.returns
returns c = let none = c.new.ensures in record {
  closed = none.closed;
  horizon = none.horizon;
  version = none.version;
  committed = none.committed;
  marked = none.marked;
  transaction = none.transaction;
  protections = none.protections;
  protections_made = none.protections_made;
  feed = c.new-2.ensures.none;
  feeds_opened = c.new-2.ensures.opened;
}
