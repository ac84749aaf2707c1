use Rattle.std.proofs.Common.{None, Some, refl, ◌≡◌}
use Rattle.mvto_rules.proofs.rules.Rules.new.Goals as goal

pub returns : goal.returns
returns c = record {
  closed = c.new-3.ensures.closed;
  horizon = refl;
  version = c.new.ensures.versions;
  committed = λ y i b e. (let no : None ≡ Some b = e in cc);
  marked = c.new.ensures.marks;
  transaction = c.new-2.ensures;
  protections = c.new-3.ensures.protections;
  protections_made = c.new-3.ensures.made;
  feed = λ f. refl;
  feeds_opened = refl;
}
