use Rattle.std.specs.Prelude.{◌∷◌}
use Rattle.spans.specs.Effects.{effects_of}
use Rattle.spans.proofs.Marks.{late_across, across_late}
use Rattle.spans.proofs.Lawful.{lawful}
use Rattle.spans.proofs.Promises.{maps_stand}
use Rattle.spans.proofs.law.law_of_histories.Goals as goal

pub returns : goal.returns
returns c = record {
  one_copy = λ h legal. (lawful h legal).one_copy;
  write_rule = λ h x i. (late_across (effects_of h) x i, across_late (effects_of h) x i);
  reads_from = λ h legal. (lawful h legal).reads_from;
  feeds = λ h legal. (lawful h legal).feeds;
  consumers = λ h legal. (lawful h legal).consumers;
  completes = λ h legal. (lawful h legal).completes;
  own = λ h legal. (lawful h legal).own;
  rises = λ e h legal. (lawful (e ∷ h) legal).rises.0;
  for_ever = maps_stand;
  horizon = λ h legal. (lawful h legal).horizon;
  snapshots = λ h legal. (lawful h legal).snapshots;
  counts = λ h legal. (lawful h legal).counts;
  lawful = lawful;
}
