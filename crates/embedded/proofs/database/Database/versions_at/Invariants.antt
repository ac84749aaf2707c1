use Rattle.std.proofs.Common.{◌-◌, ◌≤◌, List, length}
use Rattle.embedded.proofs.Common.{Event, effects_of}
use Rattle.embedded.specs.Embedded.{StandsFor}
use Rattle.embedded.proofs.VersionKeys.{HaveTold}
use Rattle.embedded.proofs.database.Database.versions_at.Given as goal

abbrev pub invariant-loop-count : goal.invariant-loop-count
invariant-loop-count l = record {
  within : l.at ≤ length l.keys;
  going : (h : List Event) → StandsFor l.self h → HaveTold (effects_of h) l.t l.keys l.initial.versions l.at l.count l.versions;
}

abbrev pub decreases-loop-count : goal.decreases-loop-count
decreases-loop-count l = length l.initial.versions - l.count
