-- What is kept after an event stands for the history with it.
use Rattle.kept.proofs.Common.{uncancelled, unopened, Aborts, Begins, Cancels, Closes, Collects, Commits, Effect, Event, HardCloses, Kept, NoEffect, Opens, Polls, Protects, Reads, Releases, Scans, SnapshotReads, SnapshotScans, Writes, common_steps, effects_of, by_test, eqb-true, last_join, lt-ltb, resolved_join}
use Rattle.std.proofs.Common.{arith}
use Rattle.std.proofs.Common.{List}
use Rattle.std.specs.Prelude.{max}
use Rattle.kept.specs.Changes.{IsAlike}
use Rattle.kept.specs.StandsFor.{StandsFor}
use Rattle.kept.proofs.AfterReads.{after_reads, after_scans, read_noted}
use Rattle.kept.proofs.DeadSeen.{after_collects}
use Rattle.kept.proofs.AfterBegins.{unbegun}
use Rattle.kept.proofs.AfterCloses.{after_hard_closes}
use Rattle.kept.proofs.AfterWrites.{after_aborts, after_commits, after_writes}
use Rattle.kept.proofs.Staying.{Keeps, alike_kept}

-- what changed as an allowed effect wants is what is kept of the history with it
pub changed_kept : (k k' : Kept) (p : List Effect) (d : Effect) → Keeps k k' p d
changed_kept k k' p (Begins t seat) all fits allowed c = rw c.rest (grind (arith, common_steps, by_test, eqb-true, unbegun, lt-ltb))
changed_kept k k' p (Reads t x v) all fits allowed c = rw c.rest (after_reads k p all fits t x v allowed k'.marked c.others (read_noted k p all fits x t allowed.0.above (k'.marked x) c.noted))
changed_kept k k' p (Scans t span rows) all fits allowed c = rw c.rest (after_scans k p all fits t span rows allowed k'.marked c.others
    (λ y inside. read_noted k p all fits y t allowed.0.above (k'.marked y) (c.noted y inside)))
changed_kept k k' p (Writes t x a) all fits allowed c = after_writes k k' p t x a all fits allowed c
changed_kept k k' p (Commits t) all fits allowed c = after_commits k k' p t all fits allowed c
changed_kept k k' p (Aborts t) all fits allowed c = after_aborts k k' p t all fits allowed c
changed_kept k k' p (Closes n) all fits allowed c = rw c.rest (grind (arith, common_steps))
changed_kept k k' p (HardCloses to n) all fits allowed c = after_hard_closes k k' p to n all fits allowed c
changed_kept k k' p (SnapshotReads t x v) all fits allowed c = grind (arith, common_steps)
changed_kept k k' p (SnapshotScans t span rows) all fits allowed c = grind (arith, common_steps)
changed_kept k k' p (Protects id t) all fits allowed c = rw c (grind (arith, common_steps))
changed_kept k k' p (Releases id) all fits allowed c = rw c (grind (arith, common_steps))
changed_kept k k' p (Collects n) all fits allowed c = after_collects k k' p n all fits allowed c
changed_kept k k' p (Opens f seat kind span cursor) all fits allowed c = rw c.rest (grind (arith, common_steps, by_test, eqb-true, uncancelled, unopened))
changed_kept k k' p (Polls f max ms) all fits allowed c = rw c.rest (grind (arith, common_steps, by_test, resolved_join, last_join))
changed_kept k k' p (Cancels f) all fits allowed c = rw c.rest (grind (arith, common_steps))
changed_kept k k' p NoEffect all fits allowed c = grind (arith, common_steps)

-- what is alike stands for the same
pub alike_stands : (k k' : Kept) (h : List Event) → StandsFor k h → IsAlike k k' → StandsFor k' h
alike_stands k k' h stands c = record { legal = stands.legal; fits = alike_kept k k' (effects_of h) stands.fits c }
