use Rattle.std.proofs.Common.{◌≡◌, ◌&&◌, ℕ, List, cond, false, take}
use Rattle.std.specs.Prelude.{bytes_eq}
use Rattle.version_chain.specs.Dead.{is_dead_at}
use Rattle.version_chain.specs.Versions.{versions_in}
use Rattle.version_chain.specs.Indexes.{is_listed, AreTakenAlike}
use Rattle.version_chain.proofs.index.Index.remove_dead.Given as goal

abbrev pub invariant-loop-i : goal.invariant-loop-i
invariant-loop-i l = record {
  listed : (y : List ℕ) (i : ℕ) → is_listed l.self y i ≡ cond (bytes_eq l.key y && is_dead_at l.horizon l.top (take l.i (versions_in l.versions)) i) false (is_listed l.fn.self y i);
  taken : AreTakenAlike l.fn.self l.self;
}
