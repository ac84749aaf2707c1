use Rattle.std.proofs.Common.{ℕ, ◌+◌, ◌^◌, ◌<◌, ◌≤◌, length, get_or}
use Rattle.timestamps.specs.BinarySearch.{AreLeft}
use Rattle.version_chain.specs.declared.chain.Version.{Version}
use Rattle.version_chain.proofs.chain.Chain.place_above.Given as goal

-- what is left to search has at most as many binary digits as there are steps left
abbrev pub invariant-loop-left : goal.invariant-loop-left
invariant-loop-left l = record {
  within : l.left.low + l.left.size ≤ length l.self;
  left : (d : Version) → AreLeft (λ k. (get_or l.self k d).ts) (length l.self) l.t l.left.low l.left.size;
  steps : (d : ℕ) → length l.self < 2 ^ d → (e : ℕ) × (l.left.size < 2 ^ e) × (l.steps.count + e ≤ l.fn.steps.count + d);
}

abbrev pub decreases-loop-left : goal.decreases-loop-left
decreases-loop-left l = l.left.size
