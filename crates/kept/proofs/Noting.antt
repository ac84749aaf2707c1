-- Ways to note a read in the marks of a key.
use Rattle.std.proofs.lemmas.Grind.{common_steps}
use Rattle.std.proofs.Common.{Bool, List, Option, arith, true, ℕ, ◌<◌, ◌≡◌, ◌≤◌, ◌⊎◌}
use Rattle.kept.proofs.Common.{Kept, MAX, both_ways, eq-eqb}
use Rattle.std.specs.Prelude.{◌↔◌}
use Rattle.kept.specs.Finding.{IsNextAbove, seen}
use Rattle.kept.specs.Marks.{IsNoted, IsPiece, until}
use Rattle.kept.proofs.Marking.{added}

-- t's own version was found, and nothing is marked
pub own_noted : (k : Kept) (x : List ℕ) (t : ℕ) (next : Option ℕ) (m' : ℕ → Bool) → IsNextAbove (k.version x) t next → (seen k x t).ts ≡ t → ((n : ℕ) → m' n ≡ k.marked x n) → IsNoted k x t m'
own_noted k x t next m' above own same = record { next = next; is_next = above; own = λ _. same; other = λ other. absurd (both_ways _ other (eq-eqb _ _ own)) }

-- another's version was found, and t is added to the marks
pub added_noted : (k : Kept) (x : List ℕ) (t : ℕ) (next : Option ℕ) (m' : ℕ → Bool) → IsNextAbove (k.version x) t next → (seen k x t).ts < t → ((n : ℕ) → (m' n ≡ true) ↔ ((n ≡ t) ⊎ (k.marked x n ≡ true))) → IsNoted k x t m'
added_noted k x t next m' above low adds = record { next = next; is_next = above; own = λ own. absurd (omega (arith, low, own)); other = λ other. added (k.marked x) m' t (seen k x t).ts (until next) adds }

-- another's version was found, and t and the marks between it and the next version became the greatest of them
pub merged_noted : (k : Kept) (x : List ℕ) (t : ℕ) (next : Option ℕ) (m' : ℕ → Bool) → IsNextAbove (k.version x) t next → (seen k x t).ts < t → t ≤ MAX → IsPiece (k.marked x) m' t (seen k x t).ts (until next) → IsNoted k x t m'
merged_noted k x t next m' above low high piece = grind (arith, common_steps)
