-- Readers of which some are forgotten.
use Rattle.std.proofs.Common.{ℕ, List, ◌&&◌, ◌≡◌, ap, ◌∙◌, nat_lt}
use Rattle.read_marks.proofs.Common.{and_self_left, filter}
use Rattle.read_marks.specs.Readers.{is_kept, is_reader}
use Rattle.read_marks.proofs.Splitting.{filtered_reader}

-- those that are forgotten may go
pub kept_filter : (forgotten : ℕ) (xs : List ℕ) (j : ℕ) → is_kept forgotten (filter (nat_lt forgotten) xs) j ≡ is_kept forgotten xs j
kept_filter forgotten xs j = ap (λ b. nat_lt forgotten j && b) (filtered_reader forgotten xs j) ∙ and_self_left (nat_lt forgotten j) (is_reader xs j)
