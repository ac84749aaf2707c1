-- Which transactions began, whose they are, how they ended, and up to where timestamps are closed.
-- (This project; "committed" and "aborted" are those of Bernstein, Hadzilacos and Goodman.)
use Rattle.std.specs.Prelude.{ℕ, List, [], ◌∷◌, ◌-◌, min, map, filter, Bool, false, not, ◌&&◌, ◌||◌, ◌==◌, nat_le, if◌then◌else◌, Option, Some, None, is_some}
use Rattle.spans.specs.Effects.{Effect, Begins, Commits, Aborts, Closes, HardCloses}

-- the seat that began t
abbrev pub owner_of : List Effect → ℕ → Option ℕ
owner_of [] t = None
owner_of (Begins k seat ∷ p) t = if k == t then Some seat else owner_of p t
owner_of (_ ∷ p) t = owner_of p t

-- the timestamps that began
abbrev pub begun_of : List Effect → List ℕ
begun_of [] = []
begun_of (Begins k seat ∷ p) = k ∷ begun_of p
begun_of (_ ∷ p) = begun_of p

abbrev pub is_committed : List Effect → ℕ → Bool
is_committed [] t = false
is_committed (Commits k ∷ p) t = (k == t) || is_committed p t
is_committed (_ ∷ p) t = is_committed p t

-- t was aborted: by its owner, by a write that came too late, or by a hard closing that found it undecided
abbrev pub is_aborted : List Effect → ℕ → Bool
is_aborted [] t = false
is_aborted (Aborts k ∷ p) t = (k == t) || is_aborted p t
is_aborted (HardCloses to at ∷ p) t = (nat_le t to && (is_some (owner_of p t) && not (is_committed p t))) || is_aborted p t
is_aborted (_ ∷ p) t = is_aborted p t

-- t has begun, and is neither committed nor aborted
abbrev pub is_undecided : List Effect → ℕ → Bool
is_undecided p t = is_some (owner_of p t) && (not (is_committed p t) && not (is_aborted p t))

abbrev pub undecided_timestamps : List Effect → List ℕ
undecided_timestamps p = filter (is_undecided p) (begun_of p)

-- the closed timestamp: the last closing's answer, 0 at first (in a legal history nothing at or below it is undecided,
-- or begins later)
abbrev pub closed_of : List Effect → ℕ
closed_of [] = 0
closed_of (Closes at ∷ p) = at
closed_of (HardCloses to at ∷ p) = at
closed_of (_ ∷ p) = closed_of p

-- the least of n and the numbers
abbrev pub least_of : ℕ → List ℕ → ℕ
least_of n [] = n
least_of n (m ∷ ms) = min m (least_of n ms)

-- how far a closing to `to` may go: to `to`, or just below the oldest undecided transaction where that is lower. (It may
-- be below closed; the answer takes the greater of the two.)
abbrev pub decided_through : List Effect → ℕ → ℕ
decided_through p to = least_of to (map (λ t. t - 1) (undecided_timestamps p))
