-- The example that the crate's page draws, worked.
use Rattle.std.specs.Prelude.{ℕ, List, [], ◌∷◌, ◌≡◌, true, Some, None, is_some, refl}
use Rattle.kept.specs.Prelude.{Begins, BelowHorizon, Closes, Collects, Commits, Effect, Found, Get, NotClosed, Put, ReadAt, Reads, Refused, TooLate, Writes, answer_of, kept_version, transaction_of}

abbrev a : List ℕ
a = 97 ∷ []

abbrev one : List ℕ
one = 49 ∷ []

abbrev two : List ℕ
two = 50 ∷ []

-- 10 and 20 wrote a, 12 and 40 read it, and 30 has begun
abbrev open' : List Effect
open' =
    Begins 30 0 ∷ Reads 40 a (Some two) ∷ Begins 40 1 ∷ Commits 20 ∷ Writes 20 a (Some two) ∷ Begins 20 0
    ∷ Commits 12 ∷ Reads 12 a (Some one) ∷ Begins 12 1 ∷ Commits 10 ∷ Writes 10 a (Some one) ∷ Begins 10 0 ∷ []

abbrev closed' : List Effect
closed' = Closes 25 ∷ open'

abbrev collected : List Effect
collected = Collects 25 ∷ closed'

-- both versions are kept, until 10 is dead
pub versions : (kept_version closed' a 10 ≡ Some (Some one)) × (kept_version collected a 10 ≡ None) × (kept_version collected a 20 ≡ Some (Some two))
versions = (refl, refl, refl)

-- transactions at or below closed are forgotten
pub transactions : (is_some (transaction_of open' 20) ≡ true) × (transaction_of closed' 20 ≡ None) × (is_some (transaction_of closed' 30) ≡ true)
transactions = (refl, refl, refl)

-- what transaction 30 may do is the same all along
pub gets : (answer_of open' 0 (Get 30 a) ≡ Found (Some two)) × (answer_of collected 0 (Get 30 a) ≡ Found (Some two))
gets = (refl, refl)

pub puts : (answer_of open' 0 (Put 30 a one) ≡ Refused TooLate) × (answer_of collected 0 (Put 30 a one) ≡ Refused TooLate)
puts = (refl, refl)

-- a read at 15 is answered once 15 is closed, and until it is below the horizon
pub reads : (answer_of open' 0 (ReadAt 15 a) ≡ Refused (NotClosed 0)) × (answer_of closed' 0 (ReadAt 15 a) ≡ Found (Some one)) × (answer_of collected 0 (ReadAt 15 a) ≡ Refused (BelowHorizon 25))
reads = (refl, refl, refl)
