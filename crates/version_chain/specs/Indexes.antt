-- Which keys have a version at each timestamp.
use Rattle.std.specs.Prelude.{ℕ, List, [], ◌∷◌, Bool, bytes_eq, false, if◌then◌else◌, ◌&&◌, ◌||◌, ◌==◌, ◌≡◌, ◌↔◌, ◌<◌, ◌≤◌, Option, Some, None, is_some}
use Rattle.version_chain.specs.Prelude.{has, is_at, lookup}
use Rattle.std.specs.Ordering.{nat_cmp}
use Rattle.version_chain.specs.declared.index.Index.{Index}
use Rattle.version_chain.specs.Stores.{Stored, found_in, IsCountOf}
use Rattle.version_chain.specs.Dead.{is_dead_in}

-- x is one of the keys, if there are any
abbrev pub is_among : Option (List (List ℕ)) → List ℕ → Bool
is_among None x = false
is_among (Some keys) x = has x keys

-- x is among the keys of t
abbrev pub listed_in : List (ℕ × List (List ℕ)) → List ℕ → ℕ → Bool
listed_in es x t = is_among (lookup (is_at (nat_cmp t)) es) x

abbrev pub is_listed : Index → List ℕ → ℕ → Bool
is_listed index x t = listed_in index.keys.entries x t

-- x is listed at t too
abbrev pub IsListedAt : Index → Index → ℕ → List ℕ → Type 0
IsListedAt index index' t x = (y : List ℕ) (i : ℕ) → is_listed index' y i ≡ (((t == i) && bytes_eq x y) || is_listed index y i)

-- x is no longer listed at the timestamps that pass the test
abbrev pub IsUnlisted : Index → Index → List ℕ → (ℕ → Bool) → Type 0
IsUnlisted index index' x gone = (y : List ℕ) (i : ℕ) → is_listed index' y i ≡ (if bytes_eq x y && gone i then false else is_listed index y i)

-- t has an entry without keys, since they are taken
abbrev pub IsTaken : Index → ℕ → Type 0
IsTaken index t = lookup (is_at (nat_cmp t)) index.keys.entries ≡ Some []

-- no entry is without keys
abbrev pub IsFilled : Index → Type 0
IsFilled index = (t : ℕ) → IsTaken index t → ⊥

-- the entry of t alone is without keys
abbrev pub IsTakenAlone : Index → ℕ → Type 0
IsTakenAlone index t = (i : ℕ) → IsTaken index i ↔ (t ≡ i)

-- the same entries are without keys
abbrev pub AreTakenAlike : Index → Index → Type 0
AreTakenAlike index index' = (i : ℕ) → IsTaken index i ↔ IsTaken index' i

-- no key is listed above a and at or below b
abbrev pub IsNoneBetween : Index → ℕ → ℕ → Type 0
IsNoneBetween index a b = (y : List ℕ) (i : ℕ) → a < i → i ≤ b → is_listed index y i ≡ false

-- t is above a and at or below b, and no key is listed between a and t
pub record IsFirstBetween (index : Index) (a b t : ℕ) : Type 0 where
  pub above : a < t
  pub low : t ≤ b
  pub first : (y : List ℕ) (i : ℕ) → a < i → i < t → is_listed index y i ≡ false

-- rising timestamps above a and at or below b
abbrev pub AreBetween : ℕ → ℕ → List (ℕ × List (List ℕ)) → Type 0
AreBetween a b [] = Unit {0}
AreBetween a b (e ∷ es) = (a < e.0) × (e.0 ≤ b) × AreBetween e.0 b es

-- a key is among those of a timestamp exactly where it has a version there
abbrev pub IsIndexOf : Stored → Index → Type 0
IsIndexOf es index = (x : List ℕ) (t : ℕ) → is_listed index x t ≡ is_some (found_in es x t)

-- the index and the count are of the chains, of which nothing is dead by the horizon
pub record IsSound (es : Stored) (index : Index) (n horizon : ℕ) : Type 0 where
  pub counted : IsCountOf es n
  pub indexed : IsIndexOf es index
  pub filled : IsFilled index
  pub settled : (x : List ℕ) (t : ℕ) → is_dead_in es horizon x t ≡ false
