-- What marking and forgetting readers of a key has to do, and what is asked of the marks.
use Rattle.std.specs.Prelude.{Bool, List, None, Option, Some, false, nat_lt, true, ℕ, ◌&&◌, ◌<◌, ◌==◌, ◌↔◌, ◌≡◌, ◌≤◌, ◌⊎◌}
use Rattle.kept.specs.Prelude.{IsCrossed, Kept, MAX}
use Rattle.kept.specs.Finding.{IsNextAbove, seen}

-- at most the bound, where there is one
abbrev pub AtMost : Option ℕ → ℕ → Type 0
AtMost None j = Unit {0}
AtMost (Some s) j = j ≤ s

-- a reader above a number, and at most another where that is given
pub record IsBetween (m : ℕ → Bool) (above : ℕ) (to : Option ℕ) : Type 0 where
  pub reader : ℕ
  pub mark : m reader ≡ true
  pub higher : above < reader
  pub low : AtMost to reader

-- the next version above a read, or beyond all timestamps where there is none
abbrev pub until : Option ℕ → ℕ
until None = 18446744073709551615
until (Some s) = s

-- what marking a reader j of x has to do: add no other reader, and lose none but to one above it in the same gap
pub record IsMarkedBy (m m' : ℕ → Bool) (j above until : ℕ) : Type 0 where
  pub only : (n : ℕ) → m' n ≡ true → (n ≡ j) ⊎ (m n ≡ true)
  pub covers : (n : ℕ) → (n ≡ j) ⊎ (m n ≡ true) → (g : ℕ) × (m' g ≡ true) × (n ≤ g) × ((g ≡ n) ⊎ ((above < n) × (g ≤ until)))

-- readers above a number and at most another, together with j, became their greatest
pub record IsPiece (m m' : ℕ → Bool) (j above until : ℕ) : Type 0 where
  pub top : ℕ
  pub marked : m' top ≡ true
  pub is : (top ≡ j) ⊎ (m top ≡ true)
  pub least : j ≤ top
  pub most : top ≤ until
  pub greatest : (n : ℕ) → m n ≡ true → above < n → n ≤ until → n ≤ top
  pub outside : (n : ℕ) → (n ≤ above) ⊎ (until < n) → m' n ≡ m n
  pub inside : (n : ℕ) → above < n → n ≤ until → m' n ≡ true → n ≡ top

-- the read of x by t is noted in the marks of x: by no mark where it found t's own version, and else by a mark of t,
-- which may join others between the version that it found and the next above t
pub record IsNoted (k : Kept) (x : List ℕ) (t : ℕ) (m' : ℕ → Bool) : Type 0 where
  pub next : Option ℕ
  pub is_next : IsNextAbove (k.version x) t next
  pub own : (seen k x t).ts ≡ t → (n : ℕ) → m' n ≡ k.marked x n
  pub other : ((seen k x t).ts == t) ≡ false → IsMarkedBy (k.marked x) m' t (seen k x t).ts (until next)

-- ---- ways to note a read

-- the read of x by t finds t's own version, and next is the first above it
abbrev pub FindsOwn : Kept → List ℕ → ℕ → Option ℕ → Type 0
FindsOwn k x t next = IsNextAbove (k.version x) t next × ((seen k x t).ts ≡ t)

-- it finds another's version or none, and next is the first above t
abbrev pub FindsOther : Kept → List ℕ → ℕ → Option ℕ → Type 0
FindsOther k x t next = IsNextAbove (k.version x) t next × ((seen k x t).ts < t)

abbrev pub AreSameMarks : (m m' : ℕ → Bool) → Type 0
AreSameMarks m m' = (n : ℕ) → m' n ≡ m n

-- one reader more
abbrev pub IsAddedMark : ℕ → (m m' : ℕ → Bool) → Type 0
IsAddedMark t m m' = (n : ℕ) → (m' n ≡ true) ↔ ((n ≡ t) ⊎ (m n ≡ true))

-- a timestamp's reader is joined with all that lie between what it found and the next version
abbrev pub IsMergedMark : Kept → List ℕ → ℕ → Option ℕ → (ℕ → Bool) → Type 0
IsMergedMark k x t next m' = (t ≤ MAX) × IsPiece (k.marked x) m' t (seen k x t).ts (until next)

-- the marks through n are forgotten, and those above it stand
abbrev pub IsForgotten : (m m' : ℕ → Bool) → ℕ → Type 0
IsForgotten m m' n = (j : ℕ) → m' j ≡ (nat_lt n j && m j)

-- the test before a write of x at t: whether a reader is marked above t, and no version lies between
abbrev pub IsLate : Kept → List ℕ → ℕ → Bool → Type 0
IsLate k x t late = (late ≡ true) ↔ IsCrossed (k.marked x) (k.version x) t
