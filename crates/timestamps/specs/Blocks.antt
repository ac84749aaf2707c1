-- Blocks of 32 timestamps, the rule of an oracle's word, and what each step tells its pass.
use Rattle.std.specs.Prelude.{ℕ, zero, suc, ◌+◌, ◌*◌, List, [], ◌∷◌, ◌≡◌, ◌≢◌, ◌<◌, ◌≤◌, ◌==◌, ◌++◌}
use Rattle.std.specs.List.{Contains, sum_by, count_by, All}
use mathlib.Core.Option.{some}
use lib.ListN.{get_elem?}
use Rattle.atomic_table.specs.Table.{State, Me, Step}
use Rattle.timestamps.specs.declared.blocks.Draws.{Draws}

-- n numbers from a on
abbrev pub numbers_from : ℕ → ℕ → List ℕ
numbers_from a zero = []
numbers_from a (suc n) = a ∷ numbers_from (suc a) n

-- the timestamps of a block, rising
abbrev pub timestamps_of : ℕ → List ℕ
timestamps_of block = numbers_from (32 * block + 1) 32

-- no number is in both lists
abbrev pub AreApart : List ℕ → List ℕ → Type 0
AreApart xs ys = (x : ℕ) → Contains xs x → Contains ys x → ⊥

-- what a slot would hold: the table has none
abbrev pub NoSlot : Type 0
NoSlot = Unit {0}

abbrev pub Sat : Type 0
Sat = Me NoSlot Draws

-- the blocks that stand with a view
abbrev pub blocks_with : Draws → List ℕ
blocks_with v = v.drawn ++ v.lent

-- how often a block stands with the views
abbrev pub times_drawn : ℕ → List Draws → ℕ
times_drawn block views = sum_by (λ v. count_by (λ b. b == block) (blocks_with v)) views

-- Each block from the first on that is below the word stands with one view, once, and no other with any. The word is at
-- least each number loaded.
pub record IsDrawnOnce (first : ℕ) (s : State NoSlot Draws) : Type 0 where
  pub next : ℕ
  pub words : s.words ≡ next ∷ []
  pub begun : first ≤ next
  pub above : (j : ℕ) (v : Draws) → get_elem? s.views j ≡ some v → v.loaded ≤ next
  pub once : (block : ℕ) → first ≤ block → block < next → times_drawn block s.views ≡ 1
  pub earlier : (block : ℕ) → block < first → times_drawn block s.views ≡ 0
  pub later : (block : ℕ) → next ≤ block → times_drawn block s.views ≡ 0

abbrev pub opener : ℕ → Draws
opener first = record { drawn = []; lent = []; loaded = first; earlier = first; looks = 0 }

abbrev pub nobody : Draws
nobody = opener 0

abbrev pub itself : Draws → Draws
itself v = v

abbrev pub newcomer : Draws → Draws
newcomer v = opener v.loaded

abbrev pub without_drawn : Draws → Draws
without_drawn v = record v { drawn = [] }

abbrev pub only_drawn : Draws → Draws
only_drawn v = record nobody { drawn = v.drawn }

abbrev pub borrowing : Draws → Draws → Draws
borrowing v w = record v { lent = w.drawn }

abbrev pub without_lent : Draws → Draws
without_lent v = record v { lent = [] }

abbrev pub only_lent : Draws → Draws
only_lent v = record nobody { drawn = v.lent }

abbrev pub taking_back : Draws → Draws → Draws
taking_back v w = record v { drawn = w.drawn }

abbrev pub loads : Draws → ℕ → Draws
loads v n = record v { loaded = n; earlier = v.loaded; looks = v.looks + 1 }

abbrev pub draws : Draws → ℕ → Draws
draws v n = record v { drawn = v.drawn ++ n ∷ []; loaded = n; earlier = v.loaded; looks = v.looks + 1 }

-- the number was loaded, and is no lower than before
abbrev pub Looks : Step NoSlot → Sat → ℕ → Sat → Type 0
Looks st m n m' = (m' ≡ (loads m.0 n, m.1)) × (m.0.loaded ≤ n)

-- the number was found, no lower than before; where it was awaited its block was drawn, and is above those drawn before
abbrev pub DrawsNext : Step NoSlot → Sat → ℕ → Sat → Type 0
DrawsNext st m n m' = (m.0.loaded ≤ n) × (n ≡ st.first → (m' ≡ (draws m.0 n, m.1)) × All (λ b. b < n) m.0.drawn) × (n ≢ st.first → m' ≡ (loads m.0 n, m.1))

-- no block drawn is one of those lent
abbrev pub Compares : Step NoSlot → Sat → ℕ → Sat → Type 0
Compares st m n m' = (m' ≡ (loads m.0 n, m.1)) × (m.0.loaded ≤ n) × AreApart m.0.drawn m.0.lent
