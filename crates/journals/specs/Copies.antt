-- A copy, made while calls go on: it stands for all that came before the batches behind it (this project).
use Rattle.std.specs.Prelude.{ℕ, zero, suc, List, [], ◌∷◌, ◌++◌, map, true, ◌≡◌, ◌≤◌, is_some}
use Rattle.journals.specs.Prelude.{Close, Cmd, Collect, Step, closed_of, horizon_of, left_keys, owner_of, transaction_steps}
use Rattle.journals.specs.Batches.{BeginsWith, Noted, did, last_record}

-- `first` came before the batches behind it, and `later` is in these. What is left at t was taken after `taken t`. It
-- closes at `to`
pub record Copy : Type 0 where
  pub first : List Noted
  pub later : List Noted
  pub taken : ℕ → List Noted
  pub to : ℕ
  pub horizon : ℕ

-- what is left at each timestamp, as it was taken
abbrev pub pieces : (ℕ → List Noted) → ℕ → List Cmd
pieces taken zero = []
pieces taken (suc t) = pieces taken t ++ map (λ (s : Step). s.0) (transaction_steps (did (taken (suc t))) (suc t) (left_keys (did (taken (suc t))) (suc t)))

abbrev pub copy_lines : Copy → List Cmd
copy_lines c = pieces c.taken c.to ++ Close c.to ∷ Collect c.horizon ∷ []

-- it is right, where the disk keeps k batches, by three facts at once: all that began before the batches behind it is at
-- or below `to`; each piece was taken once closed had come there; and the horizon stood still, at or below `to`. What it
-- has is in batches that are kept
pub record IsCopied (ns : List Noted) (c : Copy) (k : ℕ) : Type 0 where
  pub parts : ns ≡ c.later ++ c.first
  pub taken : (t : ℕ) → BeginsWith ns (c.taken t)
  pub behind : (t : ℕ) → BeginsWith (c.taken t) c.first
  pub begun : (t : ℕ) → is_some (owner_of (did c.first) t) ≡ true → t ≤ c.to
  pub closed : (t : ℕ) → t ≤ c.to → t ≤ closed_of (did (c.taken t))
  pub horizon : (t : ℕ) → horizon_of (did (c.taken t)) ≡ c.horizon
  pub low : c.horizon ≤ c.to
  pub rests : (t : ℕ) → last_record (c.taken t) ≤ k
