-- Reads, and the write rule of multiversion timestamp ordering (Bernstein, Hadzilacos and Goodman, section 5.3;
-- Reed 1978: a version is known valid from its write to its latest read, and a write inside that interval is refused).
use Rattle.std.specs.Prelude.{ℕ, suc, List, [], ◌∷◌, Bool, true, false, ◌&&◌, ◌||◌, ◌≡◌, ◌<◌, ◌≤◌, ◌⊎◌, nat_lt, bytes_eq}
use Rattle.spans.specs.Keys.{in_span, value_among}
use Rattle.spans.specs.Effects.{After, Effect, Reads, Scans}
use Rattle.spans.specs.Versions.{IsNewest, visible, committed_version_of}

-- j read x from the version of k, and was given v. A scan reads every key of its span, the absent ones too. Reads of
-- transactions that are aborted later count; a blocked read is none; snapshot reads need not be counted, since nothing at
-- or below closed is written any more
abbrev pub IsRead : List Effect → ℕ → List ℕ → ℕ → After → Type 0
IsRead [] j x k v = ⊥
IsRead (Reads t y w ∷ p) j x k v = ((t ≡ j) × (y ≡ x) × ((visible p y t).ts ≡ k) × (w ≡ v)) ⊎ IsRead p j x k v
IsRead (Scans t span rows ∷ p) j x k v = ((t ≡ j) × (in_span span x ≡ true) × ((visible p x t).ts ≡ k) × (value_among rows x ≡ v)) ⊎ IsRead p j x k v
IsRead (_ ∷ p) j x k v = IsRead p j x k v

-- the write rule, in the book's words ("has already processed a read", whatever became of the reader): some read of x by a transaction above i was given a version from below i
pub record IsReadAcross (p : List Effect) (x : List ℕ) (i : ℕ) : Type 0 where
  pub reader : ℕ
  pub source : ℕ
  pub found : After
  pub read : IsRead p reader x source found
  pub low : source < i
  pub high : i < reader

-- the same as a test: a write of x at i is too late. The law says that test and rule agree
abbrev pub too_late : List Effect → List ℕ → ℕ → Bool
too_late [] x i = false
too_late (Reads j y v ∷ p) x i = (bytes_eq y x && (nat_lt (visible p y j).ts i && nat_lt i j)) || too_late p x i
too_late (Scans j span rows ∷ p) x i = (in_span span x && (nat_lt (visible p x j).ts i && nat_lt i j)) || too_late p x i
too_late (_ ∷ p) x i = too_late p x i

-- each read that wasn't given its own transaction's version was given what is for good the newest committed one below
-- its reader, suc t (timestamps begin at 1)
abbrev pub ReadNewest : List Effect → Type 0
ReadNewest p = (t : ℕ) (x : List ℕ) (k : ℕ) (v : After) → IsRead p (suc t) x k v → k ≤ t → IsNewest (committed_version_of p x) t k v
