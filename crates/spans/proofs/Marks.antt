-- A write comes too late exactly where it falls between a read and what that read found.
use Rattle.std.proofs.Common.{◌<◌, ◌≡◌, ℕ, true, List, [], ◌∷◌, refl, inl, inr}
use Rattle.std.proofs.lemmas.Bool.{or_cases, and_parts, ltb-true}
use Rattle.spans.specs.Effects.{After, Effect, Reads, Scans}
use Rattle.spans.specs.Keys.{value_among}
use Rattle.spans.specs.Versions.{visible}
use Rattle.spans.specs.Reads.{IsRead, too_late, IsReadAcross}
use Rattle.spans.proofs.Steps.{same_key}
use Rattle.spans.proofs.Copies.{crossed}

-- a read of x at j, and what it found
across : (p : List Effect) (x : List ℕ) (i j k : ℕ) (v : After) → IsRead p j x k v → k < i → i < j → IsReadAcross p x i
across p x i j k v read low high = record { reader = j; source = k; found = v; read = read; low = low; high = high }

-- too late says that there is one
pub late_across : (p : List Effect) (x : List ℕ) (i : ℕ) → too_late p x i ≡ true → IsReadAcross p x i
late_across [] x i late = cc
late_across (Reads j y v ∷ p) x i late = elim (or_cases _ _ late) [
  | inl now ↦ (let a = and_parts _ _ now in let b = and_parts _ _ a.1 in
      across (Reads j y v ∷ p) x i j (visible p y j).ts v (inl (refl, same_key y x a.0, refl, refl)) (ltb-true _ _ b.0) (ltb-true _ _ b.1))
  | inr before ↦ (let c = late_across p x i before in across (Reads j y v ∷ p) x i c.reader c.source c.found (inr c.read) c.low c.high)
]
late_across (Scans j span rows ∷ p) x i late = elim (or_cases _ _ late) [
  | inl now ↦ (let a = and_parts _ _ now in let b = and_parts _ _ a.1 in across (Scans j span rows ∷ p) x i j (visible p x j).ts (value_among rows x) (inl (refl, a.0, refl, refl)) (ltb-true _ _ b.0) (ltb-true _ _ b.1))
  | inr before ↦ (let c = late_across p x i before in across (Scans j span rows ∷ p) x i c.reader c.source c.found (inr c.read) c.low c.high)
]
late_across (_ ∷ p) x i late = let c = late_across p x i late in record { reader = c.reader; source = c.source; found = c.found; read = c.read; low = c.low; high = c.high }

-- and where there is one it says so
pub across_late : (p : List Effect) (x : List ℕ) (i : ℕ) → IsReadAcross p x i → too_late p x i ≡ true
across_late p x i c = crossed p c.reader x c.source c.found i c.read c.low c.high
