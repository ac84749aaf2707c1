-- The versions of one key: at most one at each timestamp.
use Rattle.std.specs.Prelude.{List, ℕ, [], ◌∷◌, true, ◌≡◌, ◌<◌, ◌≤◌, ◌==◌, length, slice_index_or, if◌then◌else◌, Option, Some, None, option_map}
use Rattle.spans.specs.Effects.{After}
use Rattle.version_chain.specs.declared.chain.Version.{Version}
use Rattle.version_chain.specs.declared.versions.Versions.{Versions}
use Rattle.version_chain.specs.declared.versions.Versions.TheVariants.{Short, Long}

-- the versions, however they lie in memory
abbrev pub versions_in : Versions → List Version
versions_in (Short versions) = versions.items
versions_in (Long blocks) = blocks

-- all are above t
abbrev pub AreAbove : ℕ → List Version → Type 0
AreAbove t [] = Unit {0}
AreAbove t (v ∷ vs) = (t < v.ts) × AreAbove t vs

-- each is above those before it
abbrev pub DoRise : List Version → Type 0
DoRise [] = Unit {0}
DoRise (v ∷ vs) = AreAbove v.ts vs × DoRise vs

-- the version of t
abbrev pub version_of : List Version → ℕ → Option Version
version_of [] t = None
version_of (v ∷ vs) t = if v.ts == t then Some v else version_of vs t

-- n versions are at or below t, and the others above it
pub record IsPlaceAbove (vs : List Version) (t n : ℕ) : Type 0 where
  pub within : n ≤ length vs
  pub below : (k : ℕ) (d : Version) → k < n → (slice_index_or vs k d).ts ≤ t
  pub above : (k : ℕ) (d : Version) → n ≤ k → k < length vs → t < (slice_index_or vs k d).ts

-- the version of t stands at place k
pub record IsPlaceOf (vs : List Version) (t k : ℕ) : Type 0 where
  pub within : k < length vs
  pub here : (d : Version) → (slice_index_or vs k d).ts ≡ t

-- there is no version of t, and one would stand at place n
pub record IsFreePlace (vs : List Version) (t n : ℕ) : Type 0 where
  pub within : n ≤ length vs
  pub below : (k : ℕ) (d : Version) → k < n → (slice_index_or vs k d).ts < t
  pub above : (k : ℕ) (d : Version) → n ≤ k → k < length vs → t < (slice_index_or vs k d).ts

-- there is no version at or below t
abbrev pub IsNoneUpTo : List Version → ℕ → Type 0
IsNoneUpTo vs t = (i : ℕ) → i ≤ t → version_of vs i ≡ None

-- of the versions, the one with the greatest timestamp at or below t
pub record IsNewestOf (vs : List Version) (t : ℕ) (v : Version) : Type 0 where
  pub at_most : v.ts ≤ t
  pub one : version_of vs v.ts ≡ Some v
  pub gap : (i : ℕ) → v.ts < i → i ≤ t → version_of vs i ≡ None

-- there is no version above t
abbrev pub IsNoneAbove : List Version → ℕ → Type 0
IsNoneAbove vs t = (i : ℕ) → t < i → version_of vs i ≡ None

-- of the versions, the one with the least timestamp above t
pub record IsLeastAbove (vs : List Version) (t : ℕ) (v : Version) : Type 0 where
  pub above : t < v.ts
  pub one : version_of vs v.ts ≡ Some v
  pub gap : (i : ℕ) → t < i → i < v.ts → version_of vs i ≡ None

-- the version, marked as committed
abbrev pub as_committed : Version → Version
as_committed v = record v { committed = true }

-- what each version left
abbrev pub afters_of : List Version → ℕ → Option After
afters_of vs i = option_map (λ (v : Version). v.after) (version_of vs i)

-- the timestamp of the version, or else that of `none`
abbrev pub ts_or : Option Version → ℕ → ℕ
ts_or None none = none
ts_or (Some v) none = v.ts
