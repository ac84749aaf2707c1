-- What a store means: each key's versions and readers, which are committed, what a step changes; the keys of a span.
use Rattle.std.specs.Prelude.{ℕ, List, [], ◌∷◌, Bool, true, false, ◌≡◌, ◌==◌, ◌&&◌, if◌then◌else◌, bytes_eq, Option, unwrap_or, ◌<◌, ◌≤◌, ◌||◌, Some, None, option_map, is_some, length}
use Rattle.std.specs.BTreeMap.Range.{entries_between}
use Rattle.std.specs.declared.ops.Bound.{Bound}
use Rattle.std.specs.declared.ops.Bound.TheVariants.{Unbounded}
use Rattle.spans.specs.Versions as reads
use Rattle.version_chain.specs.Prelude.{has, is_at, is_kept, key_cmp, lookup, reaches, step_at, After, AreThose, IsNumberOf, VersionName, MAX_KEY_BYTES, Numbered, RisingKeys, Span, filter, from_low, in_span, keys_of, IsCrossed, IsNextAbove, IsPiece, newest, until}
use Rattle.version_chain.specs.declared.chain.Version.{Version}
use Rattle.version_chain.specs.Versions.{version_of}

-- a key with its versions
abbrev pub Entry : Type 0
Entry = List ℕ × List Version

-- what a store is seen as
pub record Stored : Type 0 where
  -- the keys with a record, each with its versions, perhaps none
  pub entries : List Entry
  -- the same keys, each with its readers
  pub readers : List (List ℕ × List ℕ)
  -- of any other key: from each start on, the latest reader
  pub starts : List (List ℕ × ℕ)
  -- readers up to it count as none
  pub forgotten : ℕ

-- what the list has at x, or else `none`
abbrev pub at_key : {A : Type 0} → List (List ℕ × A) → A → List ℕ → A
at_key es none x = unwrap_or (lookup (is_at (key_cmp x)) es) none

-- the versions of x
abbrev pub chain_in : List Entry → List ℕ → List Version
chain_in es x = at_key es [] x

abbrev pub chain_of : Stored → List ℕ → List Version
chain_of s x = chain_in s.entries x

-- the version of x at t
abbrev pub found_in : Stored → List ℕ → ℕ → Option Version
found_in s x t = version_of (chain_of s x) t

-- a change at one place alone: what was found at x and t became f of it
abbrev pub IsChangedAt : Stored → Stored → List ℕ → ℕ → (Option Version → Option Version) → Type 0
IsChangedAt s s' x t f = (y : List ℕ) (i : ℕ) → found_in s' y i ≡ (if (t == i) && bytes_eq x y then f (found_in s y i) else found_in s y i)

-- the same at t and each of these keys
abbrev pub AreChangedAt : Stored → Stored → List (List ℕ) → ℕ → (Option Version → Option Version) → Type 0
AreChangedAt s s' keys t f = (y : List ℕ) (i : ℕ) → found_in s' y i ≡ (if (t == i) && has y keys then f (found_in s y i) else found_in s y i)

-- x is marked by the reader: it is one of those of x's record, or the latest of all spans where there is no record
abbrev pub marked_in : Stored → List ℕ → ℕ → Bool
marked_in s x j = is_kept s.forgotten (at_key s.readers (step_at (reaches x) 0 s.starts ∷ []) x) j

-- each key has the versions that it had
abbrev pub HaveSameChains : Stored → Stored → Type 0
HaveSameChains s s' = (x : List ℕ) → chain_of s' x ≡ chain_of s x

-- each key has the readers that it had
abbrev pub HaveSameMarks : Stored → Stored → Type 0
HaveSameMarks s s' = (x : List ℕ) (j : ℕ) → marked_in s' x j ≡ marked_in s x j

-- there are versions
abbrev pub has_versions : List Version → Bool
has_versions [] = false
has_versions (v ∷ vs) = true

-- no chain is empty
abbrev pub AreFilled : List Entry → Type 0
AreFilled [] = Unit {0}
AreFilled (e ∷ es) = (e.1 ≡ [] → ⊥) × AreFilled es

abbrev pub after_of : Option Version → Option After
after_of o = option_map (λ (v : Version). v.after) o

abbrev pub is_committed : Option Version → Bool
is_committed None = false
is_committed (Some v) = v.committed

-- what the version of x at t left, where there is one
abbrev pub version_in : Stored → List ℕ → ℕ → Option After
version_in s x t = after_of (found_in s x t)

-- there is a version of x at t, and it is committed
abbrev pub is_committed_in : Stored → List ℕ → ℕ → Bool
is_committed_in s x t = is_committed (found_in s x t)

-- n is how many versions there are
pub record IsCountOf (s : Stored) (n : ℕ) : Type 0 where
  pub versions : List VersionName
  pub all : AreThose (λ v. is_some (version_in s v.key v.ts)) versions
  pub count : length versions ≡ n

-- n is how many keys have a version at t
abbrev pub IsCountAt : Stored → ℕ → ℕ → Type 0
IsCountAt s t n = IsNumberOf (λ x. is_some (version_in s x t)) n

-- v is the version of x with the greatest timestamp at or below t
pub record IsNewestIn (s : Stored) (x : List ℕ) (t : ℕ) (v : Version) : Type 0 where
  pub at_most : v.ts ≤ t
  pub version : version_in s x v.ts ≡ Some v.after
  pub committed : is_committed_in s x v.ts ≡ v.committed
  pub gap : (i : ℕ) → v.ts < i → i ≤ t → version_in s x i ≡ None

-- v is the version of x at t, and it is committed
pub record IsCommittedAt (s : Stored) (x : List ℕ) (t : ℕ) (v : Version) : Type 0 where
  pub at : v.ts ≡ t
  pub found : found_in s x t ≡ Some v
  pub done : v.committed ≡ true

-- the store means what it did
pub record IsAsBefore (s s' : Stored) : Type 0 where
  pub version : (y : List ℕ) (i : ℕ) → version_in s' y i ≡ version_in s y i
  pub committed : (y : List ℕ) (i : ℕ) → is_committed_in s' y i ≡ is_committed_in s y i

-- t has an undecided version of x
pub record IsWrittenTo (s s' : Stored) (t : ℕ) (x : List ℕ) (a : After) : Type 0 where
  pub version : (y : List ℕ) (i : ℕ) → version_in s' y i ≡ (if (t == i) && bytes_eq x y then Some a else version_in s y i)
  pub committed : (y : List ℕ) (i : ℕ) (b : After) → version_in s' y i ≡ Some b → is_committed_in s' y i ≡ (if (t == i) && bytes_eq x y then false else is_committed_in s y i)

-- the versions of t are committed
pub record AreCommittedAt (s s' : Stored) (t : ℕ) : Type 0 where
  pub version : (y : List ℕ) (i : ℕ) → version_in s' y i ≡ version_in s y i
  pub committed : (y : List ℕ) (i : ℕ) (b : After) → version_in s y i ≡ Some b → is_committed_in s' y i ≡ ((t == i) || is_committed_in s y i)

-- the versions of t are gone
pub record AreDroppedAt (s s' : Stored) (t : ℕ) : Type 0 where
  pub version : (y : List ℕ) (i : ℕ) → version_in s' y i ≡ (if t == i then None else version_in s y i)
  pub committed : (y : List ℕ) (i : ℕ) (b : After) → version_in s' y i ≡ Some b → is_committed_in s' y i ≡ is_committed_in s y i

-- ---- keys of a span, with a number

-- the keys from a start on
abbrev pub starting_at : Bound (List ℕ) → Numbered → Numbered
starting_at start ns = entries_between key_cmp start Unbounded ns

-- no key lies before the bound, of those that are no longer than a key may be
abbrev pub AreBehind : Option (List ℕ) → Numbered → Type 0
AreBehind low [] = Unit {0}
AreBehind low (e ∷ ns) = (length e.0 ≤ MAX_KEY_BYTES → from_low low e.0 ≡ true) × AreBehind low ns

-- rising keys, none of which lies before the bound
pub record AreAhead (low : Option (List ℕ)) (ns : Numbered) : Type 0 where
  pub rising : RisingKeys (keys_of ns)
  pub behind : AreBehind low ns

-- the rest of the keys from the bound on: all of them, and none that lies before it
pub record AreFrom (low : Option (List ℕ)) (ns rest : Numbered) : Type 0 where
  pub ahead : AreAhead low rest
  pub all : filter (λ (e : List ℕ × ℕ). from_low low e.0) rest ≡ filter (λ (e : List ℕ × ℕ). from_low low e.0) ns

-- those of the span
abbrev pub numbered_in : Span → Numbered → Numbered
numbered_in span ns = filter (λ (e : List ℕ × ℕ). in_span span e.0) ns

-- ---- keys of a span, with a version

-- those that have one
abbrev pub filled : List Entry → List Entry
filled es = filter (λ (e : Entry). has_versions e.1) es

-- the entries of the span with a version, by rising key
pub record AreFound (span : Span) (es found : List Entry) : Type 0 where
  pub ordered : RisingKeys (keys_of es)
  pub those : found ≡ filter (λ (e : Entry). in_span span e.0 && has_versions e.1) es
  pub rising : RisingKeys (keys_of found)
  pub filled : AreFilled found

-- ---- what a read marks

-- the newest version of x at or below t
abbrev pub newest_in : Stored → ℕ → List ℕ → reads.Version
newest_in s t x = newest (version_in s x) t

-- a write of x at t is refused: a reader above it has read the version below it
abbrev pub IsCrossedIn : Stored → List ℕ → ℕ → Type 0
IsCrossedIn s x t = IsCrossed (marked_in s x) (version_in s x) t

-- of x's readers above `above` and up to `until`, and t, the greatest is left
pub record IsMarkedAt (s s' : Stored) (x : List ℕ) (t above until : ℕ) : Type 0 where
  pub piece : IsPiece (marked_in s x) (marked_in s' x) t above until
  pub others : (y : List ℕ) → bytes_eq x y ≡ false → (j : ℕ) → marked_in s' y j ≡ marked_in s y j

-- a read by t of a key with these versions is noted: not at all where it found t's own version, and else in the gap from the
-- version that it found to the next
pub record IsNotedOn (versions : ℕ → Option After) (m m' : ℕ → Bool) (t : ℕ) : Type 0 where
  pub next : Option ℕ
  pub is_next : IsNextAbove versions t next
  pub own : (newest versions t).ts ≡ t → (j : ℕ) → m' j ≡ m j
  pub other : ((newest versions t).ts == t) ≡ false → IsPiece m m' t (newest versions t).ts (until next)

abbrev pub IsNotedIn : Stored → List ℕ → ℕ → (ℕ → Bool) → Type 0
IsNotedIn s x t m' = IsNotedOn (version_in s x) (marked_in s x) m' t

-- the same of each key of the span
pub record AreMarkedAt (s s' : Stored) (span : Span) (t : ℕ) : Type 0 where
  pub noted : (x : List ℕ) → in_span span x ≡ true → IsNotedIn s x t (marked_in s' x)
  pub others : (x : List ℕ) → in_span span x ≡ false → (j : ℕ) → marked_in s' x j ≡ marked_in s x j
