-- The committed versions after a place, and a walk from version to version: what it finds, and what it has ahead.
use Rattle.std.specs.Prelude.{ℕ, List, Bool, true, false, ◌≡◌, ◌≤◌, ◌==◌, ◌&&◌, ◌||◌, nat_lt, is_some, MatchOption, Option, Some, None, [], ◌∷◌, ◌↔◌, ◌⊎◌}
use Rattle.version_chain.specs.Prelude.{Bor, key_lt, IsIn, RisingKeys}
use Rattle.version_chain.specs.Stores.{found_in, Stored, is_committed_in}
use Rattle.version_chain.specs.Indexes.{AreBetween, listed_in}

-- x at t is before y at i: by timestamp and then by key, as rows are ordered
abbrev pub is_before : ℕ → List ℕ → ℕ → List ℕ → Bool
is_before t x i y = nat_lt t i || ((t == i) && key_lt x y)

-- x at i comes after the place: above its timestamp, or at it and above its key, where it has one
abbrev pub is_after_place : ℕ → Option (List ℕ) → List ℕ → ℕ → Bool
is_after_place ts None x i = nat_lt ts i
is_after_place ts (Some key) x i = is_before ts key i x

-- x has a committed version at i, after the place and at or below `through`
pub record IsLeft (s : Stored) (ts : ℕ) (key : Option (List ℕ)) (through : ℕ) (x : List ℕ) (i : ℕ) : Type 0 where
  pub committed : is_committed_in s x i ≡ true
  pub later : is_after_place ts key x i ≡ true
  pub low : i ≤ through

-- a walk from version to version, committed or not: behind which place of a store it is, and how far it goes
pub record Walk : Type 0 where
  pub store : Stored
  pub ts : ℕ
  pub key : Option (List ℕ)
  pub through : ℕ

-- x has a version at i, after the walk's place and not above where it ends
pub record IsToCome (w : Walk) (x : List ℕ) (i : ℕ) : Type 0 where
  pub there : is_some (found_in w.store x i) ≡ true
  pub later : is_after_place w.ts w.key x i ≡ true
  pub low : i ≤ w.through

-- x at t is the first that is to come
pub record IsStep (w : Walk) (t : ℕ) (x : List ℕ) : Type 0 where
  pub one : IsToCome w x t
  pub first : (y : List ℕ) (i : ℕ) → IsToCome w y i → is_before i y t x ≡ false

-- what was found, a timestamp and a key, is the first that is to come; or nothing is
abbrev pub IsNextFound : Walk → Option (ℕ × Bor (List ℕ)) → Type 0
IsNextFound w found = MatchOption found ((y : List ℕ) (i : ℕ) → IsToCome w y i → ⊥) (λ f. IsStep w f.0 f.1.now)

-- it went to what was found, or stays where nothing was
abbrev pub IsWalkedTo : Walk → Walk → Option (ℕ × Bor (List ℕ)) → Type 0
IsWalkedTo w w' found = MatchOption found (w' ≡ w) (λ f. w' ≡ record w { ts = f.0; key = Some f.1.now })

-- ---- of one timestamp

-- the first of the keys was taken, where there is one
abbrev pub IsFirstTaken : List (List ℕ) → List (List ℕ) → Option (Bor (List ℕ)) → Type 0
IsFirstTaken keys rest taken = MatchOption taken ((keys ≡ []) × (rest ≡ [])) (λ key. keys ≡ key.now ∷ rest)

-- ---- ahead

-- the keys that are ahead at one timestamp, where there are some
abbrev pub keys_ahead : Option (List (List ℕ)) → List (List ℕ)
keys_ahead None = []
keys_ahead (Some keys) = keys

-- what is to come for the walk is of these keys at one timestamp, or of later ones
pub record IsAhead (w : Walk) (at : ℕ) (keys : List (List ℕ)) (later : List (ℕ × List (List ℕ))) : Type 0 where
  pub rising : RisingKeys keys
  pub between : AreBetween at w.through later
  pub all : (y : List ℕ) (i : ℕ) → IsToCome w y i ↔ (((i ≡ at) × IsIn y keys) ⊎ (listed_in later y i ≡ true))

-- these are the keys with a version at the place's timestamp that are to come
pub record IsBeside (w : Walk) (keys : List (List ℕ)) : Type 0 where
  pub rising : RisingKeys keys
  pub all : (y : List ℕ) → IsToCome w y w.ts ↔ IsIn y keys
