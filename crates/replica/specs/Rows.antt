-- Rows as a map, lists of rows and of keys that say what a map has, which keys an index has under each value, and what
-- comes after a place among rows.
use Rattle.std.specs.Prelude.{ℕ, List, Bool, false, Option, Some, None, bytes_eq, ◌≡◌, ◌↔◌, length, [], ◌≢◌, true, ◌&&◌, ◌||◌, ◌==◌, nat_lt, nat_le}
use Rattle.std.specs.BTreeSet.{BTreeSet, contains}
use Rattle.replica.specs.Prelude.{IsIn, IsPairIn, KeysRise, Map, RisingKeys, is_at, key_cmp, lookup, Row, key_lt}
use Rattle.replica.specs.declared.place.Place.{Place}

-- there is a value, and it is v
abbrev pub has_value : Option (List ℕ) → List ℕ → Bool
has_value None v = false
has_value (Some w) v = bytes_eq w v

-- what the entries of a map have at a key
abbrev pub value_at : List (List ℕ × List ℕ) → Map
value_at rows x = lookup (is_at (key_cmp x)) rows

-- the rows are all of the map, each key with its value, keys rising
pub record AreRowsOf (m : Map) (rows : List (List ℕ × List ℕ)) : Type 0 where
  pub rising : KeysRise rows
  pub each : (x v : List ℕ) → IsPairIn rows x v ↔ (m x ≡ Some v)

-- so many rows are in the map
pub record IsCountOf (m : Map) (n : ℕ) : Type 0 where
  pub rows : List (List ℕ × List ℕ)
  pub all : AreRowsOf m rows
  pub count : n ≡ length rows

-- the keys are those that have the value v in the map, rising
pub record AreKeysWith (m : Map) (v : List ℕ) (keys : List (List ℕ)) : Type 0 where
  pub rising : RisingKeys keys
  pub each : (x : List ℕ) → IsIn x keys ↔ (m x ≡ Some v)

-- values, each with a set of keys
abbrev pub Keyed : Type 0
Keyed = List (List ℕ × BTreeSet (List ℕ))

-- x is one of the keys, if there are any
abbrev pub is_among : Option (BTreeSet (List ℕ)) → List ℕ → Bool
is_among None x = false
is_among (Some keys) x = contains key_cmp keys x

-- x is among the keys of the value v
abbrev pub is_listed : Keyed → List ℕ → List ℕ → Bool
is_listed index x v = is_among (lookup (is_at (key_cmp v)) index) x

-- no value is kept without a key
abbrev pub AreSome : Keyed → Type 0
AreSome index = (v : List ℕ) (keys : BTreeSet (List ℕ)) → lookup (is_at (key_cmp v)) index ≡ Some keys → keys.keys ≢ []

-- a key is among those of a value exactly where the rows have that value at the key
abbrev pub IsIndexOf : List (List ℕ × List ℕ) → Keyed → Type 0
IsIndexOf rows index = (x v : List ℕ) → is_listed index x v ≡ has_value (value_at rows x) v

-- where a row stands
abbrev pub place_of : Row → Place
place_of r = record { ts = r.ts; key = r.key }

-- the row comes after the place
abbrev pub is_past : Option Place → Row → Bool
is_past None r = true
is_past (Some p) r = nat_lt p.ts r.ts || ((p.ts == r.ts) && key_lt p.key r.key)

-- the timestamp is not below the place
abbrev pub is_over : Option Place → ℕ → Bool
is_over None t = true
is_over (Some p) t = nat_le p.ts t

-- the place is there, and of t
abbrev pub is_place_of : Option Place → ℕ → Bool
is_place_of None t = false
is_place_of (Some p) t = p.ts == t
