-- Sets of keys: spans, rising lists of keys, and the part of a map that lies in a span. Lists that stand for sets.
use Rattle.std.specs.Prelude.{ℕ, List, [], ◌∷◌, Bool, true, ◌&&◌, ◌≡◌, ◌⊎◌, ◌↔◌, Option, Some, None, bytes_eq, if◌then◌else◌, false}
use Rattle.std.specs.declared.cmp.Ordering.{Ordering}
use Rattle.std.specs.declared.cmp.Ordering.TheVariants.{Less, Equal, Greater}
use Rattle.std.specs.List.{AllPairs, list_any}
use Rattle.timestamps.specs.Bytes.{key_cmp}
use Rattle.spans.specs.declared.span.Span.{Span}
use Rattle.spans.specs.KeyOrder.{from_low, below_high}

-- the span holds the key
abbrev pub in_span : Span → List ℕ → Bool
in_span s x = from_low s.lo x && below_high s.hi x

-- x before, at or after y, where more is x in its place after y
abbrev pub insert_where : Ordering → List ℕ → List ℕ → List (List ℕ) → List (List ℕ) → List (List ℕ)
insert_where Less x y ys more = x ∷ y ∷ ys
insert_where Equal x y ys more = y ∷ ys
insert_where Greater x y ys more = y ∷ more

-- x in its place among rising keys, once
abbrev pub insert_key : List ℕ → List (List ℕ) → List (List ℕ)
insert_key x [] = x ∷ []
insert_key x (y ∷ ys) = insert_where (key_cmp x y) x y ys (insert_key x ys)

abbrev pub with_value : List ℕ → Option (List ℕ) → List (List ℕ × List ℕ) → List (List ℕ × List ℕ)
with_value x None rows = rows
with_value x (Some v) rows = (x, v) ∷ rows

-- of the keys, those that have a value in the map, each with its value
abbrev pub pairs_of : (List ℕ → Option (List ℕ)) → List (List ℕ) → List (List ℕ × List ℕ)
pairs_of m [] = []
pairs_of m (x ∷ xs) = with_value x (m x) (pairs_of m xs)

-- the key x with the value v is one of the rows
abbrev pub IsPairIn : List (List ℕ × List ℕ) → List ℕ → List ℕ → Type 0
IsPairIn [] x v = ⊥
IsPairIn (r ∷ rows) x v = ((r.0 ≡ x) × (r.1 ≡ v)) ⊎ IsPairIn rows x v

abbrev pub KeysRise : List (List ℕ × List ℕ) → Type 0
KeysRise [] = Unit {0}
KeysRise (r ∷ rows) = ((x v : List ℕ) → IsPairIn rows x v → key_cmp r.0 x ≡ Less) × KeysRise rows

-- the rows are the keys of the span that have a value in the map, each with its value, by rising key
pub record AreRows (span : Span) (m : List ℕ → Option (List ℕ)) (rows : List (List ℕ × List ℕ)) : Type 0 where
  pub rising : KeysRise rows
  pub each : (x v : List ℕ) → IsPairIn rows x v ↔ ((in_span span x ≡ true) × (m x ≡ Some v))

-- what the rows have at a key, and nothing where they don't have it
abbrev pub value_among : List (List ℕ × List ℕ) → List ℕ → Option (List ℕ)
value_among [] x = None
value_among (r ∷ rows) x = if bytes_eq r.0 x then Some r.1 else value_among rows x

-- x is one of the list
abbrev pub Has : {A : Type 0} → A → List A → Type 0
Has x [] = ⊥
Has x (y ∷ ys) = (y ≡ x) ⊎ Has x ys

-- nothing is in the list twice
abbrev pub AreDistinct : {A : Type 0} → List A → Type 0
AreDistinct [] = Unit {0}
AreDistinct (x ∷ xs) = (Has x xs → ⊥) × AreDistinct xs

-- x is one of the keys
abbrev pub is_among : List ℕ → List (List ℕ) → Bool
is_among x keys = list_any (λ y. bytes_eq y x) keys

-- some span of the list holds x
abbrev pub is_held : List Span → List ℕ → Bool
is_held spans x = list_any (λ s. in_span s x) spans

-- no key lies in both
abbrev pub AreApart : Span → Span → Type 0
AreApart s t = (x : List ℕ) → in_span s x ≡ true → in_span t x ≡ false

-- no key lies in two spans of the list
abbrev pub NoneOverlap : List Span → Type 0
NoneOverlap spans = AllPairs AreApart spans
