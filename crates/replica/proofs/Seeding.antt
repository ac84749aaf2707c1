-- A map that is made of rising rows, one after another.
use Rattle.std.proofs.Common.{arith}
use Rattle.std.proofs.Common.{rules}
use Rattle.std.proofs.Common.{◌≡◌, ℕ, cond, List, [], ◌∷◌, ◌++◌, Option, Some, None, refl, sym, ◌∙◌, ap}
use Rattle.std.specs.Prelude.{bytes_eq}
use Rattle.replica.proofs.Common.{AreRows, IsPairIn, KeysRise, Less, Map, Span, among_rows, both_ways, by_test, in_span, key_clash, key_cmp, pair_among, put, same_key, span_part, value_among}
use Rattle.replica.proofs.Rests.{none_of}

abbrev Pairs : Type 0
Pairs = List (List ℕ × List ℕ)

-- the map with the rows put in, in turn
abbrev pub puts : Map → Pairs → Map
puts m [] = m
puts m (e ∷ es) = puts (put m e.0 (Some e.1)) es

pub puts_one : (m : Map) (es : Pairs) (e : List ℕ × List ℕ) → puts m (es ++ e ∷ []) ≡ put (puts m es) e.0 (Some e.1)
puts_one m [] e = refl
puts_one m (d ∷ es) e = puts_one (put m d.0 (Some d.1)) es e

abbrev value_or : Option (List ℕ) → Option (List ℕ) → Option (List ℕ)
value_or None w = w
value_or (Some v) w = Some v

value_or_none : (o : Option (List ℕ)) → value_or o None ≡ o
value_or_none None = refl
value_or_none (Some v) = refl

-- a key below all others isn't among them
none_below : (y : List ℕ) (es : Pairs) → ((x v : List ℕ) → IsPairIn es x v → key_cmp y x ≡ Less) → value_among es y ≡ None
none_below y es below = none_of (value_among es y) (λ v e. let before : key_cmp y y ≡ Less = below y v (pair_among es y v e) in key_clash y y before before)

puts_among : (m : Map) (es : Pairs) (x : List ℕ) → KeysRise es → puts m es x ≡ value_or (value_among es x) (m x)
puts_among m [] x rising = refl
puts_among m (e ∷ es) x rising = puts_among (put m e.0 (Some e.1)) es x rising.1 ∙ by_test (bytes_eq e.0 x)
    (λ here. search (same_key, none_below, rules, arith))
    (λ there. rw there refl)

-- rows that rise, put into an empty map, are what the map has
pub puts_all : (es : Pairs) (x : List ℕ) → KeysRise es → puts (λ y. None) es x ≡ value_among es x
puts_all es x rising = puts_among (λ y. None) es x rising ∙ value_or_none (value_among es x)

-- one row more
pub put_more : (m n : Map) (es : Pairs) (k v : List ℕ) → ((x : List ℕ) → m x ≡ puts (λ y. None) es x) → ((x : List ℕ) → n x ≡ put m k (Some v) x)
    → (x : List ℕ) → n x ≡ puts (λ y. None) (es ++ (k, v) ∷ []) x
put_more m n es k v is put_at x = put_at x ∙ ap (λ o. cond (bytes_eq k x) (Some v) o) (is x) ∙ ap (λ (f : Map). f x) (sym (puts_one (λ y. None) es (k, v)))

-- the rows of a scan are the span's part of its map
pub among_part : (span : Span) (m : Map) (rows : Pairs) → AreRows span m rows → (x : List ℕ) → value_among rows x ≡ span_part span m x
among_part span m rows are x = by_test (in_span span x)
    (λ inside. rw inside (among_rows span m rows are x inside))
    (λ outside. rw outside (none_of (value_among rows x) (λ v e. both_ways _ outside ((are.each x v).0 (pair_among rows x v e)).0)))
