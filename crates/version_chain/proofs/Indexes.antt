-- What is listed after the keys of one timestamp changed, and the tie of an index to the chains.
use Rattle.version_chain.proofs.Common.{BTreeMap, Excluded, Included, common_steps, filter, has, has_added, insert_key, is_at, key_itself, lookup, nat_cmp, nat_tests, or_cases, range_contains, same_key}
use Rattle.std.proofs.Common.{rules}
use Rattle.std.proofs.Common.{◌≡◌, ℕ, ◌<◌, ◌≤◌, ◌⊎◌, ◌==◌, true, false, cond, ◌&&◌, ◌||◌, List, [], ◌∷◌, Option, Some, refl, sym, ◌∙◌, ap, arith}
use Rattle.std.specs.Prelude.{bytes_eq, ◌↔◌}
use Rattle.std.proofs.lemmas.Map.Entries.{lookup-filter-keys}
use Rattle.version_chain.specs.Indexes.{is_among, listed_in}

-- the keys of each timestamp
abbrev pub Keyed : Type 0
Keyed = List (ℕ × List (List ℕ))

-- the look-ups after the keys of t became w
abbrev pub ArePutAt : Keyed → Keyed → ℕ → Option (List (List ℕ)) → Type 0
ArePutAt es fs t w = (q : ℕ) → lookup (is_at (nat_cmp q)) fs ≡ cond (is_at (nat_cmp t) q) w (lookup (is_at (nat_cmp q)) es)

pub is_at_number : (t i : ℕ) → is_at (nat_cmp t) i ≡ (t == i)
is_at_number t i = grind (arith, nat_tests)

-- two changes of the same timestamp in turn
pub put_at_twice : (es fs gs : Keyed) (t : ℕ) (v w : Option (List (List ℕ))) → ArePutAt es fs t v → ArePutAt fs gs t w → ArePutAt es gs t w
put_at_twice es fs gs t v w first second q = grind (arith, common_steps)

-- the same of a map that is the one after a write
pub listed_put : (m n k : BTreeMap ℕ (List (List ℕ))) (x z : List ℕ) (t : ℕ) (w : Option (List (List ℕ))) → n ≡ k → z ≡ x → ArePutAt m.entries k.entries t w → ((y : List ℕ) → is_among w y ≡ (bytes_eq z y || listed_in m.entries y t))
    → (y : List ℕ) (i : ℕ) → listed_in n.entries y i ≡ (((t == i) && bytes_eq x y) || listed_in m.entries y i)
listed_put m n k x z t w is key put among = grind (arith, common_steps)

pub listed_less : (es fs : Keyed) (x : List ℕ) (t : ℕ) (w : Option (List (List ℕ))) → ArePutAt es fs t w → ((y : List ℕ) → is_among w y ≡ cond (bytes_eq x y) false (listed_in es y t))
    → (y : List ℕ) (i : ℕ) → listed_in fs y i ≡ cond ((t == i) && bytes_eq x y) false (listed_in es y i)
listed_less es fs x t w put among y i = grind (arith, common_steps)

-- a key came to the others, or went from them
pub one_more : (x y : List ℕ) (keys : List (List ℕ)) → has y (insert_key x keys) ≡ (bytes_eq x y || has y keys)
one_more x y keys = has_added y x keys

pub added_some : (x : List ℕ) (keys : List (List ℕ)) → insert_key x keys ≡ [] → ⊥
added_some x keys none = grind (arith, common_steps, one_more x x keys, key_itself x)

-- what lies between two timestamps is listed as in the whole
pub listed_between : (a b : ℕ) (es : Keyed) (y : List ℕ) (i : ℕ) → a < i → i ≤ b → listed_in (filter (λ (e : ℕ × List (List ℕ)). range_contains nat_cmp (Excluded a) (Included b) e.0) es) y i ≡ listed_in es y i
listed_between a b es y i above low =
    ap (λ o. is_among o y)
    (lookup-filter-keys (is_at (nat_cmp i)) (range_contains nat_cmp (Excluded a) (Included b)) true (λ k at. grind (arith, nat_tests)) es)

-- the first of what is listed, and the rest
pub listed_first : (t : ℕ) (keys : List (List ℕ)) (es : Keyed) (y : List ℕ) (i : ℕ) → listed_in ((t, keys) ∷ es) y i ≡ true → ((i ≡ t) × (has y keys ≡ true)) ⊎ (listed_in es y i ≡ true)
listed_first t keys es y i is = grind (arith, common_steps)

-- ---- keys that are taken, and put back

-- the key that is next, or one of the rest
pub next_or_rest : (x y : List ℕ) (xs rest : List (List ℕ)) → xs ≡ x ∷ rest → has y xs ≡ true → (y ≡ x) ⊎ (has y rest ≡ true)
next_or_rest x y xs rest is any = search (or_cases, has, same_key, rules, arith)

-- what is listed after the keys of t became w
pub listed_where : (es fs : Keyed) (t : ℕ) (w : Option (List (List ℕ))) → ArePutAt es fs t w → (y : List ℕ) (i : ℕ) → listed_in fs y i ≡ cond (t == i) (is_among w y) (listed_in es y i)
listed_where es fs t w put y i = grind (arith, common_steps)

-- the entry of t has no keys
abbrev pub IsTakenIn : Keyed → ℕ → Type 0
IsTakenIn es t = lookup (is_at (nat_cmp t)) es ≡ Some []

-- the same entries are without keys
pub taken_alike : (es fs : Keyed) (t : ℕ) (w : Option (List (List ℕ))) → ArePutAt es fs t w → IsTakenIn es t ↔ (w ≡ Some []) → (i : ℕ) → IsTakenIn es i ↔ IsTakenIn fs i
taken_alike es fs t w put same i = grind (arith, common_steps)

-- no entry is without keys, where t's has some and no other was
pub filled_put : (es fs : Keyed) (t : ℕ) (w : Option (List (List ℕ))) → ArePutAt es fs t w → (w ≡ Some [] → ⊥) → ((i : ℕ) → (t == i) ≡ false → IsTakenIn es i → ⊥) → (i : ℕ) → IsTakenIn fs i → ⊥
filled_put es fs t w put some others i is = grind (arith, common_steps)

-- the same of a map that is the one after a write
pub filled_after : (m n k : BTreeMap ℕ (List (List ℕ))) (t : ℕ) (keys : List (List ℕ)) → n ≡ k → ArePutAt m.entries k.entries t (Some keys) → (keys ≡ [] → ⊥) → ((i : ℕ) → IsTakenIn m.entries i → ⊥) → (i : ℕ) → IsTakenIn n.entries i → ⊥
filled_after m n k t keys is put some filled i = grind (arith, common_steps, filled i)

-- t's alone is, where it is and no other was
pub taken_alone : (es fs : Keyed) (t : ℕ) (keys : List (List ℕ)) → ArePutAt es fs t (Some keys) → keys ≡ [] → ((i : ℕ) → IsTakenIn es i → ⊥) → (i : ℕ) → IsTakenIn fs i ↔ (t ≡ i)
taken_alone es fs t keys put none filled i = grind (arith, common_steps)

-- from no keys none is taken
pub none_taken : (es : Keyed) (t : ℕ) (keys : List (List ℕ)) → lookup (is_at (nat_cmp t)) es ≡ Some keys → IsTakenIn es t → keys ≡ []
none_taken es t keys found is = let same : Some keys ≡ Some [] = sym found ∙ is in cc

-- a set that loses a key that it doesn't have stays without keys, or with some
pub none_before : (x : List ℕ) (keys keys' : List (List ℕ)) → has x keys ≡ false → ((y : List ℕ) → has y keys' ≡ cond (bytes_eq x y) false (has y keys)) → keys' ≡ [] → keys ≡ []
none_before x [] keys' none less is = refl
none_before x (z ∷ keys) keys' none less is = grind (arith, common_steps, less z, key_itself z, same_key x z)
