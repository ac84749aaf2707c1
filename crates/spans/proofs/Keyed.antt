-- Rising keys, and the rows that they give.
use Rattle.spans.proofs.Common.{Equal, Greater, Less, both_ways, common_steps, exact_bytes, key_cmp, nat_list_cmp_total, ordering_reverse}
use Rattle.std.proofs.Common.{arith}
use Rattle.std.proofs.Common.{◌≡◌, ℕ, ◌⊎◌, Bool, true, List, [], ◌∷◌, Option, Some, None, refl, sym, ◌∙◌, ap, inl}
use Rattle.std.specs.Prelude.{◌↔◌, filter, is_some}
use Rattle.spans.specs.declared.span.Span.{Span}
use Rattle.spans.specs.Keys.{in_span, insert_key, pairs_of, IsPairIn, KeysRise, AreRows, value_among}
use Rattle.spans.proofs.Steps.{by_test, same_key, key_itself}

abbrev pub IsIn : List ℕ → List (List ℕ) → Type 0
IsIn x [] = ⊥
IsIn x (y ∷ ys) = (y ≡ x) ⊎ IsIn x ys

abbrev pub RisingKeys : List (List ℕ) → Type 0
RisingKeys [] = Unit {0}
RisingKeys (y ∷ ys) = ((x : List ℕ) → IsIn x ys → key_cmp y x ≡ Less) × RisingKeys ys

pub added_in : (x : List ℕ) (ys : List (List ℕ)) → IsIn x (insert_key x ys)
added_in x [] = inl refl
added_in x (y ∷ ys) = let same : key_cmp x y ≡ Equal → x ≡ y = exact_bytes x y in grind (arith, common_steps, added_in x ys)

pub stays_in : (x z : List ℕ) (ys : List (List ℕ)) → IsIn z ys → IsIn z (insert_key x ys)
stays_in x z [] i = absurd i
stays_in x z (y ∷ ys) i = grind (arith, common_steps, stays_in x z ys)

pub only_in : (x z : List ℕ) (ys : List (List ℕ)) → IsIn z (insert_key x ys) → (x ≡ z) ⊎ IsIn z ys
only_in x z [] i = i
only_in x z (y ∷ ys) i = grind (arith, common_steps, only_in x z ys)

pub add_rises : (x : List ℕ) (ys : List (List ℕ)) → RisingKeys ys → RisingKeys (insert_key x ys)
add_rises x [] r = (λ z i. absurd i, tt)
add_rises x (y ∷ ys) r = grind (arith, common_steps, nat_list_cmp_total, only_in, add_rises x ys r.1)

pub filter_in : (p : List ℕ → Bool) (x : List ℕ) (ys : List (List ℕ)) → IsIn x (filter p ys) ↔ ((p x ≡ true) × IsIn x ys)
filter_in p x [] = (λ i. absurd i, λ i. absurd i.1)
filter_in p x (y ∷ ys) = grind (arith, common_steps, filter_in p x ys)

pub filter_rises : (p : List ℕ → Bool) (ys : List (List ℕ)) → RisingKeys ys → RisingKeys (filter p ys)
filter_rises p [] r = tt
filter_rises p (y ∷ ys) r = grind (arith, common_steps, filter_in, filter_rises p ys r.1)

pub is_pair_of : (m : List ℕ → Option (List ℕ)) (ys : List (List ℕ)) (x v : List ℕ) → IsPairIn (pairs_of m ys) x v ↔ (IsIn x ys × (m x ≡ Some v))
is_pair_of m [] x v = (λ i. absurd i, λ i. absurd i.0)
is_pair_of m (y ∷ ys) x v = grind (arith, common_steps, is_pair_of m ys x v)

pub pairs_rise : (m : List ℕ → Option (List ℕ)) (ys : List (List ℕ)) → RisingKeys ys → KeysRise (pairs_of m ys)
pairs_rise m [] r = tt
pairs_rise m (y ∷ ys) r = grind (arith, common_steps, is_pair_of, pairs_rise m ys r.1)

-- where each key with a value is among the keys
pub are_rows : (span : Span) (m : List ℕ → Option (List ℕ)) (keys : List (List ℕ)) → RisingKeys keys → ((x v : List ℕ) → m x ≡ Some v → IsIn x keys) → AreRows span m (pairs_of m (filter (in_span span) keys))
are_rows span m keys r all = grind (arith, common_steps, pairs_rise, filter_rises, is_pair_of, filter_in)

-- maps that are alike in the span have the same rows
pub rows_like : (span : Span) (m n : List ℕ → Option (List ℕ)) (rows : List (List ℕ × List ℕ)) → ((x : List ℕ) → in_span span x ≡ true → m x ≡ n x) → AreRows span m rows → AreRows span n rows
rows_like span m n rows same r = grind (arith, common_steps)

-- what is among the rows is one of them
pub pair_among : (rows : List (List ℕ × List ℕ)) (x v : List ℕ) → value_among rows x ≡ Some v → IsPairIn rows x v
pair_among [] x v is = cc
pair_among (r ∷ rows) x v is = grind (arith, common_steps, by_test, same_key, pair_among rows x v)

-- and where there is one, something is
pub none_among : (rows : List (List ℕ × List ℕ)) (x v : List ℕ) → value_among rows x ≡ None → IsPairIn rows x v → ⊥
none_among [] x v none i = i
none_among (r ∷ rows) x v none i = grind (arith, common_steps, by_test, both_ways, key_itself, none_among rows x v)

-- at a key of their span rows have what their map has
pub among_rows : (span : Span) (m : List ℕ → Option (List ℕ)) (rows : List (List ℕ × List ℕ)) → AreRows span m rows → (x : List ℕ) → in_span span x ≡ true → value_among rows x ≡ m x
among_rows span m rows are x inside = by_value (value_among rows x) refl (m x) refl
  where
    by_value : (o : Option (List ℕ)) → value_among rows x ≡ o → (q : Option (List ℕ)) → m x ≡ q → value_among rows x ≡ m x
    by_value (Some v) e q f = e ∙ sym ((are.each x v).0 (pair_among rows x v e)).1
    by_value None e None f = e ∙ sym f
    by_value None e (Some v) f = absurd (none_among rows x v e ((are.each x v).1 (inside, f)))

-- no two keys are each before the other
pub key_clash : (x y : List ℕ) → key_cmp x y ≡ Less → key_cmp y x ≡ Less → ⊥
key_clash x y e h = let r : key_cmp y x ≡ ordering_reverse (key_cmp x y) = nat_list_cmp_total.antisymm y x in let no' : Less ≡ Greater = sym h ∙ r ∙ ap ordering_reverse e in cc

-- keys that rise are determined by which they are
pub only_keys : (xs ys : List (List ℕ)) → RisingKeys xs → RisingKeys ys → ((z : List ℕ) → IsIn z xs ↔ IsIn z ys) → xs ≡ ys
only_keys [] [] h k same = refl
only_keys [] (y ∷ ys) h k same = absurd ((same y).1 (inl refl))
only_keys (x ∷ xs) [] h k same = absurd ((same x).0 (inl refl))
only_keys (x ∷ xs) (y ∷ ys) h k same =
    let e : x ≡ y = (let a = (same x).0 (inl refl) in let b = (same y).1 (inl refl) in grind (arith, common_steps, key_clash)) in
    let more = only_keys xs ys h.1 k.1 (λ z. let s = same z in let a = h.0 z in let b = k.0 z in grind (arith, common_steps, key_clash)) in
    rw (e, more) refl

-- of rising keys those that pass a test are alike where what passes it is in both or in neither
pub filtered_same : (q : List ℕ → Bool) (xs ys : List (List ℕ)) → RisingKeys xs → RisingKeys ys → ((z : List ℕ) → q z ≡ true → IsIn z xs ↔ IsIn z ys) → filter q xs ≡ filter q ys
filtered_same q xs ys h k same = only_keys (filter q xs) (filter q ys) (filter_rises q xs h) (filter_rises q ys k) (λ z. let a = filter_in q z xs in grind (arith, common_steps, filter_in))

-- keys without a value give no row
pub pairs_of_some : (m : List ℕ → Option (List ℕ)) (xs : List (List ℕ)) → pairs_of m xs ≡ pairs_of m (filter (λ x. is_some (m x)) xs)
pairs_of_some m [] = refl
pairs_of_some m (x ∷ xs) = grind (arith, common_steps, pairs_of_some m xs)

-- maps that are alike give the same rows
pub pairs_alike : (m n : List ℕ → Option (List ℕ)) (xs : List (List ℕ)) → ((x : List ℕ) → m x ≡ n x) → pairs_of m xs ≡ pairs_of n xs
pairs_alike m n [] same = refl
pairs_alike m n (x ∷ xs) same = rw (same x, pairs_alike m n xs same) refl

-- keys that have the same values give the same rows
pub pairs_only : (m : List ℕ → Option (List ℕ)) (xs ys : List (List ℕ)) → RisingKeys xs → RisingKeys ys → ((x v : List ℕ) → m x ≡ Some v → IsIn x xs × IsIn x ys) → pairs_of m xs ≡ pairs_of m ys
pairs_only m xs ys h k both = grind (arith, common_steps, pairs_of_some, filtered_same)
