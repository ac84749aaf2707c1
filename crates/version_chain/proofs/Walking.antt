-- A walk from one version to the next.
use Rattle.version_chain.proofs.Common.{AllByRecursion, Excluded, Included, IsIn, IsStrictlySortedBy, Less, RisingKeys, both_ways, by_test, common_steps, eq-eqb, eqb-true, false_from_ne_true, filter_in, has, has_in, key_lt, keys_of, lt-ltb, ltb-true, nat_cmp, nat_tests, not_itself, range_contains, ranked}
use Rattle.std.proofs.Common.{◌≡◌, ℕ, ◌<◌, ◌≤◌, ◌⊎◌, true, false, List, [], ◌∷◌, Some, refl, sym, ◌∙◌, subst, inl, inr, arith}
use Rattle.std.specs.Prelude.{filter}
use Rattle.version_chain.specs.declared.index.Index.{Index}
use Rattle.version_chain.specs.Indexes.{is_listed, listed_in, IsFirstBetween, IsIndexOf, AreBetween}
use Rattle.version_chain.specs.Walking.{is_after_place, is_before, IsStep, IsToCome, Walk, IsAhead, IsBeside}
use Rattle.version_chain.proofs.Indexes.{Keyed, is_at_number, listed_first}
use Rattle.version_chain.proofs.Order.{before_itself, after_beside, after_trans, at_place, beside_is_not_before, from_less, higher_is_not_below, key_above, later_is_not_before}

-- ---- the timestamps above the place's

-- the timestamps that follow are above the bound
pub listed_above : (a b : ℕ) (es : Keyed) → AreBetween a b es → (y : List ℕ) (i : ℕ) → listed_in es y i ≡ true → a < i
listed_above a b [] are y i listed = (let no : false ≡ true = listed in cc)
listed_above a b (e ∷ es) are y i listed = grind (arith, common_steps, listed_above e.0 b es are.2 y i)

-- and at or below the other
listed_low : (a b : ℕ) (es : Keyed) → AreBetween a b es → (y : List ℕ) (i : ℕ) → listed_in es y i ≡ true → i ≤ b
listed_low a b [] are y i listed = (let no : false ≡ true = listed in cc)
listed_low a b (e ∷ es) are y i listed = grind (arith, common_steps, listed_low e.0 b es are.2 y i)

-- what the first of them lists, and what the rest does
first_listed : (a b t : ℕ) (keys : List (List ℕ)) (es : Keyed) → AreBetween a b ((t, keys) ∷ es) → (y : List ℕ) (i : ℕ) → ((i ≡ t) × IsIn y keys) ⊎ (listed_in es y i ≡ true) → listed_in ((t, keys) ∷ es) y i ≡ true
first_listed a b t keys es are y i one = grind (arith, common_steps, by_test, has_in, listed_above, eqb-true, is_at_number, both_ways, eq-eqb)

-- the first of them
pub is_first_between : (index : Index) (a b t : ℕ) (keys : List (List ℕ)) (es rest : Keyed) → ((y : List ℕ) (i : ℕ) → a < i → i ≤ b → listed_in es y i ≡ is_listed index y i) → AreBetween a b es → es ≡ (t, keys) ∷ rest → IsFirstBetween index a b t
is_first_between index a b t keys es rest listed are is = grind (arith, common_steps, false_from_ne_true, listed_first, listed_above)

-- what a range of an ordered map has
pub are_between : (a b : ℕ) (es : Keyed) → IsStrictlySortedBy nat_cmp (keys_of es) → AreBetween a b (filter (λ (e : ℕ × List (List ℕ)). range_contains nat_cmp (Excluded a) (Included b) e.0) es)
unfolding IsStrictlySortedBy
are_between a b [] sorted = tt
are_between a b (e ∷ es) sorted = by_test (range_contains nat_cmp (Excluded a) (Included b) e.0)
    (λ on. let within = in_bounds a b e.0 on in rw on (within.0, within.1, above_all e.0 a b es sorted.0 sorted.1))
    (λ off. rw off (are_between a b es sorted.1))
  where
    in_bounds : (a b t : ℕ) → range_contains nat_cmp (Excluded a) (Included b) t ≡ true → (a < t) × (t ≤ b)
    in_bounds a b t on = (grind (arith, nat_tests), grind (arith, nat_tests))

    above_all : (c a b : ℕ) (es : Keyed) → AllByRecursion (λ t. nat_cmp c t ≡ Less) (keys_of es) → IsStrictlySortedBy nat_cmp (keys_of es)
        → AreBetween c b (filter (λ (e : ℕ × List (List ℕ)). range_contains nat_cmp (Excluded a) (Included b) e.0) es)
    above_all c a b [] all sorted = tt
    above_all c a b (e ∷ es) all sorted = by_test (range_contains nat_cmp (Excluded a) (Included b) e.0)
        (λ on. let within = in_bounds a b e.0 on in rw on (ranked c e.0 Less (sym all.0), within.1, above_all e.0 a b es sorted.0 sorted.1))
        (λ off. rw off (above_all c a b es all.1 sorted.1))

-- a bound that is no lower, or one that nothing reaches
pub up_to : (a b m : ℕ) (es : Keyed) → (a < m → m ≤ b) → AreBetween a m es → AreBetween a b es
up_to a b m [] low are = tt
up_to a b m (e ∷ es) low are = grind (arith, common_steps, up_to e.0 b m es)

-- ---- what is ahead

-- at its own timestamp only what is above its key is to come, and later all that is listed
pub begins : (w : Walk) (index : Index) (keys : List (List ℕ)) (later : Keyed) → IsIndexOf w.store index → IsBeside w keys → AreBetween w.ts w.through later
    → ((y : List ℕ) (i : ℕ) → w.ts < i → i ≤ w.through → listed_in later y i ≡ is_listed index y i) → IsAhead w w.ts keys later
begins w index keys later indexed beside between listed = record {
  rising = beside.rising;
  between = between;
  all = λ y i. (
    λ h. let now = indexed y i in let same = listed y i in let here = (beside.all y).0 in grind (arith, common_steps, at_place, ltb-true),
    λ k. let now = indexed y i in let same = listed y i in let here = (beside.all y).1 in grind (arith, common_steps, listed_above, listed_low, from_less, lt-ltb),
  );
}

-- nothing has a version at the place's timestamp
pub none_beside : (w : Walk) (index : Index) → IsIndexOf w.store index → ((y : List ℕ) → is_listed index y w.ts ≡ false) → IsBeside w []
none_beside w index indexed none = record { rising = tt; all = λ y. (λ h. both_ways _ (none y) (indexed y w.ts ∙ h.there), λ i. absurd i) }

-- of what has, that above the place's key is to come
pub some_beside : (w : Walk) (index : Index) (key : List ℕ) (keys above : List (List ℕ)) → w.key ≡ Some key → w.ts ≤ w.through → IsIndexOf w.store index → ((y : List ℕ) → has y keys ≡ is_listed index y w.ts)
    → above ≡ filter (key_lt key) keys → RisingKeys above → IsBeside w above
some_beside w index key keys above at low indexed listed are rising = record {
  rising = rising;
  all = λ y. (
    λ h. subst (IsIn y) (sym are) ((filter_in (key_lt key) y keys).1 (
      (at_place w.ts key y w.ts (subst (λ k. is_after_place w.ts k y w.ts ≡ true) at h.later) (omega arith)).1,
      (has_in y keys).1 (listed y ∙ indexed y w.ts ∙ h.there),
    )),
    λ i. let within = (filter_in (key_lt key) y keys).0 (subst (IsIn y) are i) in grind (arith, common_steps, has_in, after_beside),
  );
}

-- the first of the keys is the next step
pub finds : (w : Walk) (at : ℕ) (x : List ℕ) (keys : List (List ℕ)) (later : Keyed) → IsAhead w at (x ∷ keys) later → IsStep w at x
finds w at x keys later ahead = record {
  one = (ahead.all x at).1 (inl (refl, inl refl));
  first = λ y i h. grind (arith, common_steps, beside_is_not_before, not_itself, higher_is_not_below, later_is_not_before, listed_above);
}

-- behind it the keys above it are ahead
pub goes_to : (w : Walk) (at : ℕ) (x : List ℕ) (keys : List (List ℕ)) (later : Keyed) → IsAhead w at (x ∷ keys) later → IsAhead (record w { ts = at; key = Some x }) at keys later
goes_to w at x keys later ahead = record {
  rising = ahead.rising.1;
  between = ahead.between;
  all = λ y i. (
    λ h. elim ((ahead.all y i).0 (was y i h)) [
      | inl among ↦ elim among.1 [
        | inl same ↦ absurd (before_itself at x (subst (λ k. is_before at x at k ≡ true) (sym same) (subst (λ t. is_before at x t y ≡ true) among.0 h.later)))
        | inr there ↦ inl (among.0, there)
      ]
      | inr there ↦ inr there
    ],
    λ k. elim k [
      | inl here ↦ (let h = (ahead.all y i).1 (inl (here.0, inr here.1)) in
          record { there = h.there; later = subst (λ t. is_before at x t y ≡ true) (sym here.0) (after_beside at x y (key_above x y (ahead.rising.0 y here.1))); low = h.low })
      | inr there ↦ (let h = (ahead.all y i).1 (inr there) in record { there = h.there; later = from_less at i x y (listed_above at w.through later ahead.between y i there); low = h.low })
    ],
  );
}
  where
    was : (y : List ℕ) (i : ℕ) → IsToCome (record w { ts = at; key = Some x }) y i → IsToCome w y i
    was y i h = record { there = h.there; later = after_trans w.ts w.key at i x y ((ahead.all x at).1 (inl (refl, inl refl))).later h.later; low = h.low }

-- where none of the keys is left, the next timestamp's are ahead
pub goes_on : (w : Walk) (at t : ℕ) (next : List (List ℕ)) (later : Keyed) → IsAhead w at [] ((t, next) ∷ later) → RisingKeys next → IsAhead w t next later
goes_on w at t next later ahead rising = record {
  rising = rising;
  between = ahead.between.2;
  all = λ y i. (
    λ h. grind (arith, common_steps, listed_first, has_in),
    λ k. (ahead.all y i).1 (inr (first_listed at w.through t next later ahead.between y i k)),
  );
}
