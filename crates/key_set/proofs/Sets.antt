-- The keys of a set in the words of std, and what stays in order.
use Rattle.std.proofs.Common.{◌≡◌, ℕ, Bool, true, false, cond, ◌||◌, List, [], ◌∷◌, Option, Some, None, refl, sym, ◌∙◌, ap, subst, inl, inr, Result, Ok, Err, OnOk, OnErr, ◌<◌, length, suc, arith}
use Rattle.std.specs.Prelude.{IfNone, IfOk, IfSome, bytes_eq, filter}
use Rattle.std.specs.List.{items_where_true, list_any}
use Rattle.key_set.proofs.Common.{IsFiltered, IsIn, RisingKeys, add_rises, has, has_in, insert_key, key_cmp, key_lt, remove_key}
use Rattle.std.specs.Option.{IsSome}
use Rattle.std.specs.BTreeMap.{is_at}
use Rattle.std.specs.BTreeMap.Range.{range_contains}
use Rattle.std.specs.BTreeSet as sets
use Rattle.std.specs.Ordering.{ordering_reverse}
use Rattle.std.specs.declared.alloc.AllocError.{AllocError}
use Rattle.std.specs.declared.cmp.Ordering.TheVariants.{Equal, Greater, Less}
use Rattle.std.specs.declared.ops.Bound.TheVariants.{Excluded, Unbounded}
use Rattle.std.proofs.lemmas.Bool.{both_ways}
use Rattle.std.proofs.lemmas.Cmp.{nat_list_cmp_total, tied_itself}
use Rattle.std.proofs.lemmas.Map.Lookups.{exact_bytes}
use Rattle.std.proofs.lemmas.Map.Text.{is_eq-slice_cmp}
use Rattle.std.proofs.Math.Bool.{and-true}
use Rattle.spans.proofs.Steps.{by_test, key_itself, same_key}
use Rattle.key_set.specs.Sets.{AreInOrder, first_above, keys_in}

-- ---- in the words of std

-- those above a key lie between it and no bound
above_is : (x : List ℕ) (keys : List (List ℕ)) → filter (range_contains key_cmp (Excluded x) Unbounded) keys ≡ filter (key_lt x) keys
above_is x [] = refl
above_is x (y ∷ keys) = ap (λ b. cond b (y ∷ filter (range_contains key_cmp (Excluded x) Unbounded) keys) (filter (range_contains key_cmp (Excluded x) Unbounded) keys)) (and-true (key_lt x y))
    ∙ ap (λ l. cond (key_lt x y) (y ∷ l) l) (above_is x keys)

either_way : (x y : List ℕ) → bytes_eq x y ≡ bytes_eq y x
either_way x y = by_test (bytes_eq x y)
    (λ same. same ∙ sym (subst (λ z. bytes_eq z x ≡ true) (same_key x y same) (key_itself x)))
    (λ other. by_test (bytes_eq y x)
    (λ same. absurd (both_ways _ other (subst (λ z. bytes_eq z y ≡ true) (same_key y x same) (key_itself y))))
    (λ apart. other ∙ sym apart))

pub tells : (x y : List ℕ) → is_at (key_cmp x) y ≡ bytes_eq y x
tells x y = is_eq-slice_cmp x y ∙ either_way x y

pub found_is : (x : List ℕ) (keys : List (List ℕ)) → list_any (is_at (key_cmp x)) keys ≡ has x keys
found_is x [] = refl
found_is x (y ∷ keys) = ap (λ b. b || list_any (is_at (key_cmp x)) keys) (tells x y) ∙ ap (λ b. bytes_eq y x || b) (found_is x keys)

taken_is : (x : List ℕ) (keys : List (List ℕ)) → remove_key (is_at (key_cmp x)) keys ≡ remove_key (λ y. bytes_eq y x) keys
taken_is x [] = refl
taken_is x (y ∷ keys) = ap (λ b. cond b keys (y ∷ remove_key (is_at (key_cmp x)) keys)) (tells x y) ∙ ap (λ l. cond (bytes_eq y x) keys (y ∷ l)) (taken_is x keys)

-- ---- a key beside the least

pub found_at : (x y : List ℕ) (keys : List (List ℕ)) → key_cmp x y ≡ Equal → has x (y ∷ keys) ≡ true
found_at x y keys same = ap (λ b. b || has x keys) (subst (λ z. bytes_eq z x ≡ true) (exact_bytes x y same) (key_itself x))

pub apart : (x y : List ℕ) → key_cmp x y ≡ Greater → bytes_eq y x ≡ false
apart x y above = by_test (bytes_eq y x)
    (λ same. absurd (let no : Equal ≡ Greater = sym (tied_itself nat_list_cmp_total x) ∙ subst (λ z. key_cmp x z ≡ Greater) (same_key y x same) above in cc))
    (λ other. other)

pub found_above : (x y : List ℕ) (keys : List (List ℕ)) → key_cmp x y ≡ Greater → has x (y ∷ keys) ≡ has x keys
found_above x y keys above = ap (λ b. b || has x keys) (apart x y above)

pub none_below : (x y : List ℕ) (keys : List (List ℕ)) → key_cmp x y ≡ Less → RisingKeys (y ∷ keys) → has x (y ∷ keys) ≡ false
none_below x y keys below rising = by_test (has x (y ∷ keys))
    (λ there. absurd (elim ((has_in x (y ∷ keys)).1 there) [
      | inl here ↦ (let no : Equal ≡ Less = sym (tied_itself nat_list_cmp_total x) ∙ subst (λ z. key_cmp x z ≡ Less) here below in cc)
      | inr later ↦ (let no : Less ≡ Greater = sym below ∙ nat_list_cmp_total.antisymm x y ∙ ap ordering_reverse (rising.0 x later) in cc)
    ]))
    (λ no. no)

-- ---- a key put in

-- a key that is below all others comes before them
pub put_first : (x : List ℕ) (keys : List (List ℕ)) → RisingKeys (x ∷ keys) → sets.insert_key key_cmp keys x ≡ x ∷ keys
put_first x [] rising = refl
put_first x (y ∷ keys) rising = let below : key_cmp x y ≡ Less = rising.0 y (inl refl) in rw below refl

pub put_below : (x y : List ℕ) (keys : List (List ℕ)) → key_cmp x y ≡ Less → x ∷ y ∷ keys ≡ insert_key x (y ∷ keys)
put_below x y keys below = rw below refl

pub put_above : (x y : List ℕ) (keys keys' : List (List ℕ)) → key_cmp x y ≡ Greater → keys' ≡ insert_key x keys → y ∷ keys' ≡ insert_key x (y ∷ keys)
put_above x y keys keys' above put = ap (λ l. y ∷ l) put ∙ rw above refl

-- a key that is there stays alone
pub put_again : (x : List ℕ) (keys : List (List ℕ)) → RisingKeys keys → has x keys ≡ true → insert_key x keys ≡ keys
put_again x keys rising there = in_place keys rising ((has_in x keys).1 there)
  where
    in_place : (keys : List (List ℕ)) → RisingKeys keys → IsIn x keys → insert_key x keys ≡ keys
    in_place [] rising i = absurd i
    in_place (y ∷ keys) rising i = elim i [
      | inl here ↦ (let e : key_cmp x y ≡ Equal = subst (λ k. key_cmp x k ≡ Equal) (sym here) (tied_itself nat_list_cmp_total x) in rw e refl)
      | inr there ↦ (let e : key_cmp x y ≡ Greater = nat_list_cmp_total.antisymm x y ∙ ap ordering_reverse (rising.0 x there) in rw e (ap (λ l. y ∷ l) (in_place keys rising.1 there)))
    ]

-- ---- a key taken out

pub none_taken : (x : List ℕ) (keys : List (List ℕ)) → has x keys ≡ false → keys ≡ remove_key (λ y. bytes_eq y x) keys
none_taken x [] none = refl
none_taken x (y ∷ keys) none = by_test (bytes_eq y x)
    (λ here. absurd (let no : true ≡ false = sym (ap (λ b. b || has x keys) here) ∙ none in cc))
    (λ there. rw there (ap (λ l. y ∷ l) (none_taken x keys (sym (ap (λ b. b || has x keys) there) ∙ none))))

pub taken_first : (x y : List ℕ) (keys : List (List ℕ)) → key_cmp x y ≡ Equal → keys ≡ remove_key (λ z. bytes_eq z x) (y ∷ keys)
taken_first x y keys same = let here : bytes_eq y x ≡ true = subst (λ z. bytes_eq z x ≡ true) (exact_bytes x y same) (key_itself x) in rw here refl

pub taken_above : (x y : List ℕ) (keys keys' : List (List ℕ)) → key_cmp x y ≡ Greater → keys' ≡ remove_key (is_at (key_cmp x)) keys → y ∷ keys' ≡ remove_key (λ z. bytes_eq z x) (y ∷ keys)
taken_above x y keys keys' above taken = ap (λ l. y ∷ l) (taken ∙ taken_is x keys) ∙ (let e = apart x y above in rw e refl)

still_in : (p : List ℕ → Bool) (x : List ℕ) (keys : List (List ℕ)) → IsIn x (remove_key p keys) → IsIn x keys
still_in p x [] i = i
still_in p x (y ∷ keys) i = by_test (p y)
    (λ here. inr (rw here at i))
    (λ there. elim (rw there at i) [ inl first ↦ inl first | inr later ↦ inr (still_in p x keys later) ])

pub taken_rises : (p : List ℕ → Bool) (keys : List (List ℕ)) → RisingKeys keys → RisingKeys (remove_key p keys)
taken_rises p [] rising = tt
taken_rises p (y ∷ keys) rising = by_test (p y)
    (λ here. rw here rising.1)
    (λ there. rw there (λ x i. rising.0 x (still_in p x keys i), taken_rises p keys rising.1))

-- a key that is taken out is there no more, and the others are
pub taken_found : (x y : List ℕ) (keys : List (List ℕ)) → RisingKeys keys → has y (remove_key (λ z. bytes_eq z x) keys) ≡ cond (bytes_eq x y) false (has y keys)
taken_found x y [] rising = by_test (bytes_eq x y) (λ here. rw here refl) (λ there. rw there refl)
taken_found x y (z ∷ keys) rising = by_test (bytes_eq z x)
    (λ here. rw here (by_test (bytes_eq x y)
    (λ same. rw same (by_test (has y keys)
    (λ again. absurd (let below = rising.0 y ((has_in y keys).1 again) in let no : Less ≡ Equal = sym (subst (λ k. key_cmp k y ≡ Less) (same_key z x here ∙ same_key x y same) below) ∙ tied_itself nat_list_cmp_total y in cc))
    (λ none. none)))
    (λ other. rw other (ap (λ b. b || has y keys) (sym (subst (λ k. bytes_eq k y ≡ false) (sym (same_key z x here)) other))))))
    (λ there. rw there (ap (λ b. bytes_eq z y || b) (taken_found x y keys rising.1) ∙ by_test (bytes_eq x y)
    (λ same. rw same (ap (λ b. b || false) (subst (λ k. bytes_eq z k ≡ false) (same_key x y same) there)))
    (λ other. rw other refl)))

-- ---- the key in place, and the others

pub whole_is : (o : Option (List ℕ)) (x : List ℕ) (others keys : List (List ℕ)) → o ≡ Some x → keys_in o others ≡ keys → x ∷ others ≡ keys
whole_is o x others keys is view = ap (λ p. keys_in p others) (sym is) ∙ view

pub rising_is : (o : Option (List ℕ)) (x : List ℕ) (others : List (List ℕ)) → o ≡ Some x → AreInOrder o others → RisingKeys (x ∷ others)
rising_is o x others is order = subst (λ p. AreInOrder p others) is order

-- the next of the others comes into the place
pub next_least : (r : Option (List ℕ)) (others rest : List (List ℕ)) → IfSome r (λ x. others ≡ x ∷ rest) → IfNone r (rest ≡ others) → others ≡ keys_in r rest
next_least None others rest some none = sym none
next_least (Some x) others rest some none = some

-- those above a key: the one in place, where it is, and of the others
pub all_above : (x : List ℕ) (o p : Option (List ℕ)) (others part keys : List (List ℕ)) → p ≡ first_above x o → part ≡ filter (range_contains key_cmp (Excluded x) Unbounded) others → keys_in o others ≡ keys → keys_in p part ≡ filter (key_lt x) keys
all_above x o p others part keys first rest view = ap (λ q. keys_in q part) first ∙ ap (keys_in (first_above x o)) (rest ∙ above_is x others) ∙ cases o ∙ ap (filter (key_lt x)) view
  where
    cases : (o : Option (List ℕ)) → keys_in (first_above x o) (filter (key_lt x) others) ≡ filter (key_lt x) (keys_in o others)
    cases None = refl
    cases (Some y) = by_test (key_lt x y) (λ on. rw on refl) (λ off. rw off refl)

pub rising_all : (o : Option (List ℕ)) (others keys : List (List ℕ)) → AreInOrder o others → keys_in o others ≡ keys → RisingKeys keys
rising_all None others keys order view = subst RisingKeys (sym order ∙ view) tt
rising_all (Some x) others keys order view = subst RisingKeys view order

-- where a lower key came to the place, or wanted memory
pub rises_below : (r : Result Bool AllocError) (x y z : List ℕ) (keys keys' : List (List ℕ)) → OnOk r (z ∷ keys' ≡ x ∷ y ∷ keys) → OnErr r (z ∷ keys' ≡ y ∷ keys) → key_cmp x y ≡ Less → RisingKeys (y ∷ keys) → RisingKeys (z ∷ keys')
rises_below (Ok b) x y z keys keys' ok err below rising = subst RisingKeys (sym (ok ∙ put_below x y keys below)) (add_rises x (y ∷ keys) rising)
rises_below (Err e) x y z keys keys' ok err below rising = subst RisingKeys (sym err) rising

-- where a higher key came to the others, or wanted memory
pub rises_above : (r : Result Bool AllocError) (x y : List ℕ) (keys keys' : List (List ℕ)) → OnOk r (keys' ≡ insert_key x keys) → OnErr r (keys' ≡ keys) → key_cmp x y ≡ Greater → RisingKeys (y ∷ keys) → RisingKeys (y ∷ keys')
rises_above (Ok b) x y keys keys' ok err above rising = subst RisingKeys (sym (put_above x y keys keys' above ok)) (add_rises x (y ∷ keys) rising)
rises_above (Err e) x y keys keys' ok err above rising = subst RisingKeys (ap (λ l. y ∷ l) (sym err)) rising

pub in_ok : (r : Result Bool AllocError) (b c : Bool) → IfOk r (λ new. new ≡ b) → b ≡ c → IfOk r (λ new. new ≡ c)
in_ok (Ok new) b c is same = is ∙ same
in_ok (Err e) b c is same = tt

-- ---- the keys that a test keeps

some_in : (x : List ℕ) (bs : List Bool) (keys : List (List ℕ)) → IsIn x (items_where_true bs keys) → IsIn x keys
some_in x [] keys i = absurd i
some_in x (b ∷ bs) [] i = absurd i
some_in x (true ∷ bs) (y ∷ keys) i = elim i [ inl first ↦ inl first | inr later ↦ inr (some_in x bs keys later) ]
some_in x (false ∷ bs) (y ∷ keys) i = inr (some_in x bs keys i)

some_rise : (bs : List Bool) (keys : List (List ℕ)) → RisingKeys keys → RisingKeys (items_where_true bs keys)
some_rise [] keys rising = tt
some_rise (b ∷ bs) [] rising = tt
some_rise (true ∷ bs) (y ∷ keys) rising = (λ x i. rising.0 x (some_in x bs keys i), some_rise bs keys rising.1)
some_rise (false ∷ bs) (y ∷ keys) rising = some_rise bs keys rising.1

module _ {P : Type 0} (R : P → List ℕ → Bool → P → Type 0) where
  pub least_stays : (p q : P) (x : List ℕ) (keys kept : List (List ℕ)) → R p x true q → IsFiltered R q keys kept → IsFiltered R p (x ∷ keys) (x ∷ kept)
  least_stays p q x keys kept asked (bs, r, long, turns, are) = (true ∷ bs, r, ap suc long, (q, asked, turns), ap (λ l. x ∷ l) are)

  pub least_goes : (p q : P) (x : List ℕ) (keys kept : List (List ℕ)) → R p x false q → IsFiltered R q keys kept → IsFiltered R p (x ∷ keys) kept
  least_goes p q x keys kept asked (bs, r, long, turns, are) = (false ∷ bs, r, ap suc long, (q, asked, turns), are)

  pub kept_rise : (p : P) (keys kept : List (List ℕ)) → RisingKeys keys → IsFiltered R p keys kept → RisingKeys kept
  kept_rise p keys kept rising (bs, r, long, turns, are) = subst RisingKeys (sym are) (some_rise bs keys rising)

-- the next of the others comes into the place, where there is one
pub next_in_order : (r : Option (List ℕ)) (others rest : List (List ℕ)) → RisingKeys others → (0 < length others → IsSome r) → IfSome r (λ x. others ≡ x ∷ rest) → IfNone r (rest ≡ others) → AreInOrder r rest
next_in_order None [] rest rising found some none = none
next_in_order None (y ∷ others) rest rising found some none = absurd (let no : false ≡ true = found (omega arith) in cc)
next_in_order (Some x) others rest rising found some none = subst RisingKeys some rising
