-- What is found by key, where records lie by number: after one changed, one came and one went.
use Rattle.version_chain.proofs.Common.{IsNumberedAt, IsOwn, Numbered, SpanMarks, both_ways, by_test, common_steps, get_or-map, is_kept, key_itself, latest_in, length-map, length-set, map-set, number_in, readers_of, same_key}
use Rattle.std.proofs.Common.{rules, ◌≡◌, ℕ, ◌<◌, ◌==◌, true, false, cond, List, [], ◌∷◌, length, Some, None, refl, sym, ◌∙◌, ap, arith, eq-eqb}
use Rattle.std.specs.Prelude.{◌≢◌, bytes_eq, slice_index_or, slice_set}
use Rattle.version_chain.specs.declared.record.Record.{Record}
use Rattle.version_chain.specs.Stores.{at_key, chain_of, marked_in}
use Rattle.version_chain.specs.ByNumber.{AreLow, IsPlaced, IsPutAt, at_number, chains_in, entries_of, readers_in, stored}

-- ---- what is found

pub found_is : {A : Type 0} (ns : Numbered) (xs : List (List A)) (none : List A) (x : List ℕ) → at_key (entries_of ns xs) none x ≡ at_number xs none (number_in ns x)
found_is [] xs none x = refl
found_is (e ∷ ns) xs none x = grind (arith, common_steps, found_is ns xs none x)

-- ---- something is put at a number

pub set_at : {A : Type 0} (xs : List (List A)) (n : ℕ) (v : List A) → n < length xs → IsPutAt xs (slice_set xs n v) n v
set_at xs n v low m = grind (arith, common_steps)

pub at_it : {A : Type 0} (xs ys : List (List A)) (n : ℕ) (v : List A) → IsPutAt xs ys n v → slice_index_or ys n [] ≡ v
at_it xs ys n v put = let same : (n == n) ≡ true = eq-eqb n n refl in put n ∙ rw same refl

pub at_other : {A : Type 0} (xs ys : List (List A)) (n m : ℕ) (v : List A) → IsPutAt xs ys n v → m ≢ n → slice_index_or ys m [] ≡ slice_index_or xs m []
at_other xs ys n m v put differs = grind (arith, common_steps)

-- a key that has a number keeps it
pub numbered_still : (ns : Numbered) (x : List ℕ) (n : ℕ) → number_in ns x ≡ Some n → IsNumberedAt ns ns x (Some n)
numbered_still ns x n is y = search (by_test, same_key, rules, arith)

-- the numbers of two keys differ
other_number : (ns : Numbered) (x y : List ℕ) (n m : ℕ) → IsOwn ns x n → bytes_eq x y ≡ false → number_in ns y ≡ Some m → m ≢ n
other_number ns x y n m own there is e = both_ways _ there (ap (bytes_eq x) (own y (is ∙ ap Some e)) ∙ key_itself x)

module _ {A : Type 0} (ns ms : Numbered) (xs ys : List (List A)) (x : List ℕ) (n : ℕ) (v : List A) where
  -- what x has changes alone, where it keeps or gets the number n
  pub put_by_key : IsNumberedAt ns ms x (Some n) → IsOwn ms x n → IsPutAt xs ys n v → (y : List ℕ) (none : List A) → at_number ys none (number_in ms y) ≡ cond (bytes_eq x y) v (at_number xs none (number_in ns y))
  put_by_key numbered own put y none =
      grind (arith, common_steps, numbered y, other_number ms x y n, at_it xs ys n v put, at_other xs ys n, key_itself x)

  -- x has nothing any more, where its number went
  pub gone_by_key : IsNumberedAt ns ms x None → IsOwn ns x n → IsPutAt xs ys n v → (y : List ℕ) (none : List A) → at_number ys none (number_in ms y) ≡ cond (bytes_eq x y) none (at_number xs none (number_in ns y))
  gone_by_key numbered own put y none = grind (arith, common_steps, numbered y, other_number ns x y n, at_other xs ys n)

-- ---- of records

pub chain_at : (rs : List Record) (n : ℕ) (r : Record) → n < length rs → r ≡ slice_index_or rs n r → slice_index_or (chains_in rs) n [] ≡ r.chain
chain_at rs n r low is = get_or-map (λ (q : Record). q.chain) rs n r [] low ∙ ap (λ (q : Record). q.chain) (sym is)

pub readers_at : (rs : List Record) (n : ℕ) (r : Record) → n < length rs → r ≡ slice_index_or rs n r → slice_index_or (readers_in rs) n [] ≡ readers_of r.readers
readers_at rs n r low is = get_or-map (λ (q : Record). readers_of q.readers) rs n r [] low ∙ ap (λ (q : Record). readers_of q.readers) (sym is)

-- a record takes the place of one
pub placed : (rs : List Record) (n : ℕ) (r : Record) → n < length rs → IsPlaced rs (slice_set rs n r) n r
placed rs n r low = grind (arith, common_steps, length-set, length-map, map-set, set_at)

pub low_less : (ns ms : Numbered) (x : List ℕ) (most : ℕ) → AreLow ns most → IsNumberedAt ns ms x None → AreLow ms most
low_less ns ms x most low numbered y m is = grind (arith, common_steps)

-- ---- of what is stored

pub chain_is : (ns : Numbered) (rs : List Record) (spans : SpanMarks) (f : ℕ) (x : List ℕ) → chain_of (stored ns rs spans f) x ≡ at_number (chains_in rs) [] (number_in ns x)
chain_is ns rs spans f x = found_is ns (chains_in rs) [] x

pub marked_is : (ns : Numbered) (rs : List Record) (spans : SpanMarks) (f : ℕ) (x : List ℕ) (j : ℕ) → marked_in (stored ns rs spans f) x j ≡ is_kept f (at_number (readers_in rs) (latest_in spans x ∷ []) (number_in ns x)) j
marked_is ns rs spans f x j = ap (λ qs. is_kept f qs j) (found_is ns (readers_in rs) (latest_in spans x ∷ []) x)
