-- The numbers in answers count what the history has, so none of them is above the number of its events.
use Rattle.std.proofs.Common.{ℕ, suc, ◌≤◌, ◌==◌, ◌&&◌, Bool, true, false, not, cond, List, [], ◌∷◌, ◌++◌, length, map, Option, Some, None, arith}
use Rattle.std.specs.Prelude.{filter, is_some, max, min}
use Rattle.std.specs.declared.cmp.Ordering.{Ordering}
use Rattle.std.specs.declared.cmp.Ordering.TheVariants.{Less, Equal, Greater}
use Rattle.std.proofs.lemmas.List.Sums.{length-filter, count_by-le-length}
use Rattle.timestamps.specs.Bytes.{key_cmp}
use Rattle.pipes.proofs.Common.{Begins, Cancels, Effect, LiveFeed, Opens, Protection, Writes, begun_of, closed_of, collection_horizon, floor_of, horizon_of, insert_key, insert_where, is_undecided, least_low, live_feeds, pairs_of, protections_of, undecided_timestamps, with_value, write_count, write_of, written_keys}

-- a filter leaves no more than there was
pub filter_few : {A : Type 0} (q : A → Bool) (xs : List A) → length (filter q xs) ≤ length xs
filter_few q xs = omega (arith, length-filter q xs, count_by-le-length q xs)

-- ---- transactions

begun_few : (p : List Effect) → length (begun_of p) ≤ length p
begun_few [] = omega arith
begun_few (Begins t seat ∷ p) = omega (arith, begun_few p)
begun_few (_ ∷ p) = omega (arith, begun_few p)

-- no more are undecided than began
pub undecided_few : (p : List Effect) → length (undecided_timestamps p) ≤ length p
undecided_few p = omega (arith, filter_few (is_undecided p) (begun_of p), begun_few p)

-- a transaction wrote no more keys than there were writes
pub write_count_few : (p : List Effect) (t : ℕ) → write_count p t ≤ length p
write_count_few [] t = omega arith
write_count_few (Writes k x a ∷ p) t = step ((k == t) && not (is_some (write_of p t x))) (write_count_few p t)
  where
    step : {n m : ℕ} (b : Bool) → n ≤ m → cond b (suc n) n ≤ suc m
    step true few = omega arith
    step false few = omega arith
write_count_few (_ ∷ p) t = omega (arith, write_count_few p t)

-- ---- keys

insert_few : (x : List ℕ) (ys : List (List ℕ)) → length (insert_key x ys) ≤ suc (length ys)
insert_few x [] = omega arith
insert_few x (y ∷ ys) = by_order (key_cmp x y) (insert_few x ys)
  where
    by_order : (o : Ordering) → length (insert_key x ys) ≤ suc (length ys) → length (insert_where o x y ys (insert_key x ys)) ≤ suc (suc (length ys))
    by_order Less few = omega arith
    by_order Equal few = omega arith
    by_order Greater few = omega arith

pub keys_few : (p : List Effect) → length (written_keys p) ≤ length p
keys_few [] = omega arith
keys_few (Writes k x a ∷ p) = omega (arith, insert_few x (written_keys p), keys_few p)
keys_few (_ ∷ p) = omega (arith, keys_few p)

-- a row for each key at most
pub pairs_few : (m : List ℕ → Option (List ℕ)) (ys : List (List ℕ)) → length (pairs_of m ys) ≤ length ys
pairs_few m [] = omega arith
pairs_few m (y ∷ ys) = by_value (m y) (pairs_few m ys)
  where
    by_value : (o : Option (List ℕ)) → length (pairs_of m ys) ≤ length ys → length (with_value y o (pairs_of m ys)) ≤ suc (length ys)
    by_value None few = omega arith
    by_value (Some v) few = omega arith

-- ---- feeds, and the horizon

pub live_few : (p : List Effect) → length (live_feeds p) ≤ length p
live_few [] = omega arith
live_few (Opens f seat kind span cursor ∷ p) = omega (arith, live_few p)
live_few (Cancels f ∷ p) = omega (arith, filter_few (λ (n : LiveFeed). not (n.number == f)) (live_feeds p), live_few p)
live_few (_ ∷ p) = omega (arith, live_few p)

-- a collection takes the horizon no further than closed
pub collection_low : (p : List Effect) (to : ℕ) → collection_horizon p to ≤ max (horizon_of p) (closed_of p)
collection_low p to = omega (arith, least_low (min to (closed_of p)) (map (λ (n : Protection). n.at) (protections_of p) ++ map (floor_of p) (live_feeds p)))
