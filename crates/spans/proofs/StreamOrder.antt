-- A stream rises strictly by timestamp and then by key.
use Rattle.spans.proofs.Common.{Row, and_from, and_parts, common_steps, eq-eqb, eqb-true, false_from_ne_true, filter-append, list_any, lt-ltb, ltb-true, or_cases, or_left, or_right}
use Rattle.std.proofs.Common.{rules}
use Rattle.std.proofs.Common.{◌≡◌, ℕ, zero, suc, ◌<◌, ◌≤◌, ◌⊎◌, Bool, true, false, not, cond, ◌&&◌, List, [], ◌∷◌, ◌++◌, map, Option, Some, None, refl, ap, inl, inr, arith}
use Rattle.std.specs.Prelude.{◌↔◌, is_some, nat_lt, filter}
use Rattle.spans.specs.declared.span.Span.{Span}
use Rattle.spans.specs.Keys.{in_span}
use Rattle.spans.specs.Effects.{After, Effect}
use Rattle.spans.specs.Transactions.{is_committed}
use Rattle.spans.specs.Versions.{write_of, write_set}
use Rattle.spans.specs.Streams.{row_lt, written_value, rows_of, stream_of}
use Rattle.spans.specs.Feeds.{same_version}
use Rattle.spans.proofs.Steps.{by_test, same_key, key_itself}
use Rattle.spans.proofs.Keyed.{IsIn, RisingKeys, key_clash, filter_in, filter_rises}
use Rattle.spans.proofs.WriteSets.{has_in, has_written, write_set_rises}
use Rattle.spans.proofs.KeyOrder.{less_is}

abbrev pub IsRowIn : Row → List Row → Type 0
IsRowIn r [] = ⊥
IsRowIn r (s ∷ rows) = (s ≡ r) ⊎ IsRowIn r rows

abbrev pub RisingRows : List Row → Type 0
RisingRows [] = Unit {0}
RisingRows (r ∷ rows) = ((s : Row) → IsRowIn s rows → row_lt r s ≡ true) × RisingRows rows

-- no two rows are each before the other
pub rows_clash : (r s : Row) → row_lt r s ≡ true → row_lt s r ≡ true → ⊥
rows_clash r s e h = grind (arith, common_steps, or_cases, ltb-true, eqb-true, and_parts, key_clash, less_is)

-- a row before another isn't the same version
pub before_differs : (r s : Row) → row_lt s r ≡ true → same_version r s ≡ false
before_differs r s before = search (false_from_ne_true, and_parts, eqb-true, same_key, or_cases, ltb-true, less_is, key_clash, rules, arith)

pub in_append : (r : Row) (xs ys : List Row) → IsRowIn r (xs ++ ys) ↔ (IsRowIn r xs ⊎ IsRowIn r ys)
in_append r [] ys = (λ i. inr i, λ i. elim i [ inl l ↦ absurd l | inr k ↦ k ])
in_append r (x ∷ xs) ys = grind (arith, common_steps, in_append r xs ys)

pub rises_append : (xs ys : List Row) → RisingRows xs → RisingRows ys → ((r s : Row) → IsRowIn r xs → IsRowIn s ys → row_lt r s ≡ true) → RisingRows (xs ++ ys)
rises_append [] ys h k before = k
rises_append (x ∷ xs) ys h k before = grind (arith, common_steps, in_append, rises_append xs ys h.1 k)

-- what rises rises in both parts, and the first is before the second
pub rises_parts : (xs ys : List Row) → RisingRows (xs ++ ys) → RisingRows xs × RisingRows ys × ((r s : Row) → IsRowIn r xs → IsRowIn s ys → row_lt r s ≡ true)
rises_parts [] ys h = (tt, h, λ r s i j. absurd i)
rises_parts (x ∷ xs) ys h = let more = rises_parts xs ys h.1 in let at : (s : Row)
    → IsRowIn s (xs ++ ys) ↔ (IsRowIn s xs ⊎ IsRowIn s ys) = λ s. in_append s xs ys in grind (arith, common_steps, at)

abbrev row : List Effect → ℕ → List ℕ → Row
row p t x = record { ts = t; key = x; after = written_value (write_of p t x) }

in_rows : (p : List Effect) (t : ℕ) (r : Row) (keys : List (List ℕ)) → IsRowIn r (map (row p t) keys) ↔ (IsIn r.key keys × (row p t r.key ≡ r))
in_rows p t r [] = (λ i. absurd i, λ i. absurd i.0)
in_rows p t r (x ∷ xs) = grind (arith, common_steps, in_rows p t r xs)

some_value : (o : Option After) (a : After) → is_some o ≡ true → written_value o ≡ a → o ≡ Some a
some_value None a e h = cc
some_value (Some b) a e h = ap Some h

rows_rise : (p : List Effect) (t : ℕ) (keys : List (List ℕ)) → RisingKeys keys → RisingRows (map (row p t) keys)
rows_rise p t [] h = tt
rows_rise p t (x ∷ xs) h = grind (arith, common_steps, in_rows, or_right, and_from, eq-eqb, rows_rise p t xs h.1)

-- a row of the stream
pub record IsStreamed (p : List Effect) (span : Span) (c n : ℕ) (r : Row) : Type 0 where
  pub above : c < r.ts
  pub low : r.ts ≤ n
  pub done : is_committed p r.ts ≡ true
  pub inside : in_span span r.key ≡ true
  pub wrote : write_of p r.ts r.key ≡ Some r.after

pub in_txn_rows : (p : List Effect) (span : Span) (t : ℕ) (r : Row) → IsRowIn r (rows_of p span t) ↔ ((r.ts ≡ t) × (in_span span r.key ≡ true) × (write_of p t r.key ≡ Some r.after))
in_txn_rows p span t r =
    let m = in_rows p t r (filter (in_span span) (write_set p t)) in let f = filter_in (in_span span) r.key (write_set p t) in
    let w = has_written p t r.key in let h = has_in r.key (write_set p t) in
    grind (arith, common_steps, some_value)

pub in_stream : (p : List Effect) (span : Span) (c n : ℕ) (r : Row) → IsRowIn r (stream_of p span c n) ↔ IsStreamed p span c n r
in_stream p span c zero r = (λ i. absurd i, λ s. absurd (omega (arith, s.above, s.low)))
in_stream p span c (suc t) r = grind (arith, common_steps, in_append, in_txn_rows, by_test, and_parts, ltb-true, eqb-true, and_from, lt-ltb, in_stream p span c t r)

pub stream_rises : (p : List Effect) (span : Span) (c n : ℕ) → RisingRows (stream_of p span c n)
stream_rises p span c zero = tt
stream_rises p span c (suc t) =
    let now = rows_rise p (suc t) (filter (in_span span) (write_set p (suc t))) (filter_rises (in_span span) (write_set p (suc t)) (write_set_rises p (suc t))) in
    rises_append (stream_of p span c t) (cond (nat_lt c (suc t) && is_committed p (suc t)) (rows_of p span (suc t)) []) (stream_rises p span c t) (grind (arith, common_steps))
    (λ r s i j. let l = ((in_stream p span c t r).0 i).low in let q = in_txn_rows p span (suc t) s in grind (arith, common_steps, or_left, lt-ltb))

-- the row was told
abbrev pub is_told : List Row → Row → Bool
is_told rows r = list_any (same_version r) rows

told_in : (r : Row) (rows : List Row) → IsRowIn r rows → is_told rows r ≡ true
told_in r [] i = absurd i
told_in r (s ∷ rows) i = grind (arith, common_steps, or_left, and_from, eq-eqb, key_itself, or_right, told_in r rows)

not_told : (r : Row) (rows : List Row) → ((s : Row) → IsRowIn s rows → row_lt s r ≡ true) → is_told rows r ≡ false
not_told r [] before = refl
not_told r (s ∷ rows) before = rw (before_differs r s (before s (inl refl)), not_told r rows (λ q i. before q (inr i))) refl

all_told : (rows told : List Row) → ((r : Row) → IsRowIn r rows → IsRowIn r told) → filter (λ r. not (is_told told r)) rows ≡ []
all_told [] told among = refl
all_told (r ∷ rows) told among = rw (told_in r told (among r (inl refl))) (all_told rows told (λ s i. among s (inr i)))

none_told : (rows told : List Row) → ((s r : Row) → IsRowIn s told → IsRowIn r rows → row_lt s r ≡ true) → filter (λ r. not (is_told told r)) rows ≡ rows
none_told [] told before = refl
none_told (r ∷ rows) told before = rw (not_told r told (λ s i. before s r i (inl refl))) (ap (λ l. r ∷ l) (none_told rows told (λ s q i j. before s q i (inr j))))

-- of rising rows, without those that were told and stand first, the rest is left
pub left_untold : (told rest : List Row) → RisingRows (told ++ rest) → filter (λ r. not (is_told told r)) (told ++ rest) ≡ rest
left_untold told rest rises = grind (arith, common_steps, filter-append, all_told, none_told, rises_parts)
