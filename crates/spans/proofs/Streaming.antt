-- What a stream goes on with, and what of it stays.
use Rattle.spans.proofs.Common.{Row, append-nil, common_steps, eqb-true, nat_tests}
use Rattle.std.proofs.Common.{Bool, true, ◌≡◌, ℕ, zero, suc, ◌<◌, ◌≤◌, ◌==◌, false, cond, ◌&&◌, List, [], ◌∷◌, ◌++◌, map, refl, sym, ◌∙◌, ap, arith, append_assoc}
use Rattle.std.specs.Prelude.{nat_lt, filter}
use Rattle.spans.specs.declared.span.Span.{Span}
use Rattle.spans.specs.Effects.{Effect}
use Rattle.spans.specs.Transactions.{closed_of, is_committed}
use Rattle.spans.specs.Versions.{write_of, write_set}
use Rattle.spans.specs.Keys.{in_span}
use Rattle.spans.specs.Streams.{rows_of, written_value, stream_of}
use Rattle.spans.proofs.Steps.{by_test}
use Rattle.spans.proofs.Copies.{Allowed}

-- what is closed stays, in the stream too
pub rows_stay : (p : List Effect) (d : Effect) → Allowed p d → (span : Span) (c i : ℕ) → i ≤ closed_of p
    → cond (nat_lt c i && is_committed (d ∷ p) i) (rows_of (d ∷ p) span i) [] ≡ cond (nat_lt c i && is_committed p i) (rows_of p span i) []
rows_stay p (_) allowed span c i low = grind (arith, common_steps)

pub stream_stays : (p : List Effect) (d : Effect) → Allowed p d → (span : Span) (c n : ℕ) → n ≤ closed_of p → stream_of (d ∷ p) span c n ≡ stream_of p span c n
stream_stays p d allowed span c zero low = refl
stream_stays p d allowed span c (suc t) low = rw (stream_stays p d allowed span c t (omega arith), rows_stay p d allowed span c (suc t) low) refl

-- nothing streams at or below the cursor
pub stream_none : (p : List Effect) (span : Span) (c n : ℕ) → n ≤ c → stream_of p span c n ≡ []
stream_none p span c zero low = refl
stream_none p span c (suc n) low = let not_yet : nat_lt c (suc n) ≡ false = grind (arith, nat_tests) in rw (stream_none p span c n (omega arith), not_yet) refl

-- every row is above t
abbrev pub RowsAbove : ℕ → List Row → Type 0
RowsAbove t [] = Unit {0}
RowsAbove t (r ∷ rs) = (t < r.ts) × RowsAbove t rs

-- rows above t joined
pub above_join : (t : ℕ) (rs ss : List Row) → RowsAbove t rs → RowsAbove t ss → RowsAbove t (rs ++ ss)
above_join t [] ss h k = k
above_join t (r ∷ rs) ss h k = (h.0, above_join t rs ss h.1 k)

-- the rows that a stream goes on with are above where it stood
pub stream_above : (p : List Effect) (span : Span) (c m n : ℕ) → m ≤ n → (rest : List Row) × (stream_of p span c n ≡ stream_of p span c m ++ rest) × RowsAbove m rest
stream_above p span c m zero low = let e : m ≡ 0 = omega arith in ([], rw e refl, tt)
stream_above p span c m (suc n) low = by_test (m == suc n) (λ same. ([], rw (eqb-true m (suc n) same) (sym (append-nil _)), tt)) (λ other.
    let before = stream_above p span c m n (grind (arith, nat_tests)) in
    let last : List Row = cond (nat_lt c (suc n) && is_committed p (suc n)) (rows_of p span (suc n)) [] in
    (before.0 ++ last, ap (λ l. l ++ last) before.1 ∙ append_assoc (stream_of p span c m) before.0 last, above_join m before.0 last before.2 (above_all (nat_lt c (suc n) && is_committed p (suc n)) (filter (in_span span) (write_set p (suc n))) (grind (arith, nat_tests)))))
  where
    above_all : (b : Bool) (keys : List (List ℕ)) → m < suc n
        → RowsAbove m (cond b (map (λ x. record { ts = suc n; key = x; after = written_value (write_of p (suc n) x) }) keys) [])
    above_all false keys above = tt
    above_all true [] above = tt
    above_all true (x ∷ xs) above = (above, above_all true xs above)
