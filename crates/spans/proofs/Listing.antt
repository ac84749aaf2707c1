-- What a feed's list is: the map at the cursor first, where the feed is initial, and then the stream.
use Rattle.spans.proofs.Common.{nat_tests, Row, and_from, common_steps, eq-eqb, lt-ltb, or_left, or_right}
use Rattle.std.proofs.Common.{◌≡◌, ℕ, zero, suc, ◌<◌, ◌≤◌, ◌⊎◌, true, false, List, [], ◌∷◌, ◌++◌, map, Some, None, refl, sym, ◌∙◌, ap, inl, inr, arith, append_assoc}
use Rattle.std.specs.Prelude.{◌↔◌, is_some}
use Rattle.spans.specs.declared.span.Span.{Span}
use Rattle.spans.specs.Keys.{in_span, pairs_of, IsPairIn, KeysRise}
use Rattle.spans.specs.declared.kind.Kind.{Kind}
use Rattle.spans.specs.Effects.{After, Effect}
use Rattle.spans.specs.Transactions.{closed_of}
use Rattle.spans.specs.Versions.{written_keys}
use Rattle.spans.specs.Serial.{map_at, span_part}
use Rattle.spans.specs.Streams.{stream_of, pair_row, snapshot_rows}
use Rattle.spans.specs.Feeds.{Feed, first_rows, list_of, start_at, start_of}
use Rattle.spans.proofs.Steps.{by_test, map_at_is}
use Rattle.spans.proofs.Copies.{Allowed}
use Rattle.spans.proofs.Keyed.{IsIn, is_pair_of, pairs_rise, pairs_only, stays_in}
use Rattle.spans.proofs.Legal.{keys_rise, settled_in}
use Rattle.spans.proofs.StreamOrder.{IsRowIn, RisingRows, in_append, rises_append, IsStreamed, in_stream, stream_rises}
use Rattle.spans.proofs.Streaming.{RowsAbove, stream_stays, stream_above}

-- what is closed stays, in the map too
pub map_stays : (p : List Effect) (d : Effect) → Allowed p d → (t : ℕ) → t ≤ closed_of p → map_at (d ∷ p) t ≡ map_at p t
map_stays p d allowed zero low = refl
map_stays p d allowed (suc t) low = grind (arith, common_steps, map_stays p d allowed t)

-- a key with a value in a part of the map was written
pub part_in : (p : List Effect) (span : Span) (t : ℕ) (x v : List ℕ) → span_part span (map_at p t) x ≡ Some v → IsIn x (written_keys p)
part_in p span t x v is = by_test (in_span span x)
    (λ inside. settled_in p x t v (sym (map_at_is p t x) ∙ rw inside at is))
    (λ out. absurd (let no' : None ≡ Some v = rw out at is in cc))

keys_grow : (p : List Effect) (d : Effect) (x : List ℕ) → IsIn x (written_keys p) → IsIn x (written_keys (d ∷ p))
keys_grow p (_) x i = grind (arith, common_steps, stays_in)

-- so the map's rows stay
snapshot_stays : (p : List Effect) (d : Effect) → Allowed p d → (span : Span) (t : ℕ) → t ≤ closed_of p → snapshot_rows (d ∷ p) span t ≡ snapshot_rows p span t
snapshot_stays p d allowed span t low =
    ap (λ m. map (pair_row t) (pairs_of (span_part span m) (written_keys (d ∷ p)))) (map_stays p d allowed t low)
    ∙ ap (map (pair_row t)) (pairs_only (span_part span (map_at p t)) (written_keys (d ∷ p)) (written_keys p) (keys_rise (d ∷ p)) (keys_rise p)
    (λ x v is. let i = part_in p span t x v is in (keys_grow p d x i, i)))

-- a row of the map at t
pub record IsScanned (p : List Effect) (span : Span) (t : ℕ) (r : Row) : Type 0 where
  pub at : r.ts ≡ t
  pub some : 0 < t
  pub inside : in_span span r.key ≡ true
  pub has : map_at p t r.key ≡ r.after
  pub value : is_some r.after ≡ true

-- rows of pairs
in_pairs : (t : ℕ) (r : Row) (pairs : List (List ℕ × List ℕ)) → IsRowIn r (map (pair_row t) pairs) ↔ ((r.ts ≡ t) × (v : List ℕ) × (r.after ≡ Some v) × IsPairIn pairs r.key v)
in_pairs t r [] = (λ i. absurd i, λ i. absurd i.3)
in_pairs t r (pair ∷ pairs) = let more = in_pairs t r pairs in (
  λ i. elim i [
    | inl here ↦ (sym (ap (λ (q : Row). q.ts) here), pair.1, sym (ap (λ (q : Row). q.after) here), inl (ap (λ (q : Row). q.key) here, refl))
    | inr there ↦ (let m = more.0 there in (m.0, m.1, m.2, inr m.3))
  ],
  λ i. grind (arith, common_steps),
)

-- which rows the map's are
in_snapshot : (p : List Effect) (span : Span) (t : ℕ) (r : Row) → IsRowIn r (snapshot_rows p span t) ↔ IsScanned p span t r
in_snapshot p span t r = let rows = in_pairs t r (pairs_of (span_part span (map_at p t)) (written_keys p)) in (
  λ i. let m = rows.0 i in let h = (is_pair_of (span_part span (map_at p t)) (written_keys p) r.key m.1).0 m.3 in
      grind (arith, common_steps, positive),
  λ s. let v = some_of r.after s.value in let h = (is_pair_of (span_part span (map_at p t)) (written_keys p) r.key v.0).1 in
      rows.1 (s.at, v.0, v.1, grind (arith, common_steps, h, part_in)),
)
  where
    positive : (t : ℕ) (v : List ℕ) → map_at p t r.key ≡ Some v → 0 < t
    positive zero v e = cc
    positive (suc t) v e = omega arith

    some_of : (a : After) → is_some a ≡ true → (v : List ℕ) × (a ≡ Some v)
    some_of None is = cc
    some_of (Some v) is = (v, refl)

-- rows of pairs with rising keys rise
pairs_rows_rise : (t : ℕ) (pairs : List (List ℕ × List ℕ)) → KeysRise pairs → RisingRows (map (pair_row t) pairs)
pairs_rows_rise t [] h = tt
pairs_rows_rise t (pair ∷ pairs) h = (
  λ s i. let m = (in_pairs t s pairs).0 i in let less = h.0 s.key m.1 m.3 in
      grind (arith, common_steps, nat_tests, or_right, and_from, eq-eqb),
  pairs_rows_rise t pairs h.1,
)

-- what a feed tells first stays
first_stays : (kind : Kind) (p : List Effect) (d : Effect) → Allowed p d → (span : Span) (c : ℕ) → (kind.initial ≡ true → c ≤ closed_of p) → first_rows kind (d ∷ p) span c ≡ first_rows kind p span c
first_stays kind p d allowed span c settled = grind (arith, common_steps, by_test, snapshot_stays)

-- it rises
first_rises : (kind : Kind) (p : List Effect) (span : Span) (c : ℕ) → RisingRows (first_rows kind p span c)
first_rises kind p span c = grind (arith, common_steps, by_test, pairs_rows_rise, pairs_rise, keys_rise)

-- which rows it is
pub in_first : (kind : Kind) (p : List Effect) (span : Span) (c : ℕ) (r : Row) → IsRowIn r (first_rows kind p span c) ↔ ((kind.initial ≡ true) × IsScanned p span c r)
in_first kind p span c r = by_test kind.initial
    (λ is. let s = in_snapshot p span c r in (λ i. (is, s.0 (rw is at i)), λ i. rw is (s.1 i.1)))
    (λ isnt. (λ i. absurd (rw isnt at i), λ i. absurd (let no' : false ≡ true = sym isnt ∙ i.0 in cc)))

no_pairs : (p : List Effect) (span : Span) (keys : List (List ℕ)) → pairs_of (span_part span (map_at p 0)) keys ≡ []
no_pairs p span [] = refl
no_pairs p span (x ∷ xs) = grind (arith, common_steps, no_pairs p span xs)

-- nothing is there at 0
pub first_none : (kind : Kind) (p : List Effect) (span : Span) (c : ℕ) → (kind.initial ≡ true → c ≡ 0) → first_rows kind p span c ≡ []
first_none kind p span c zeroth = by_test kind.initial (λ is. rw is (rw (zeroth is) (ap (map (pair_row 0)) (no_pairs p span (written_keys p))))) (λ isnt. rw isnt refl)

-- the start is at or below the cursor
pub start_low : (kind : Kind) (c : ℕ) → start_at kind c ≤ c
start_low kind c = by_test kind.initial (λ is. rw is (omega arith)) (λ isnt. rw isnt (omega arith))

-- what is above it is at or above the cursor
pub start_next : (kind : Kind) (c n : ℕ) → start_at kind c < n → c ≤ n
start_next kind c n = grind (arith, common_steps)

-- an initial feed's start is below its cursor
pub start_first : (kind : Kind) (c : ℕ) → kind.initial ≡ true → 0 < c → start_at kind c < c
start_first kind c is some = rw is (omega arith)

-- a row of the list: of the map at the cursor, or of the stream
abbrev pub IsListed : List Effect → Feed → ℕ → Row → Type 0
IsListed p feed n r = ((feed.kind.initial ≡ true) × IsScanned p feed.span feed.cursor r) ⊎ IsStreamed p feed.span feed.cursor n r

pub in_list : (p : List Effect) (feed : Feed) (n : ℕ) (r : Row) → IsRowIn r (list_of p feed n) ↔ IsListed p feed n r
in_list p feed n r = grind (arith, common_steps, in_append, in_first, in_stream)

-- it lies in the span
pub listed_inside : (p : List Effect) (feed : Feed) (n : ℕ) (r : Row) → IsListed p feed n r → in_span feed.span r.key ≡ true
listed_inside p feed n r i = elim i [ inl f ↦ f.1.inside | inr s ↦ s.inside ]

-- it is above the start
pub listed_above : (p : List Effect) (feed : Feed) (n : ℕ) (r : Row) → IsListed p feed n r → start_of feed < r.ts
listed_above p feed n r i = grind (arith, common_steps)

-- and not above n, where that is above the start
pub listed_low : (p : List Effect) (feed : Feed) (n : ℕ) (r : Row) → start_of feed < n → IsListed p feed n r → r.ts ≤ n
listed_low p feed n r above i = grind (arith, common_steps)

-- a list rises
pub list_rises : (p : List Effect) (feed : Feed) (n : ℕ) → RisingRows (list_of p feed n)
list_rises p feed n = rises_append (first_rows feed.kind p feed.span feed.cursor) (stream_of p feed.span feed.cursor n) (first_rises feed.kind p feed.span feed.cursor) (stream_rises p feed.span feed.cursor n)
    (λ r s i j. let f = (in_first feed.kind p feed.span feed.cursor r).0 i in let l = (in_stream p feed.span feed.cursor n s).0 j in
    or_left _ _ (lt-ltb r.ts s.ts (omega (arith, f.1.at, l.above))))

-- the cursor of an initial feed is closed
abbrev pub IsSettled : List Effect → Feed → Type 0
IsSettled p feed = feed.kind.initial ≡ true → feed.cursor ≤ closed_of p

-- what is closed stays, in the list too
pub list_stays : (p : List Effect) (d : Effect) → Allowed p d → (feed : Feed) → IsSettled p feed → (n : ℕ) → n ≤ closed_of p → list_of (d ∷ p) feed n ≡ list_of p feed n
list_stays p d allowed feed settled n low = grind (arith, common_steps, first_stays, stream_stays)

-- the rows that a list goes on with are above where it stood
pub list_above : (p : List Effect) (feed : Feed) (m n : ℕ) → m ≤ n → (rest : List Row) × (list_of p feed n ≡ list_of p feed m ++ rest) × RowsAbove m rest
list_above p feed m n low = let more = stream_above p feed.span feed.cursor m n low in
    (more.0, ap (λ l. first_rows feed.kind p feed.span feed.cursor ++ l) more.1 ∙ sym (append_assoc (first_rows feed.kind p feed.span feed.cursor) (stream_of p feed.span feed.cursor m) more.0), more.2)
