-- How far a consumer is complete, and where it has the map.
use Rattle.spans.proofs.Common.{not-true, Row, and_parts, append-nil, common_steps, filter-append, filter_map-append, le-leb, lt-ltb, ltb-true, nat_tests}
use Rattle.std.proofs.Common.{rules}
use Rattle.std.proofs.Common.{◌≡◌, ℕ, ◌-◌, ◌<◌, ◌≤◌, ◌⊎◌, true, false, List, [], ◌∷◌, ◌++◌, Option, Some, None, refl, sym, ◌∙◌, ap, subst, inl, inr, arith, append_assoc}
use Rattle.std.specs.Prelude.{nat_lt, nat_le, max, filter}
use Rattle.spans.specs.declared.calls.messages.Message.{Message}
use Rattle.spans.specs.declared.calls.messages.Message.TheVariants as messages
use Rattle.spans.specs.Effects.{Effect}
use Rattle.spans.specs.Transactions.{closed_of}
use Rattle.spans.specs.Serial.{map_at, span_part}
use Rattle.spans.specs.Feeds.{Feed, told_to, row_in, rows_in, list_of, start_of}
use Rattle.spans.specs.Collection.{floor_after}
use Rattle.spans.specs.FeedRight.{DividesList, FeedIsRight}
use Rattle.spans.specs.Consumer.{last_row}
use Rattle.spans.specs.Completeness.{complete_after, seen_after, is_row_of, is_new}
use Rattle.spans.proofs.Steps.{by_test}
use Rattle.spans.proofs.StreamOrder.{IsRowIn, RisingRows, rises_parts, in_append}
use Rattle.spans.proofs.RowOrder.{row_order}
use Rattle.spans.proofs.Streaming.{RowsAbove}
use Rattle.spans.proofs.Listing.{IsListed, in_list, list_rises, list_above, listed_above}
use Rattle.spans.proofs.Viewing.{by_rows, view_rows, list_views, divides_at}
use Rattle.spans.proofs.Floors.{floor_join}

-- the rows at or below n, and those above it
abbrev pub low_rows : ℕ → List Row → List Row
low_rows n rows = filter (λ (r : Row). nat_le r.ts n) rows

abbrev pub high_rows : ℕ → List Row → List Row
high_rows n rows = filter (λ (r : Row). nat_lt n r.ts) rows

all_low : (n : ℕ) (rows : List Row) → ((r : Row) → IsRowIn r rows → r.ts ≤ n) → low_rows n rows ≡ rows
all_low n [] low = refl
all_low n (r ∷ rows) low = let is : nat_le r.ts n ≡ true = le-leb r.ts n (low r (inl refl)) in rw is (ap (λ l. r ∷ l) (all_low n rows (λ s i. low s (inr i))))

none_low : (n : ℕ) (rows : List Row) → ((r : Row) → IsRowIn r rows → n < r.ts) → low_rows n rows ≡ []
none_low n [] high = refl
none_low n (r ∷ rows) high = let isnt : nat_le r.ts n ≡ false = grind (arith, nat_tests, high r (inl refl)) in rw isnt (none_low n rows (λ s i. high s (inr i)))

pub all_high : (n : ℕ) (rows : List Row) → ((r : Row) → IsRowIn r rows → n < r.ts) → high_rows n rows ≡ rows
all_high n [] high = refl
all_high n (r ∷ rows) high = let is : nat_lt n r.ts ≡ true = lt-ltb n r.ts (high r (inl refl)) in rw is (ap (λ l. r ∷ l) (all_high n rows (λ s i. high s (inr i))))

pub none_high : (n : ℕ) (rows : List Row) → ((r : Row) → IsRowIn r rows → r.ts ≤ n) → high_rows n rows ≡ []
none_high n [] low = refl
none_high n (r ∷ rows) low = let isnt : nat_lt n r.ts ≡ false = grind (arith, nat_tests, low r (inl refl)) in rw isnt (none_high n rows (λ s i. low s (inr i)))

-- rising rows are the low ones and then the high ones
pub low_then_high : (n : ℕ) (rows : List Row) → RisingRows rows → rows ≡ low_rows n rows ++ high_rows n rows
low_then_high n [] rises = refl
low_then_high n (r ∷ rows) rises = search (by_test, row_order, none_low, all_high, low_then_high n rows rises.1, rules, arith)

pub in_above : (n : ℕ) (rows : List Row) (r : Row) → RowsAbove n rows → IsRowIn r rows → n < r.ts
in_above n [] r above i = absurd i
in_above n (s ∷ rows) r above i = elim i [ inl here ↦ subst (λ (q : Row). n < q.ts) here above.0 | inr there ↦ in_above n rows r above.1 there ]

-- a listed row is at or below n, where the cursor is
listed_below : (p : List Effect) (feed : Feed) (n : ℕ) (r : Row) → feed.cursor ≤ n → IsListed p feed n r → r.ts ≤ n
listed_below p feed n r low i = elim i [ inl f ↦ omega (arith, f.1.at) | inr s ↦ s.low ]

-- the list through n is what is low of a longer one
list_low : (p : List Effect) (feed : Feed) (n m : ℕ) → feed.cursor ≤ n → n ≤ m → low_rows n (list_of p feed m) ≡ list_of p feed n
list_low p feed n m from to =
    let more = list_above p feed n m to in
    ap (low_rows n) more.1 ∙ filter-append (λ (r : Row). nat_le r.ts n) (list_of p feed n) more.0
    ∙ ap (λ l. l ++ low_rows n more.0) (all_low n (list_of p feed n) (λ r i. listed_below p feed n r from ((in_list p feed n r).0 i)))
    ∙ ap (λ l. list_of p feed n ++ l) (none_low n more.0 (λ r i. in_above n more.0 r more.2 i))
    ∙ append-nil (list_of p feed n)

-- a list of which each row is above n, and none is, is empty
no_rows : (n : ℕ) (rows : List Row) → ((r : Row) → IsRowIn r rows → n < r.ts) → ((r : Row) → IsRowIn r rows → r.ts ≤ n) → rows ≡ []
no_rows n [] high low = refl
no_rows n (r ∷ rows) high low = absurd (let h = high r (inl refl) in let l = low r (inl refl) in omega arith)

-- messages end with one, where there is one
ends : (ms : List Message) → (ms ≡ []) ⊎ ((first : List Message) × (last : Message) × (ms ≡ first ++ last ∷ []))
ends [] = inl refl
ends (m ∷ ms) = elim (ends ms) [
  | inl none ↦ inr ([], m, ap (λ l. m ∷ l) none)
  | inr more ↦ inr (m ∷ more.0, more.1, ap (λ l. m ∷ l) more.2)
]

-- the number that is complete, where one is
pub complete_is : (start cursor n : ℕ) (ms : List Message) → complete_after start cursor ms ≡ Some n → (floor_after start ms ≡ n) × (cursor ≤ n)
complete_is start cursor n ms is = grind (arith, common_steps)

-- the list begins with the rows that were told so far
pub split_list : (p : List Effect) (f : ℕ) (feed : Feed) (before rest : List Message) (n : ℕ) → FeedIsRight p f feed → told_to p f ≡ before ++ rest → closed_of p ≤ n
    → (more : List Row) × (list_of p feed n ≡ rows_in before ++ (rows_in rest ++ more))
split_list p f feed before rest n right told far =
    let begins = right.begins n far in
    (begins.0, begins.1 ∙ ap (λ ms. rows_in ms ++ begins.0) told ∙ ap (λ l. l ++ begins.0) (filter_map-append row_in before rest) ∙ append_assoc (rows_in before) (rows_in rest) begins.0)

-- the rows told at or below what is complete are the list's
pub told_low : (p : List Effect) (f : ℕ) (feed : Feed) (before rest : List Message) (n : ℕ) → FeedIsRight p f feed → told_to p f ≡ before ++ rest → floor_after (start_of feed) before ≡ n → feed.cursor ≤ n
    → list_of p feed n ≡ low_rows n (rows_in before)
told_low p f feed before rest n right told floor from = elim (ends before) [
  | inl none ↦ (let start : start_of feed ≡ n = sym (ap (floor_after (start_of feed)) none) ∙ floor in
      no_rows n (list_of p feed n) (λ r i. let above : start_of feed < r.ts = listed_above p feed n r ((in_list p feed n r).0 i) in
      omega arith) (λ r i. listed_below p feed n r from ((in_list p feed n r).0 i))
      ∙ ap (λ ms. low_rows n (rows_in ms)) (sym none))
  | inr some ↦ by_last some.0 some.1 some.2
]
  where
    by_last : (first : List Message) (last : Message) → before ≡ first ++ last ∷ [] → list_of p feed n ≡ low_rows n (rows_in before)
    by_last first (messages.Resolved t) e =
        let at : t ≡ n = sym (floor_join (start_of feed) first (messages.Resolved t)) ∙ ap (floor_after (start_of feed)) (sym e) ∙ floor in
        let all : told_to p f ≡ first ++ messages.Resolved t ∷ rest = told ∙ ap (λ ms. ms ++ rest) e ∙ append_assoc first (messages.Resolved t ∷ []) rest in
        let rows : rows_in before ≡ list_of p feed n = ap rows_in e ∙ filter_map-append row_in first (messages.Resolved t ∷ [])
        ∙ append-nil (rows_in first) ∙ divides_at p feed [] first rest t (subst (DividesList p feed []) all right.divides)
        ∙ ap (list_of p feed) at in
        rw rows (sym (all_low n (list_of p feed n) (λ r i. listed_below p feed n r from ((in_list p feed n r).0 i))))
    by_last first (messages.Row r) e =
        let at : r.ts - 1 ≡ n = sym (floor_join (start_of feed) first (messages.Row r)) ∙ ap (floor_after (start_of feed)) (sym e) ∙ floor in
        let far : ℕ = max n (closed_of p) in
        let split = split_list p f feed before rest far right told (omega arith) in
        let tail : List Row = rows_in rest ++ split.0 in
        let parts = rises_parts (rows_in before) tail (subst RisingRows split.1 (list_rises p feed far)) in
        let here : IsRowIn r (rows_in before) = subst (IsRowIn r) (sym (ap rows_in e
        ∙ filter_map-append row_in first (messages.Row r ∷ []))) ((in_append r (rows_in first) (r ∷ [])).1 (inr (inl refl))) in
        let positive : start_of feed < r.ts = listed_above p feed far r ((in_list p feed far r).0 (subst (IsRowIn r) (sym split.1) ((in_append r (rows_in before) tail).1 (inl here)))) in
        sym (list_low p feed n far from (omega arith)) ∙ ap (low_rows n) split.1 ∙ filter-append (λ (q : Row). nat_le q.ts n) (rows_in before) tail
        ∙ ap (λ l. low_rows n (rows_in before) ++ l) (none_low n tail (λ s i. let after : r.ts ≤ s.ts = row_order r s (parts.2 r s here i) in
        omega arith)) ∙ append-nil (low_rows n (rows_in before))

-- rows that rise to t, of which the last is none of t, are below t
last_below : (ms : List Message) (s : Row) (t : ℕ) → RisingRows (s ∷ rows_in ms) → is_row_of (last_row (Some s) ms) t ≡ false → s.ts ≤ t → ((q : Row) → IsRowIn q (rows_in ms) → q.ts ≤ t) → s.ts < t
last_below [] s t rises other low all = grind (arith, nat_tests)
last_below (messages.Row r ∷ ms) s t rises other low all =
    let next : r.ts < t = last_below ms r t rises.1 other (all r (inl refl)) (λ q i. all q (inr i)) in
    omega (arith, row_order s r (rises.0 r (inl refl)))
last_below (messages.Resolved n ∷ ms) s t rises other low all = last_below ms s t rises other low all

all_below : (ms : List Message) (o : Option Row) (t : ℕ) → RisingRows (rows_in ms) → is_row_of (last_row o ms) t ≡ false → ((q : Row) → IsRowIn q (rows_in ms) → q.ts ≤ t)
    → (s : Row) → IsRowIn s (rows_in ms) → s.ts < t
all_below [] o t rises other all s i = absurd i
all_below (messages.Row r ∷ ms) o t rises other all s i = grind (arith, common_steps, last_below ms r t rises other (all r (inl refl)) (λ q j. all q (inr j)), all_below ms (Some r) t rises.1 other (λ q j. all q (inr j)) s)
all_below (messages.Resolved n ∷ ms) o t rises other all s i = all_below ms o t rises other all s i

-- before the first row of a later timestamp all rows below it were told
ready_rows : (p : List Effect) (f : ℕ) (feed : Feed) (before rest : List Message) (r : Row) → FeedIsRight p f feed → told_to p f ≡ before ++ messages.Row r ∷ rest → is_new feed.cursor before r.ts ≡ true
    → (rows_in before ≡ list_of p feed (r.ts - 1)) × (feed.cursor ≤ r.ts - 1)
ready_rows p f feed before rest r right told new =
    let both = and_parts _ _ new in
    let above : feed.cursor < r.ts = ltb-true _ _ both.0 in
    let other : is_row_of (last_row None before) r.ts ≡ false = not-true _ both.1 in
    let far : ℕ = max (r.ts - 1) (closed_of p) in
    let split = split_list p f feed before (messages.Row r ∷ rest) far right told (omega arith) in
    let tail : List Row = rows_in rest ++ split.0 in
    let parts = rises_parts (rows_in before) (r ∷ tail) (subst RisingRows split.1 (list_rises p feed far)) in
    let low : (s : Row) → IsRowIn s (rows_in before) → s.ts ≤ r.ts - 1 = λ s i.
    let below : s.ts < r.ts = all_below before None r.ts parts.0 other (λ q j. row_order q r (parts.2 q r j (inl refl))) s i in omega arith in
    let high : (s : Row) → IsRowIn s (r ∷ tail) → r.ts - 1 < s.ts = λ s i. let first = parts.1.0 s in grind (arith, common_steps, row_order) in
    let n = list_low p feed (r.ts - 1) far (omega arith) (omega arith) in let s = ap (low_rows (r.ts - 1)) split.1 in (
      sym (sym n ∙ s ∙ filter-append (λ (q : Row). nat_le q.ts (r.ts - 1)) (rows_in before) (r ∷ tail)
          ∙ rw (all_low (r.ts - 1) (rows_in before) low, none_low (r.ts - 1) (r ∷ tail) high) (append-nil (rows_in before))),
      omega arith,
    )

-- what the consumer has after rows that are a list's
rows_view : (p : List Effect) (feed : Feed) (before : List Message) (n : ℕ) → feed.cursor ≤ n → rows_in before ≡ list_of p feed n → (x : List ℕ) → seen_after p feed before x ≡ span_part feed.span (map_at p n) x
rows_view p feed before n from rows x = grind (arith, common_steps, view_rows, by_rows, list_views)

pub ready_view : (p : List Effect) (f : ℕ) (feed : Feed) (before rest : List Message) (r : Row) → FeedIsRight p f feed → told_to p f ≡ before ++ messages.Row r ∷ rest → is_new feed.cursor before r.ts ≡ true
    → (x : List ℕ) → seen_after p feed before x ≡ span_part feed.span (map_at p (r.ts - 1)) x
ready_view p f feed before rest r right told new = let rows = ready_rows p f feed before rest r right told new in rows_view p feed before (r.ts - 1) rows.1 rows.0
