-- The rows that are left behind a place, and what is left of a dump there.
use Rattle.std.proofs.Common.{◌≡◌, ℕ, zero, suc, ◌<◌, ◌≤◌, Bool, true, false, cond, List, [], ◌∷◌, ◌++◌, length, take, drop, Option, Some, None, refl, sym, ◌∙◌, ap, subst, inl, inr, arith, append_assoc}
use Rattle.embedded.proofs.Common.{Begin, Close, Cmd, Collect, Effect, Row, append-nil, by_test, close_text, command_line, concat, end_text, false_from_ne_true, first_row, flat_map-append, horizon_of, le-ltb, leb-true, lines_of, lt-ltb, ltb-true, nat_tests, next_left, row_command, row_text, take-append-drop, take_all}
use Rattle.std.proofs.lemmas.List.Elements.{filter-append}
use Rattle.std.specs.Prelude.{filter, nat_le, nat_lt, option_map}
use Rattle.spans.specs.Streams.{stream_of}
use Rattle.spans.proofs.StreamOrder.{IsRowIn, RisingRows, in_stream, rows_clash, stream_rises}
use Rattle.spans.proofs.Streaming.{RowsAbove, stream_above}
use Rattle.version_chain.specs.Walking.{is_after_place}
use Rattle.version_chain.proofs.Order.{after_trans, from_less}
use Rattle.restarts.specs.Dump.{all_keys, ended, is_left, is_open, left_rows, row_commands, started}
use Rattle.restarts.proofs.ByRows.{by_row}
use Rattle.embedded.specs.declared.dumping.DumpPlace.{DumpPlace}
use Rattle.embedded.specs.Dumping.{IsWholeLeft, first_texts, last_text, open_after, open_at, place_at_end, place_behind, place_of, row_texts, rows_behind, start, text_left, texts_through}

-- ---- rows under a filter

in_rows : (q : Row → Bool) (r : Row) (rows : List Row) → IsRowIn r (filter q rows) → IsRowIn r rows
in_rows q r [] i = i
in_rows q r (s ∷ rows) i = by_test (q s)
    (λ is. elim (rw is at i) [ inl here ↦ inl here | inr there ↦ inr (in_rows q r rows there) ])
    (λ isnt. inr (in_rows q r rows (rw isnt at i)))

rise_too : (q : Row → Bool) (rows : List Row) → RisingRows rows → RisingRows (filter q rows)
rise_too q [] h = tt
rise_too q (r ∷ rows) h = by_test (q r)
    (λ is. rw is (λ s i. h.0 s (in_rows q s rows i), rise_too q rows h.1))
    (λ isnt. rw isnt (rise_too q rows h.1))

all_pass : (q : Row → Bool) (rows : List Row) → ((r : Row) → IsRowIn r rows → q r ≡ true) → filter q rows ≡ rows
all_pass q [] each = refl
all_pass q (r ∷ rows) each = rw (each r (inl refl)) (ap (λ l. r ∷ l) (all_pass q rows (λ s i. each s (inr i))))

none_pass : (q : Row → Bool) (rows : List Row) → ((r : Row) → IsRowIn r rows → q r ≡ false) → filter q rows ≡ []
none_pass q [] each = refl
none_pass q (r ∷ rows) each = rw (each r (inl refl)) (none_pass q rows (λ s i. each s (inr i)))

above_too : (q : Row → Bool) (t : ℕ) (rows : List Row) → RowsAbove t rows → RowsAbove t (filter q rows)
above_too q t [] h = tt
above_too q t (r ∷ rows) h = by_test (q r)
    (λ is. rw is (h.0, above_too q t rows h.1))
    (λ isnt. rw isnt (above_too q t rows h.1))

-- ---- behind a place

abbrev is_behind : DumpPlace → Row → Bool
is_behind place r = is_after_place place.ts place.key r.key r.ts

behind_below : (place : DumpPlace) (r : Row) → place.ts < r.ts → is_behind place r ≡ true
behind_below place r low = by_key place.key
  where
    by_key : (key : Option (List ℕ)) → is_after_place place.ts key r.key r.ts ≡ true
    by_key None = lt-ltb place.ts r.ts low
    by_key (Some key) = from_less place.ts r.ts key r.key low

above_behind : (place : DumpPlace) (t : ℕ) (rows : List Row) → place.ts ≤ t → RowsAbove t rows → filter (is_behind place) rows ≡ rows
above_behind place t [] low h = refl
above_behind place t (r ∷ rows) low h =
    let high : t < r.ts = h.0 in
    rw (behind_below place r (omega arith)) (ap (λ l. r ∷ l) (above_behind place t rows low h.1))

-- behind the first row that is left, the others are
behind_first : (place : DumpPlace) (all : List Row) (r : Row) (rows : List Row) → RisingRows all → filter (is_behind place) all ≡ r ∷ rows → filter (is_behind (place_of r)) all ≡ rows
behind_first place [] r rows rises is = cc
behind_first place (x ∷ all) r rows rises is = by_test (is_behind place x)
    (λ first.
    let all_of : filter (is_behind place) all ≡ all = all_pass (is_behind place) all (λ s i. after_trans place.ts place.key x.ts s.ts x.key s.key first (rises.0 s i)) in
    let split : x ∷ filter (is_behind place) all ≡ r ∷ rows = rw first at is in
    let same : x ≡ r = cc in
    let rest : filter (is_behind place) all ≡ rows = cc in
    let itself : is_behind (place_of x) x ≡ false = false_from_ne_true _ (λ e. rows_clash x x e e) in
    subst (λ q. filter (is_behind (place_of q)) (x ∷ all) ≡ rows) same (rw itself (all_pass (is_behind (place_of x)) all (λ s i. rises.0 s i) ∙ sym all_of ∙ rest)))
    (λ before.
    let later : filter (is_behind place) all ≡ r ∷ rows = rw before at is in
    let there : IsRowIn r all = in_rows (is_behind place) r all (subst (IsRowIn r) (sym later) (inl refl)) in
    let isnt : is_behind (place_of r) x ≡ false = false_from_ne_true _ (λ e. rows_clash x r (rises.0 r there) e) in
    rw isnt (behind_first place all r rows rises.1 later))

left_rises : (p : List Effect) (m : ℕ) → RisingRows (left_rows p m)
left_rises p m = rise_too (is_left p) (stream_of p all_keys 0 m) (stream_rises p all_keys 0 m)

pub left_behind : (p : List Effect) (t : ℕ) (place : DumpPlace) (r : Row) (rows : List Row) → rows_behind p t place ≡ r ∷ rows → rows_behind p t (place_of r) ≡ rows
left_behind p t place r rows is = behind_first place (left_rows p t) r rows (left_rises p t) is

-- the row that is found is the first that is left
pub next_row : (p : List Effect) (t : ℕ) (place : DumpPlace) (r : Row) → Some r ≡ next_left p place.ts place.key t → rows_behind p t place ≡ r ∷ rows_behind p t (place_of r)
next_row p t place r is = by_rows (rows_behind p t place) refl is
  where
    by_rows : (rows : List Row) → rows_behind p t place ≡ rows → Some r ≡ first_row rows → rows_behind p t place ≡ r ∷ rows_behind p t (place_of r)
    by_rows [] are first = cc
    by_rows (q ∷ rows) are first =
        let same : q ≡ r = cc in
        let parts : rows_behind p t place ≡ r ∷ rows = are ∙ ap (λ x. x ∷ rows) same in
        parts ∙ ap (λ l. r ∷ l) (sym (left_behind p t place r rows parts))

-- behind rows that were written, the others are left
behind_rows : (p : List Effect) (t : ℕ) (place : DumpPlace) (xs ys : List Row) → rows_behind p t place ≡ xs ++ ys → rows_behind p t (place_behind place xs) ≡ ys
behind_rows p t place [] ys is = is
behind_rows p t place (x ∷ xs) ys is = behind_rows p t (place_of x) xs ys (left_behind p t place x (xs ++ ys) is)

open_behind : (place : DumpPlace) (rows : List Row) → open_at (place_behind place rows) ≡ open_after (open_at place) rows
open_behind place [] = refl
open_behind place (r ∷ rows) = open_behind (place_of r) rows

-- ---- the rows through a timestamp, and those above

abbrev behind_all : ℕ → DumpPlace
behind_all t = record { ts = t; key = None }

rows_split : (p : List Effect) (m t : ℕ) (place : DumpPlace) → place.ts ≤ t → t ≤ m → rows_behind p m place ≡ rows_behind p t place ++ rows_behind p m (behind_all t)
rows_split p m t place low within =
    let s = stream_above p all_keys 0 t m within in
    let more : List Row = filter (is_left p) s.0 in
    let parts : left_rows p m ≡ left_rows p t ++ more = ap (filter (is_left p)) s.1 ∙ filter-append (is_left p) (stream_of p all_keys 0 t) s.0 in
    let above : RowsAbove t more = above_too (is_left p) t s.0 s.2 in
    let through : filter (is_behind (behind_all t)) (left_rows p t) ≡ [] = none_pass (is_behind (behind_all t)) (left_rows p t) (λ r i. le-ltb t r.ts ((in_stream p all_keys 0 t r).0 (in_rows (is_left p) r (stream_of p all_keys 0 t) i)).low) in
    let behind : rows_behind p m (behind_all t) ≡ more = ap (filter (is_behind (behind_all t))) parts ∙ filter-append (is_behind (behind_all t)) (left_rows p t) more
    ∙ ap (λ l. l ++ filter (is_behind (behind_all t)) more) through ∙ above_behind (behind_all t) t more (omega arith) above in
    ap (filter (is_behind place)) parts ∙ filter-append (is_behind place) (left_rows p t) more
    ∙ ap (λ l. rows_behind p t place ++ l) (above_behind place t more low above ∙ sym behind)

rows_above : (t : ℕ) (rows : List Row) → RowsAbove t (filter (is_behind (behind_all t)) rows)
rows_above t [] = tt
rows_above t (r ∷ rows) = by_test (nat_lt t r.ts)
    (λ is. rw is (ltb-true t r.ts is, rows_above t rows))
    (λ isnt. rw isnt (rows_above t rows))

-- the transaction that is open, if one is, isn't above t
abbrev IsLow : Option ℕ → ℕ → Type 0
IsLow None t = Unit {0}
IsLow (Some k) t = k ≤ t

open_low : (o : Option ℕ) (rows : List Row) (t : ℕ) → IsLow o t → ((r : Row) → IsRowIn r rows → r.ts ≤ t) → IsLow (open_after o rows) t
open_low o [] t low each = low
open_low o (r ∷ rows) t low each = open_low (Some r.ts) rows t (each r (inl refl)) (λ s i. each s (inr i))

place_low : (place : DumpPlace) (t : ℕ) → place.ts ≤ t → IsLow (open_at place) t
place_low place t low = by_key place.key
  where
    by_key : (key : Option (List ℕ)) → IsLow (option_map (λ (k : List ℕ). place.ts) key) t
    by_key None = tt
    by_key (Some key) = low

-- ---- texts

-- the texts of rows, and then the commands of others
texts_then : (o : Option ℕ) (xs ys : List Row) (end : List Cmd) → lines_of (row_commands o (xs ++ ys) ++ end) ≡ concat (row_texts o xs) ++ lines_of (row_commands (open_after o xs) ys ++ end)
texts_then o [] ys end = refl
texts_then o (x ∷ xs) ys end =
    let more : List Cmd = row_commands (Some x.ts) (xs ++ ys) in
    ap lines_of (append_assoc (started o x.ts) (row_command x ∷ more) end ∙ sym (append_assoc (started o x.ts) (row_command x ∷ []) (more ++ end)))
    ∙ flat_map-append (command_line 0) (started o x.ts ++ row_command x ∷ []) (more ++ end)
    ∙ ap (λ l. row_text o x ++ l) (texts_then (Some x.ts) xs ys end)
    ∙ sym (append_assoc (row_text o x) (concat (row_texts (Some x.ts) xs)) (lines_of (row_commands (open_after (Some x.ts) xs) ys ++ end)))

-- a transaction that is open ends before rows of others
ends_before : (o : Option ℕ) (t : ℕ) (rows : List Row) (end : List Cmd) → IsLow o t → RowsAbove t rows → lines_of (row_commands o rows ++ end) ≡ end_text o ++ lines_of (row_commands None rows ++ end)
ends_before o t [] end low above = flat_map-append (command_line 0) (ended o) end
ends_before o t (r ∷ rows) end low above =
    let more : List Cmd = row_command r ∷ row_commands (Some r.ts) rows in
    let other : is_open o r.ts ≡ false = closed o low above.0 in
    ap (λ b. lines_of ((cond b [] (ended o ++ Begin r.ts ∷ []) ++ more) ++ end)) other
    ∙ ap (λ l. lines_of (l ++ end)) (append_assoc (ended o) (Begin r.ts ∷ []) more)
    ∙ ap lines_of (append_assoc (ended o) (Begin r.ts ∷ more) end)
    ∙ flat_map-append (command_line 0) (ended o) (Begin r.ts ∷ more ++ end)
  where
    closed : (k : Option ℕ) → IsLow k t → t < r.ts → is_open k r.ts ≡ false
    closed None l h = refl
    closed (Some k) l h = grind (arith, nat_tests)

-- the first texts: of rows alone, or of all rows and the last one
texts_of_rows : (o : Option ℕ) (rows : List Row) (last : List ℕ) (n : ℕ) → n ≤ length rows → concat (take n (row_texts o rows ++ last ∷ [])) ≡ concat (row_texts o (take n rows))
texts_of_rows o rows last zero low = refl
texts_of_rows o [] last (suc n) low = absurd (omega arith)
texts_of_rows o (r ∷ rows) last (suc n) low = ap (λ l. row_text o r ++ l) (texts_of_rows (Some r.ts) rows last n (omega arith))

all_texts : (o : Option ℕ) (rows : List Row) (last : List ℕ) (n : ℕ) → length rows < n → concat (take n (row_texts o rows ++ last ∷ [])) ≡ concat (row_texts o rows) ++ last
all_texts o rows last zero low = absurd (omega arith)
all_texts o [] last (suc n) low = ap (λ l. concat (last ∷ l)) (take_all n [] (omega arith)) ∙ append-nil last
all_texts o (r ∷ rows) last (suc n) low = ap (λ l. row_text o r ++ l) (all_texts (Some r.ts) rows last n (omega arith)) ∙ sym (append_assoc (row_text o r) (concat (row_texts (Some r.ts) rows)) last)

-- ---- what is left

abbrev ends_at : List Effect → ℕ → List Cmd
ends_at p m = Close m ∷ Collect (horizon_of p) ∷ []

-- behind the first n texts what is left is the rest
pub rest_left : (p : List Effect) (m t : ℕ) (place : DumpPlace) (n : ℕ) → place.ts ≤ t → t ≤ m → text_left p m (Some place) ≡ (first_texts p m t place n).0 ++ text_left p m (first_texts p m t place n).1
rest_left p m t place n low within =
    let o : Option ℕ = open_at place in
    let rows : List Row = rows_behind p t place in
    let above : List Row = rows_behind p m (behind_all t) in
    let last : List ℕ = last_text p m t (open_after o rows) in
    let split : rows_behind p m place ≡ rows ++ above = rows_split p m t place low within in
    by_test (nat_le n (length rows))
    (λ few. rw few (
    let xs : List Row = take n rows in
    let ys : List Row = drop n rows ++ above in
    let parts : rows_behind p m place ≡ xs ++ ys = split ∙ ap (λ l. l ++ above) (sym (take-append-drop n rows)) ∙ append_assoc xs (drop n rows) above in
    ap (λ l. lines_of (row_commands o l ++ ends_at p m)) parts
    ∙ texts_then o xs ys (ends_at p m)
    ∙ ap (λ l. l ++ lines_of (row_commands (open_after o xs) ys ++ ends_at p m)) (sym (texts_of_rows o rows last n (leb-true n (length rows) few)))
    ∙ ap (λ l. concat (take n (texts_through p m t place)) ++ lines_of (row_commands (open_after o xs) l ++ ends_at p m)) (sym (behind_rows p m place xs ys parts))
    ∙ ap (λ k. concat (take n (texts_through p m t place)) ++ lines_of (row_commands k (rows_behind p m (place_behind place xs)) ++ ends_at p m)) (sym (open_behind place xs))))
    (λ many. rw many (
    let texts : concat (take n (texts_through p m t place)) ≡ concat (row_texts o rows) ++ last = all_texts o rows last n (grind (arith, nat_tests)) in
    ap (λ l. lines_of (row_commands o l ++ ends_at p m)) split
    ∙ texts_then o rows above (ends_at p m)
    ∙ ap (λ l. concat (row_texts o rows) ++ l) (rest_behind p m t (open_after o rows) within (open_low o rows t (place_low place t low) (λ r i. ((in_stream p all_keys 0 t r).0 (in_rows (is_left p) r (stream_of p all_keys 0 t) (in_rows (is_behind place) r (left_rows p t) i))).low)))
    ∙ sym (append_assoc (concat (row_texts o rows)) last (text_left p m (place_at_end m t)))
    ∙ ap (λ l. l ++ text_left p m (place_at_end m t)) (sym texts)))
  where
    -- behind all rows through t
    rest_behind : (p : List Effect) (m t : ℕ) (o : Option ℕ) → t ≤ m → IsLow o t → lines_of (row_commands o (rows_behind p m (behind_all t)) ++ ends_at p m) ≡ last_text p m t o ++ text_left p m (place_at_end m t)
    rest_behind p m t o within low = by_test (nat_lt t m)
        (λ more. rw more (ends_before o t (rows_behind p m (behind_all t)) (ends_at p m) low (rows_above t (left_rows p m))
        ∙ ap (λ l. l ++ lines_of (row_commands None (rows_behind p m (behind_all t)) ++ ends_at p m)) (sym (append-nil (end_text o)))))
        (λ end. rw end (
        let same : t ≡ m = grind (arith, nat_tests) in
        let none : rows_behind p m (behind_all t) ≡ [] = none_pass (is_behind (behind_all t)) (left_rows p m) (λ r i. let high : r.ts ≤ m = ((in_stream p all_keys 0 m r).0 (in_rows (is_left p) r (stream_of p all_keys 0 m) i)).low in le-ltb t r.ts (omega arith)) in
        ap (λ l. lines_of (row_commands o l ++ ends_at p m)) none
        ∙ flat_map-append (command_line 0) (ended o) (ends_at p m)
        ∙ sym (append-nil (end_text o ++ close_text m (horizon_of p)))))

-- at first all of the dump is left
pub whole_left : (p : List Effect) (m : ℕ) → IsWholeLeft p m
whole_left p m =
    let all : rows_behind p m start ≡ left_rows p m = all_pass (is_behind start) (left_rows p m) (λ r i. lt-ltb 0 r.ts ((in_stream p all_keys 0 m r).0 (in_rows (is_left p) r (stream_of p all_keys 0 m) i)).above) in
    ap (λ l. lines_of (row_commands None l ++ ends_at p m)) all ∙ ap lines_of (by_row p m)
