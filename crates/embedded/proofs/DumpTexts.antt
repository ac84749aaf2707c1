-- The texts of a piece of a dump, one after another.
use Rattle.std.proofs.Common.{◌≡◌, ℕ, suc, ◌+◌, ◌-◌, ◌≤◌, Bool, true, false, cond, List, [], ◌∷◌, ◌++◌, length, length-append, take, Option, Some, sym, ◌∙◌, ap, subst, inl, inr, arith, append_assoc}
use Rattle.embedded.proofs.Common.{Effect, IsReached, Row, append-nil, by_test, concat, le-ltb, mark_of, nat_tests, row_text}
use Rattle.std.specs.Prelude.{max, nat_le, nat_lt}
use Rattle.spans.specs.Transactions.{begun_of, closed_of}
use Rattle.spans.proofs.Members.{among_has, has_begun}
use Rattle.spans.proofs.Open.{begun_among}
use Rattle.restarts.proofs.InRange.{at_most, each_low, first_low}
use Rattle.embedded.specs.declared.dumping.DumpEnd.{DumpEnd}
use Rattle.embedded.specs.declared.dumping.DumpPlace.{DumpPlace}
use Rattle.embedded.specs.Dumping.{AreTexts, IsNextText, filled, count_within, first_texts, fits, last_text, next_place, open_after, open_at, place_at_end, place_behind, place_of, row_texts, rows_behind, texts_through}

-- ---- where a dump closes

pub mark_is : (p : List Effect) (at reached : ℕ) → IsReached p reached → max at reached ≡ mark_of p at
mark_is p at reached is =
    let low : closed_of p ≤ reached = is.closed in
    let top : mark_of p at ≤ max at reached = at_most (max at (closed_of p)) (max at reached) (begun_of p) (omega (arith, low)) (λ k i. let here : k ≤ reached = is.begun k (has_begun p k i) in omega (arith, here)) in
    let first : max at (closed_of p) ≤ mark_of p at = first_low (max at (closed_of p)) (begun_of p) in
    let last : reached ≤ mark_of p at = elim is.least [
      | inl closed ↦ omega (arith, closed, first)
      | inr begun ↦ each_low (max at (closed_of p)) reached (begun_of p) (among_has reached (begun_of p) (begun_among p reached begun))
    ] in
    omega (arith, top, first, last)

-- ---- the texts behind a row

texts_more : (p : List Effect) (m t : ℕ) (place : DumpPlace) (r : Row) → rows_behind p t place ≡ r ∷ rows_behind p t (place_of r) → texts_through p m t place ≡ row_text (open_at place) r ∷ texts_through p m t (place_of r)
texts_more p m t place r is = ap (λ rows. row_texts (open_at place) rows ++ last_text p m t (open_after (open_at place) rows) ∷ []) is

-- one text and n more
first_more : (p : List Effect) (m t : ℕ) (place : DumpPlace) (r : Row) (n : ℕ) → rows_behind p t place ≡ r ∷ rows_behind p t (place_of r)
    → first_texts p m t place (suc n) ≡ (row_text (open_at place) r ++ (first_texts p m t (place_of r) n).0, (first_texts p m t (place_of r) n).1)
first_more p m t place r n is =
    let rows : List Row = rows_behind p t (place_of r) in
    let test : nat_le (suc n) (length (r ∷ rows)) ≡ nat_le n (length rows) = grind (arith, nat_tests) in
    ap (λ texts. (concat (take (suc n) texts), next_place m t place (rows_behind p t place) (suc n))) (texts_more p m t place r is)
    ∙ ap (λ l. (concat (take (suc n) (row_text (open_at place) r ∷ texts_through p m t (place_of r))), next_place m t place l (suc n))) is
    ∙ ap (λ b. (row_text (open_at place) r ++ concat (take n (texts_through p m t (place_of r))), cond b (Some (place_behind (place_of r) (take n rows))) (place_at_end m t))) test

none_taken : (p : List Effect) (m t : ℕ) (place : DumpPlace) → first_texts p m t place 0 ≡ ([], Some place)
none_taken p m t place = let test : nat_le 0 (length (rows_behind p t place)) ≡ true = grind (arith, nat_tests) in ap (λ b. ([], cond b (Some place) (place_at_end m t))) test

-- ---- as many as have room

module _ (p : List Effect) (end : DumpEnd) (room : ℕ) where
  -- the next text has no room
  -- past the room nothing more is written
  -- the next text has room
  pub filled_more : (text : List ℕ) (place : DumpPlace) (r : Row) → rows_behind p end.through place ≡ r ∷ rows_behind p end.through (place_of r) → length (text ++ row_text (open_at place) r) ≤ room
      → filled p end room text place ≡ filled p end room (text ++ row_text (open_at place) r) (place_of r)
  filled_more text place r is low =
      let c : List ℕ = row_text (open_at place) r in
      let next : List (List ℕ) = texts_through p end.to end.through (place_of r) in
      let longer : length (text ++ c) ≡ length text + length c = length-append text c in
      let test : nat_lt room (length text) ≡ false = le-ltb room (length text) (omega (arith, longer, low)) in
      let test' : nat_lt room (length (text ++ c)) ≡ false = le-ltb room (length (text ++ c)) low in
      let has : nat_lt (room - length text) (length c) ≡ false = le-ltb (room - length text) (length c) (omega (arith, longer, low)) in
      let left : room - length text - length c ≡ room - length (text ++ c) = omega (arith, longer) in
      let count : fits (room - length text) (texts_through p end.to end.through place) ≡ suc (fits (room - length (text ++ c)) next) =
      ap (fits (room - length text)) (texts_more p end.to end.through place r is) ∙ ap (λ b. cond b 0 (suc (fits (room - length text - length c) next))) has ∙ ap (λ n. suc (fits n next)) left in
      let n : ℕ = fits (room - length (text ++ c)) next in
      let after : List ℕ × Option DumpPlace = first_texts p end.to end.through (place_of r) n in
      rw (test, test') (ap (λ k. (text ++ (first_texts p end.to end.through place k).0, (first_texts p end.to end.through place k).1)) count
      ∙ ap (λ (x : List ℕ × Option DumpPlace). (text ++ x.0, x.1)) (first_more p end.to end.through place r n is)
      ∙ ap (λ l. (l, after.1)) (sym (append_assoc text c after.0)))

  -- the last text has room
  -- one text at least
  pub begun_by_row : (place : DumpPlace) (r : Row) (text : List ℕ) (next : Option DumpPlace) → rows_behind p end.through place ≡ r ∷ rows_behind p end.through (place_of r)
      → (text, next) ≡ filled p end room (row_text (open_at place) r) (place_of r) → AreTexts p end room place text next
  begun_by_row place r text next is rest =
      let c : List ℕ = row_text (open_at place) r in
      let more : List (List ℕ) = texts_through p end.to end.through (place_of r) in
      let count : (b : Bool) → nat_lt room (length c) ≡ b → count_within room (texts_through p end.to end.through place) ≡ max 1 (cond b 0 (suc (fits (room - length c) more))) =
      λ b test. ap (λ l. max 1 (fits room l)) (texts_more p end.to end.through place r is) ∙ ap (λ k. max 1 (cond k 0 (suc (fits (room - length c) more)))) test in
      rest ∙ by_test (nat_lt room (length c))
      (λ over. rw over (sym (
      ap (first_texts p end.to end.through place) (count true over)
      ∙ first_more p end.to end.through place r 0 is
      ∙ ap (λ (x : List ℕ × Option DumpPlace). (c ++ x.0, x.1)) (none_taken p end.to end.through (place_of r))
      ∙ ap (λ l. (l, Some (place_of r))) (append-nil c))))
      (λ within. let one : max 1 (suc (fits (room - length c) more)) ≡ suc (fits (room - length c) more) = omega arith in
      rw within (sym (
      ap (first_texts p end.to end.through place) (count false within ∙ one)
      ∙ first_more p end.to end.through place r (fits (room - length c) more) is)))

  -- ---- by what was written

  -- a text that has no room is cut off again
  -- behind a row that has room it goes on
  pub goes_on : (text text' : List ℕ) (place behind : DumpPlace) → IsNextText p end place text text' (Some behind) → length text' ≤ room → filled p end room text place ≡ filled p end room text' behind
  goes_on text text' place behind is low =
      let rows : rows_behind p end.through place ≡ is.0 ∷ rows_behind p end.through (place_of is.0) = subst (λ q. rows_behind p end.through place ≡ is.0 ∷ rows_behind p end.through q) is.2 is.1 in
      filled_more text place is.0 rows (subst (λ (l : List ℕ). length l ≤ room) is.3 low)
      ∙ ap (λ (l : List ℕ). filled p end room l (place_of is.0)) (sym is.3)
      ∙ ap (filled p end room text') (sym is.2)

  -- the last text has room
  -- the first text, and then as many as have room
  pub first_then : (text' text'' : List ℕ) (place behind : DumpPlace) (next : Option DumpPlace) → IsNextText p end place [] text' (Some behind) → (text'', next) ≡ filled p end room text' behind → AreTexts p end room place text'' next
  first_then text' text'' place behind next is rest =
      let rows : rows_behind p end.through place ≡ is.0 ∷ rows_behind p end.through (place_of is.0) = subst (λ q. rows_behind p end.through place ≡ is.0 ∷ rows_behind p end.through q) is.2 is.1 in
      begun_by_row place is.0 text'' next rows (rest ∙ ap (λ (l : List ℕ). filled p end room l behind) is.3 ∙ ap (filled p end room (row_text (open_at place) is.0)) is.2)
