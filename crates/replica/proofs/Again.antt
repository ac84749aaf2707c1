-- What a consumer has that goes on with rows of which some are told again: the map, before the first row of each later timestamp.
use Rattle.replica.proofs.Common.{AllTaken, Effect, Feed, FeedIsRight, GoesOn, Map, Message, Row, Span, by_rows, by_rows_join, by_test, common_steps, floor_join, high_rows, is_new, list_of, list_views, low_rows, low_then_high, ltb-true, map_at, put, ready_view, row_near_floor, rows_in, seed_of, seen_after, span_part, split_list, start_of, streamed, taken_before, told_low, told_to, view_of, view_rows}
use Rattle.std.proofs.Common.{◌≡◌, ℕ, suc, ◌-◌, ◌<◌, ◌≤◌, ◌⊎◌, inl, inr, Bool, true, false, List, [], ◌∷◌, ◌++◌, refl, sym, ◌∙◌, ap, subst, append_assoc, arith}
use Rattle.std.specs.Prelude.{bytes_eq, filter, max, nat_lt}
use Rattle.std.proofs.lemmas.List.Elements.{filter_map-append}
use Rattle.spans.specs.declared.calls.messages.Message.TheVariants as messages
use Rattle.spans.specs.Transactions.{closed_of}
use Rattle.spans.specs.Streams.{stream_of}
use Rattle.spans.specs.Collection.{floor_after}
use Rattle.spans.proofs.StreamOrder.{IsRowIn, RisingRows, IsStreamed, in_append, in_stream, rises_parts}
use Rattle.spans.proofs.Listing.{in_list, list_rises}

-- a timestamp that is new above one cursor is new above each lower one
pub new_above : (c d t : ℕ) (taken : List Message) → is_new c taken t ≡ true → d < t → is_new d taken t ≡ true
new_above c d t taken new above = grind (arith, common_steps)

-- none of the rows is of the key
abbrev LeavesKey : List Row → List ℕ → Type 0
LeavesKey rows x = (r : Row) → IsRowIn r rows → bytes_eq r.key x ≡ false

-- rows of other keys leave a key's value
value_left : (m : Map) (rows : List Row) (x : List ℕ) → LeavesKey rows x → by_rows m rows x ≡ m x
value_left m [] x leaves = refl
value_left m (r ∷ rows) x leaves = value_left (put m r.key r.after) rows x (λ s i. leaves s (inr i)) ∙ rw (leaves r (inl refl)) refl

-- rows of the key decide its value, whatever was there before
value_decided : (m n : Map) (rows : List Row) (x : List ℕ) → (by_rows m rows x ≡ by_rows n rows x) ⊎ LeavesKey rows x
value_decided m n [] x = inr (λ r i. absurd i)
value_decided m n (r ∷ rows) x = elim (value_decided (put m r.key r.after) (put n r.key r.after) rows x) [
  | inl same ↦ inl same
  | inr later ↦ grind (arith, common_steps, by_test, value_left)
]

in_filter : (test : Row → Bool) (rows : List Row) (r : Row) → IsRowIn r (filter test rows) → IsRowIn r rows × (test r ≡ true)
in_filter test [] r i = absurd i
in_filter test (s ∷ rows) r i = grind (arith, common_steps, in_filter test rows r)

-- what the feed that goes on from n told before the first row of a later timestamp has each of the span's rows from n up to there
told_again : (p : List Effect) (g : ℕ) (feed next : Feed) (n : ℕ) (again later : List Message) (row : Row) → FeedIsRight p g next → GoesOn feed next n
    → told_to p g ≡ again ++ messages.Row row ∷ later → n < row.ts - 1 → (r : Row) → IsStreamed p feed.span n (row.ts - 1) r → IsRowIn r (rows_in again)
told_again p g feed next n again later row right goes told past r s =
    let k : ℕ = row.ts - 1 in
    let listed : IsRowIn r (list_of p next k) = grind (arith, common_steps, in_list) in
    let whole : told_to p g ≡ (again ++ messages.Row row ∷ []) ++ later = told ∙ sym (append_assoc again (messages.Row row ∷ []) later) in
    let low : list_of p next k ≡ low_rows k (rows_in (again ++ messages.Row row ∷ [])) = told_low p g next (again ++ messages.Row row ∷ []) later k right whole (floor_join (start_of next) again (messages.Row row)) (omega (arith, goes.cursor)) in
    grind (arith, common_steps, in_filter, filter_map-append, in_append)

-- the rows that a consumer has above where it was told all are of the next timestamp
near_rows : (p : List Effect) (f : ℕ) (feed : Feed) (before rest : List Message) (n k : ℕ) → FeedIsRight p f feed → AllTaken feed.span (start_of feed) [] (told_to p f)
    → told_to p f ≡ before ++ rest → floor_after (start_of feed) before ≡ n → feed.cursor ≤ n → n < k → (r : Row) → IsRowIn r (high_rows n (rows_in before)) → IsStreamed p feed.span n k r
near_rows p f feed before rest n k right takes told floor from past r i =
    let far : ℕ = max n (closed_of p) in
    let split = split_list p f feed before rest far right told (omega arith) in
    let h = in_filter (λ (q : Row). nat_lt n q.ts) (rows_in before) r i in
    let above : n < r.ts = ltb-true _ _ h.1 in
    let near : r.ts ≤ suc (floor_after (start_of feed) before) = row_near_floor feed.span (start_of feed) [] before r (taken_before feed.span (start_of feed) [] before rest (subst (AllTaken feed.span (start_of feed) []) told takes)) h.0 in
    let listed = (in_list p feed far r).0 (subst (IsRowIn r) (sym split.1) ((in_append r (rows_in before) (rows_in rest ++ split.0)).1 (inl h.0))) in
    grind (arith, common_steps)

-- what a consumer has is the map where it was told all, but for the rows above that
seen_low : (p : List Effect) (f : ℕ) (feed : Feed) (before rest : List Message) (n : ℕ) → FeedIsRight p f feed → told_to p f ≡ before ++ rest → floor_after (start_of feed) before ≡ n → feed.cursor ≤ n
    → (x : List ℕ) → LeavesKey (high_rows n (rows_in before)) x → seen_after p feed before x ≡ span_part feed.span (map_at p n) x
seen_low p f feed before rest n right told floor from x leaves =
    let seed : Map = seed_of feed.kind p feed.span feed.cursor in
    let far : ℕ = max n (closed_of p) in
    let split = split_list p f feed before rest far right told (omega arith) in
    let rises : RisingRows (rows_in before) = (rises_parts (rows_in before) (rows_in rest ++ split.0) (subst RisingRows split.1 (list_rises p feed far))).0 in
    let high : List Row = high_rows n (rows_in before) in
    let low : list_of p feed n ≡ low_rows n (rows_in before) = told_low p f feed before rest n right told floor from in
    ap (λ (m : Map). m x) (view_rows seed before ∙ ap (by_rows seed) (low_then_high n (rows_in before) rises ∙ ap (λ l. l ++ high) (sym low)) ∙ by_rows_join seed (list_of p feed n) high)
    ∙ value_left (by_rows seed (list_of p feed n)) high x leaves
    ∙ list_views p feed n x from

-- a consumer that goes on from where it was told all has the map before the first row of each timestamp but the one behind that
pub again_ready : (p : List Effect) (f : ℕ) (feed : Feed) (before rest : List Message) (n : ℕ) → FeedIsRight p f feed → AllTaken feed.span (start_of feed) [] (told_to p f)
    → told_to p f ≡ before ++ rest → floor_after (start_of feed) before ≡ n → feed.cursor ≤ n
    → (g : ℕ) (next : Feed) → FeedIsRight p g next → GoesOn feed next n → (again later : List Message) (row : Row) → told_to p g ≡ again ++ messages.Row row ∷ later
    → is_new next.cursor again row.ts ≡ true → n < row.ts - 1 → (x : List ℕ) → view_of (seen_after p feed before) again x ≡ span_part feed.span (map_at p (row.ts - 1)) x
again_ready p f feed before rest n right takes told floor from g next goes_right goes again later row told_next new past x =
    let k : ℕ = row.ts - 1 in
    let seen : Map = seen_after p feed before in
    let seed : Map = seed_of next.kind p next.span next.cursor in
    let part : Map = span_part feed.span (map_at p n) in
    let among : (r : Row) → IsStreamed p feed.span n k r → IsRowIn r (rows_in again) = told_again p g feed next n again later row goes_right goes told_next past in
    ap (λ (m : Map). m x) (view_rows seen again) ∙ elim (value_decided seen seed (rows_in again) x) [
      | inl same ↦ same ∙ ap (λ (m : Map). m x) (sym (view_rows seed again)) ∙ ready_view p g next again later row goes_right told_next new x ∙ ap (λ (i : Span). span_part i (map_at p k) x) goes.span
      | inr leaves ↦ value_left seen (rows_in again) x leaves
          ∙ seen_low p f feed before rest n right told floor from x (λ r i. leaves r (among r (near_rows p f feed before rest n k right takes told floor from past r i)))
          ∙ sym (value_left part (stream_of p feed.span n k) x (λ r i. leaves r (among r ((in_stream p feed.span n k r).0 i))))
          ∙ streamed p feed.span n k x (omega arith)
    ]
