-- A feed that goes on from another's complete timestamp: what it tells, and what it repeats.
use Rattle.spans.proofs.Common.{ltb-true, ltb-false, Row, common_steps, filter-append, nat_tests}
use Rattle.std.proofs.Common.{◌≡◌, ℕ, zero, suc, ◌<◌, ◌≤◌, Bool, true, false, cond, ◌||◌, List, [], ◌∷◌, ◌++◌, Some, refl, sym, ◌∙◌, ap, subst, inl, inr, arith}
use Rattle.std.specs.Prelude.{nat_lt, bytes_eq, max}
use Rattle.spans.specs.declared.span.Span.{Span}
use Rattle.spans.specs.declared.calls.messages.Message.{Message}
use Rattle.spans.specs.declared.calls.messages.Message.TheVariants as messages
use Rattle.spans.specs.Effects.{Effect}
use Rattle.spans.specs.Transactions.{closed_of}
use Rattle.spans.specs.Serial.{Map, put, map_at, span_part}
use Rattle.spans.specs.Streams.{rows_of, stream_of}
use Rattle.spans.specs.Feeds.{Feed, feed_of, told_to, rows_in, first_rows, list_of, start_of}
use Rattle.spans.specs.Collection.{floor_after}
use Rattle.spans.specs.FeedRight.{DividesList, least_gap, FeedIsRight}
use Rattle.spans.specs.Consumer.{view_of, seed_of, AllTaken}
use Rattle.spans.specs.Completeness.{AllAbove, GoesOn, seen_after, CompleteIsRight}
use Rattle.spans.proofs.Steps.{by_test}
use Rattle.spans.proofs.StreamOrder.{IsRowIn, RisingRows, rises_parts, in_append, in_stream, in_txn_rows}
use Rattle.spans.proofs.Feeding.{ResolvedRise, some_gap, apart_rises}
use Rattle.spans.proofs.Listing.{in_list, list_rises, start_first, first_none, in_first}
use Rattle.spans.proofs.Viewing.{by_rows, by_rows_join, by_rows_like, view_rows, list_views, streamed, divides_at, rises_at}
use Rattle.spans.proofs.Floors.{taken_before, taken_after, all_above_floor, row_near_floor}
use Rattle.spans.proofs.Complete.{low_rows, high_rows, all_high, none_high, low_then_high, split_list, complete_is, told_low, ready_view}

-- a feed that starts at its cursor tells nothing first
none_first : (p : List Effect) (feed next : Feed) (n : ℕ) → GoesOn feed next n → first_rows next.kind p next.span next.cursor ≡ []
none_first p feed next n goes = grind (arith, common_steps, first_none, by_test, start_first)

next_list : (p : List Effect) (feed next : Feed) (n m : ℕ) → GoesOn feed next n → list_of p next m ≡ stream_of p feed.span n m
next_list p feed next n m goes = grind (arith, common_steps, none_first)

txn_high : (p : List Effect) (span : Span) (n t : ℕ) → high_rows n (rows_of p span t) ≡ cond (nat_lt n t) (rows_of p span t) []
txn_high p span n t = let at : (r : Row) → IsRowIn r (rows_of p span t) → r.ts ≡ t = λ r i. ((in_txn_rows p span t r).0 i).0 in by_test (nat_lt n t)
    (λ is. rw is (all_high n (rows_of p span t) (λ r i. let e = at r i in let l = ltb-true n t is in omega arith)))
    (λ isnt. rw isnt (none_high n (rows_of p span t) (λ r i. let e = at r i in let l = ltb-false n t isnt in omega arith)))

-- a stream from a later cursor on is what is high of the longer one
stream_high : (p : List Effect) (span : Span) (c n m : ℕ) → c ≤ n → high_rows n (stream_of p span c m) ≡ stream_of p span n m
stream_high p span c n zero low = refl
stream_high p span c n (suc t) low =
    let one = txn_high p span n (suc t) in grind (arith, common_steps, nat_tests, filter-append, stream_high p span c n t low)

pub goes_on : (p : List Effect) (feed next : Feed) (n m : ℕ) → feed.cursor ≤ n → GoesOn feed next n → list_of p next m ≡ high_rows n (list_of p feed m)
goes_on p feed next n m from goes = next_list p feed next n m goes ∙ sym (
    filter-append (λ (r : Row). nat_lt n r.ts) (first_rows feed.kind p feed.span feed.cursor) (stream_of p feed.span feed.cursor m)
    ∙ ap (λ l. l ++ high_rows n (stream_of p feed.span feed.cursor m)) (none_high n (first_rows feed.kind p feed.span feed.cursor) (λ r i. let f = (in_first feed.kind p feed.span feed.cursor r).0 i in omega (arith, f.1.at)))
    ∙ stream_high p feed.span feed.cursor n m from)

-- one of the rows is of the key
abbrev has_row : List ℕ → List Row → Bool
has_row x [] = false
has_row x (r ∷ rows) = bytes_eq r.key x || has_row x rows

-- rows of other keys leave a key's value
others_leave : (m : Map) (rows : List Row) (x : List ℕ) → has_row x rows ≡ false → by_rows m rows x ≡ m x
others_leave m [] x none = refl
others_leave m (r ∷ rows) x none = grind (arith, common_steps, others_leave (put m r.key r.after) rows x)

-- and what was there before a row of the key doesn't matter
row_decides : (m n : Map) (rows : List Row) (x : List ℕ) → has_row x rows ≡ true → by_rows m rows x ≡ by_rows n rows x
row_decides m n [] x some = cc
row_decides m n (r ∷ rows) x some = grind (arith, common_steps, others_leave, row_decides (put m r.key r.after) (put n r.key r.after) rows x)

has_row_in : (x : List ℕ) (r : Row) (rows : List Row) → IsRowIn r rows → has_row x rows ≡ false → bytes_eq r.key x ≡ false
has_row_in x r [] i none = absurd i
has_row_in x r (s ∷ rows) i none = grind (arith, common_steps, has_row_in x r rows)

fewer_rows : (x : List ℕ) (few rows : List Row) → ((r : Row) → IsRowIn r few → IsRowIn r rows) → has_row x rows ≡ false → has_row x few ≡ false
fewer_rows x [] rows among none = refl
fewer_rows x (r ∷ few) rows among none = rw (has_row_in x r rows (among r (inl refl)) none) (fewer_rows x few rows (λ s i. among s (inr i)) none)

-- rows that come again do no harm
repeated : (m : Map) (few rows : List Row) (x : List ℕ) → ((r : Row) → IsRowIn r few → IsRowIn r rows) → by_rows (by_rows m few) rows x ≡ by_rows m rows x
repeated m few rows x among = grind (arith, common_steps, by_test, row_decides, by_rows, others_leave, fewer_rows)

in_high : (n : ℕ) (rows : List Row) (r : Row) → IsRowIn r (high_rows n rows) → IsRowIn r rows × (n < r.ts)
in_high n [] r i = absurd i
in_high n (s ∷ rows) r i = grind (arith, common_steps, in_high n rows r)

pub repeats : (p : List Effect) (f : ℕ) (feed : Feed) (before rest : List Message) (n : ℕ) → FeedIsRight p f feed → AllTaken feed.span (start_of feed) [] (told_to p f)
    → told_to p f ≡ before ++ rest → floor_after (start_of feed) before ≡ n → feed.cursor ≤ n
    → (g : ℕ) (next : Feed) → FeedIsRight p g next → GoesOn feed next n → (again later : List Message) (t : ℕ) → told_to p g ≡ again ++ messages.Resolved t ∷ later
    → (x : List ℕ) → view_of (seen_after p feed before) again x ≡ span_part feed.span (map_at p t) x
repeats p f feed before rest n right takes told floor from g next goes_right goes again later t told_again x =
    let seed : Map = seed_of feed.kind p feed.span feed.cursor in
    let far : ℕ = max n (closed_of p) in
    let split = split_list p f feed before rest far right told (omega arith) in
    let rises : RisingRows (rows_in before) = (rises_parts (rows_in before) (rows_in rest ++ split.0) (subst RisingRows split.1 (list_rises p feed far))).0 in
    let high : List Row = high_rows n (rows_in before) in
    let low : list_of p feed n ≡ low_rows n (rows_in before) = told_low p f feed before rest n right told floor from in
    let rising : ResolvedRise (start_of next) (told_to p g) = apart_rises (least_gap next.kind) (start_of next) (told_to p g) (some_gap next.kind) goes_right.apart in
    let above : start_of next < t = rises_at (start_of next) again later t (subst (ResolvedRise (start_of next)) told_again rising) in
    let past : n < t = subst (λ k. k < t) goes.start above in
    let rows_again : rows_in again ≡ stream_of p feed.span n t = divides_at p next [] again later t (subst (DividesList p next []) told_again goes_right.divides) ∙ next_list p feed next n t goes in
    let among : (r : Row) → IsRowIn r high → IsRowIn r (stream_of p feed.span n t) = λ r i.
    let h = in_high n (rows_in before) r i in
    let near : r.ts ≤ suc (floor_after (start_of feed) before) = row_near_floor feed.span (start_of feed) [] before r (taken_before feed.span (start_of feed) [] before rest (subst (AllTaken feed.span (start_of feed) []) told takes)) h.0 in
    let listed = (in_list p feed far r).0 (subst (IsRowIn r) (sym split.1) ((in_append r (rows_in before) (rows_in rest ++ split.0)).1 (inl h.0))) in
    grind (arith, common_steps, in_stream) in
    let seen : (y : List ℕ) → seen_after p feed before y ≡ by_rows (by_rows seed (list_of p feed n)) high y = λ y.
    ap (λ m. m y) (view_rows seed before ∙ ap (by_rows seed) (low_then_high n (rows_in before) rises ∙ ap (λ l. l ++ high) (sym low)) ∙ by_rows_join seed (list_of p feed n) high) in
    ap (λ m. m x) (view_rows (seen_after p feed before) again)
    ∙ ap (λ rs. by_rows (seen_after p feed before) rs x) rows_again
    ∙ by_rows_like (seen_after p feed before) (by_rows (by_rows seed (list_of p feed n)) high) (stream_of p feed.span n t) x seen
    ∙ repeated (by_rows seed (list_of p feed n)) high (stream_of p feed.span n t) x among
    ∙ by_rows_like (by_rows seed (list_of p feed n)) (span_part feed.span (map_at p n)) (stream_of p feed.span n t) x (λ y. list_views p feed n y from)
    ∙ streamed p feed.span n t x (omega arith)

-- consumers of a feed are right about how far they are complete
pub complete_is_right : (p : List Effect) (f : ℕ) (feed : Feed) → FeedIsRight p f feed → AllTaken feed.span (start_of feed) [] (told_to p f) → ((g : ℕ) (next : Feed) → feed_of p g ≡ Some next → FeedIsRight p g next)
    → CompleteIsRight p f feed
complete_is_right p f feed right takes others = record {
  above = λ before rest n told is. let at = complete_is (start_of feed) feed.cursor n before is in
      subst (λ k. AllAbove k rest) at.0 (all_above_floor feed.span (start_of feed) before rest (taken_after feed.span (start_of feed) [] before rest (subst (AllTaken feed.span (start_of feed) []) told takes)));
  told = λ before rest n told is. let at = complete_is (start_of feed) feed.cursor n before is in told_low p f feed before rest n right told at.0 at.1;
  ready = λ before rest r told new. ready_view p f feed before rest r right told new;
  goes_on = λ next n m from goes. goes_on p feed next n m from goes;
  repeats = λ before rest n told is g next opened goes again later t told_again. let at = complete_is (start_of feed) feed.cursor n before is in
      repeats p f feed before rest n right takes told at.0 at.1 g next (others g next opened) goes again later t told_again;
}
