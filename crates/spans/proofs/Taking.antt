-- A consumer takes every message that a feed tells.
use Rattle.std.proofs.Common.{◌≡◌, ℕ, ◌≤◌, true, List, [], ◌∷◌, ◌++◌, Option, Some, None, refl, sym, ◌∙◌, ap, subst, inl, inr, arith, append_assoc}
use Rattle.std.specs.Prelude.{max}
use Rattle.spans.proofs.Common.{common_steps, Row, append-nil, filter_map-append, le-leb, lt-ltb}
use Rattle.spans.specs.declared.calls.messages.Message.{Message}
use Rattle.spans.specs.declared.calls.messages.Message.TheVariants as messages
use Rattle.spans.specs.Effects.{Effect}
use Rattle.spans.specs.Transactions.{closed_of}
use Rattle.spans.specs.Streams.{row_lt}
use Rattle.spans.specs.Feeds.{Feed, told_to, row_in, rows_in, last_resolved, list_of, start_of}
use Rattle.spans.specs.FeedRight.{DividesList}
use Rattle.spans.specs.Consumer.{last_row, is_after, reaches, apply_fault, AllTaken}
use Rattle.spans.proofs.StreamOrder.{IsRowIn, RisingRows, rises_parts, in_append}
use Rattle.spans.proofs.Streaming.{RowsAbove}
use Rattle.spans.proofs.Listing.{in_list, list_rises, listed_inside, listed_above, listed_low}
use Rattle.spans.proofs.Feeding.{rest_past, AllBelow, resolved_join, ResolvedRise}

after_all : (taken : List Message) (o : Option Row) (r : Row) → is_after o r ≡ true → ((s : Row) → IsRowIn s (rows_in taken) → row_lt s r ≡ true) → is_after (last_row o taken) r ≡ true
after_all [] o r e before = e
after_all (messages.Row s ∷ ms) o r e before = after_all ms (Some s) r (before s (inl refl)) (λ q i. before q (inr i))
after_all (messages.Resolved t ∷ ms) o r e before = after_all ms o r e before

pub reaches_all : (taken : List Message) (o : Option Row) (t : ℕ) → reaches o t ≡ true → ((s : Row) → IsRowIn s (rows_in taken) → s.ts ≤ t)
    → reaches (last_row o taken) t ≡ true
reaches_all [] o t e low = e
reaches_all (messages.Row s ∷ ms) o t e low = reaches_all ms (Some s) t (le-leb s.ts t (low s (inl refl))) (λ q i. low q (inr i))
reaches_all (messages.Resolved n ∷ ms) o t e low = reaches_all ms o t e low

-- the last resolved timestamp is at or above where it began
pub resolved_grows : (n : ℕ) (ms : List Message) → n ≤ last_resolved n ms
resolved_grows n [] = omega arith
resolved_grows n (messages.Row r ∷ ms) = resolved_grows n ms
resolved_grows n (messages.Resolved t ∷ ms) = omega (arith, resolved_grows (max n t) ms)

-- the messages ms of a feed are taken after those before them, where rest are the rows that aren't told yet
pub taken_all : (p : List Effect) (feed : Feed) (taken : List Message) (told : List Row) (n : ℕ) (ms : List Message) (rest : List Row)
    → rows_in taken ≡ told → last_resolved (start_of feed) taken ≡ n → told ++ (rows_in ms ++ rest) ≡ list_of p feed (closed_of p)
    → DividesList p feed told ms → ResolvedRise n ms
    → AllBelow (closed_of p) ms → RowsAbove n (rows_in ms ++ rest) → AllTaken feed.span (start_of feed) taken ms
taken_all p feed taken told n [] rest rows last is divides rises below above = tt
taken_all p feed taken told n (messages.Row r ∷ ms) rest rows last is divides rises below above = (
  row_taken,
  taken_all p feed (taken ++ messages.Row r ∷ []) (told ++ r ∷ []) n ms rest (filter_map-append row_in taken (messages.Row r ∷ [])
      ∙ ap (λ l. l ++ r ∷ []) rows) (resolved_join (start_of feed) taken (messages.Row r ∷ []) ∙ last)
      (append_assoc told (r ∷ []) (rows_in ms ++ rest) ∙ is) divides rises below above.1,
)
  where
    row_taken : apply_fault feed.span (start_of feed) taken (messages.Row r) ≡ None
    row_taken =
        let before = (rises_parts told (r ∷ (rows_in ms ++ rest)) (subst RisingRows (sym is) (list_rises p feed (closed_of p)))).2 in
        let later : is_after (last_row None taken) r ≡ true = after_all taken None r refl (λ s i. before s r (subst (IsRowIn s) rows i) (inl refl)) in
        let inside = listed_inside p feed (closed_of p) r ((in_list p feed (closed_of p) r).0 (subst (IsRowIn r) is ((in_append r told (r ∷ (rows_in ms ++ rest))).1 (inr (inl refl))))) in
        rw (last, lt-ltb _ _ above.0, later, inside) refl
taken_all p feed taken told n (messages.Resolved t ∷ ms) rest rows last is divides rises below above = (
  resolved_taken,
  taken_all p feed (taken ++ messages.Resolved t ∷ []) told t ms rest (filter_map-append row_in taken (messages.Resolved t ∷ [])
      ∙ append-nil (rows_in taken) ∙ rows) (grind (arith, common_steps, resolved_join)) is divides.1 rises.1 below.1
      (rest_past p feed t (rows_in ms ++ rest) below.0 (ap (λ l. l ++ (rows_in ms ++ rest)) (sym divides.0) ∙ is)),
)
  where
    resolved_taken : apply_fault feed.span (start_of feed) taken (messages.Resolved t) ≡ None
    resolved_taken =
        let from : start_of feed ≤ last_resolved (start_of feed) taken = resolved_grows (start_of feed) taken in
        let reached = reaches_all taken None t refl (λ s i. listed_low p feed t s (omega (arith, rises.0)) ((in_list p feed t s).0 (subst (IsRowIn s) (rows ∙ divides.0) i))) in
        rw (last, lt-ltb _ _ rises.0, reached) refl

above_start : (p : List Effect) (feed : Feed) (n : ℕ) (rows : List Row) → ((r : Row) → IsRowIn r rows → IsRowIn r (list_of p feed n)) → RowsAbove (start_of feed) rows
above_start p feed n [] among = tt
above_start p feed n (r ∷ rows) among = (listed_above p feed n r ((in_list p feed n r).0 (among r (inl refl))), above_start p feed n rows (λ s i. among s (inr i)))

-- all messages that a feed told are taken
pub told_taken : (p : List Effect) (f : ℕ) (feed : Feed) (rest : List Row) → list_of p feed (closed_of p) ≡ rows_in (told_to p f) ++ rest
    → DividesList p feed [] (told_to p f) → ResolvedRise (start_of feed) (told_to p f) → AllBelow (closed_of p) (told_to p f) → AllTaken feed.span (start_of feed) [] (told_to p f)
told_taken p f feed rest is divides rises below =
    taken_all p feed [] [] (start_of feed) (told_to p f) rest refl refl (sym is) divides rises below
    (above_start p feed (closed_of p) (rows_in (told_to p f) ++ rest) (λ r i. subst (IsRowIn r) (sym is) i))
