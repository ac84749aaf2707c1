-- Each message that a feed tells has a text: its timestamp is in range, and its key and value were written.
use Rattle.std.proofs.Common.{◌≡◌, ℕ, ◌≤◌, ◌<◌, Bool, true, not, List, [], ◌∷◌, ◌++◌, map, Some, None, sym, ◌∙◌, subst, inl, inr, arith}
use Rattle.std.specs.Prelude.{is_some}
use Rattle.pipes.proofs.Common.{After, All, All-append, All-cons, All-filter, All-map, All-nil, All-take, AllAllowed, AllByRecursion, Effect, Feed, Format, Has, IsAfter, IsIn, IsMessage, MAX, Row, by_test, closed_of, committed_value, due_message, feed_of, is_due, list_any, list_of, map_at_is, next_messages, resolved_of, rows_in, same_version, settled_in, told_to, untold_rows, written_keys}
use Rattle.spans.specs.declared.calls.messages.Message.TheVariants as messages
use Rattle.spans.proofs.Feeding.{due_above, feeding}
use Rattle.spans.proofs.Listing.{IsListed, IsScanned, IsSettled, in_list}
use Rattle.spans.proofs.Members.{all_of}
use Rattle.spans.proofs.StreamOrder.{IsRowIn, IsStreamed}
use Rattle.pipes.proofs.Written.{KeepsWrite, committed_keeps, key_keeps, wrote_keeps}

has_row : (r : Row) (rows : List Row) → Has r rows → IsRowIn r rows
has_row r [] i = absurd i
has_row r (s ∷ rows) i = elim i [ inl here ↦ inl here | inr there ↦ inr (has_row r rows there) ]

module _ (format : Format) where
  -- a row that has a line
  abbrev IsRow : Row → Type 0
  IsRow r = IsMessage format (messages.Row r)

  -- a row of the stream
  streamed_is : (p : List Effect) (feed : Feed) (r : Row) → closed_of p ≤ MAX → AllByRecursion (KeepsWrite format) p → IsStreamed p feed.span feed.cursor (closed_of p) r → IsRow r
  streamed_is p feed r low keeps s =
      let wrote = wrote_keeps format p keeps r.ts r.key r.after s.wrote in
      ((omega (arith, s.above), omega (arith, s.low)), wrote.0, wrote.1)

  -- a row of the map at the cursor of an initial feed
  scanned_is : (p : List Effect) (feed : Feed) (r : Row) → closed_of p ≤ MAX → AllByRecursion (KeepsWrite format) p → feed.cursor ≤ closed_of p → IsScanned p feed.span feed.cursor r → IsRow r
  scanned_is p feed r low keeps settled s =
      let found : committed_value p r.key feed.cursor ≡ r.after = sym (map_at_is p feed.cursor r.key) ∙ s.has in
      ((omega (arith, s.at, s.some), omega (arith, s.at)), key_keeps format p keeps r.key (key_in r.after found s.value), subst (IsAfter format) found (committed_keeps format p keeps r.key feed.cursor))
    where
      key_in : (a : After) → committed_value p r.key feed.cursor ≡ a → is_some a ≡ true → IsIn r.key (written_keys p)
      key_in None e is = absurd cc
      key_in (Some v) e is = settled_in p r.key feed.cursor v e

  listed_is : (p : List Effect) (feed : Feed) (r : Row) → closed_of p ≤ MAX → AllByRecursion (KeepsWrite format) p → IsSettled p feed → IsListed p feed (closed_of p) r → IsRow r
  listed_is p feed r low keeps settled i = elim i [
    | inl first ↦ scanned_is p feed r low keeps (settled first.0) first.1
    | inr later ↦ streamed_is p feed r low keeps later
  ]

  -- the rows of a feed's list, as far as closed
  list_is : (p : List Effect) (feed : Feed) → closed_of p ≤ MAX → AllByRecursion (KeepsWrite format) p → IsSettled p feed → All IsRow (list_of p feed (closed_of p))
  list_is p feed low keeps settled =
      let rows : List Row = list_of p feed (closed_of p) in
      all_of IsRow rows (λ r i. listed_is p feed r low keeps settled ((in_list p feed (closed_of p) r).0 (has_row r rows i)))

  -- the resolved message that is due
  due_is : (p : List Effect) (f : ℕ) (feed : Feed) → closed_of p ≤ MAX → All (IsMessage format) (due_message p f feed)
  due_is p f feed low = by_test (is_due feed.kind (resolved_of p f feed) (closed_of p))
      (λ due. let above : resolved_of p f feed < closed_of p = due_above feed.kind (resolved_of p f feed) (closed_of p) due in
      rw due (All-cons (IsMessage format) (messages.Resolved (closed_of p)) [] (omega (arith, above), low) (All-nil (IsMessage format))))
      (λ none. rw none (All-nil (IsMessage format)))

  -- the messages that a poll is answered
  pub next_are : (p : List Effect) → AllAllowed p → closed_of p ≤ MAX → AllByRecursion (KeepsWrite format) p → (f most : ℕ) (feed : Feed) → feed_of p f ≡ Some feed → All (IsMessage format) (next_messages p f feed most)
  next_are p allowed low keeps f most feed is =
      let untold : Row → Bool = λ r. not (list_any (same_version r) (rows_in (told_to p f))) in
      let rows : List Row = list_of p feed (closed_of p) in
      let told : All (IsMessage format) (map messages.Row (untold_rows p f feed)) = All-map (IsMessage format) messages.Row (untold_rows p f feed) (All-filter untold IsRow rows (list_is p feed low keeps (feeding p allowed f feed is).settled)) in
      All-take (IsMessage format) most (map messages.Row (untold_rows p f feed) ++ due_message p f feed) (All-append (IsMessage format) (map messages.Row (untold_rows p f feed)) (due_message p f feed) told (due_is p f feed low))
