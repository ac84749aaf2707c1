-- What is left to tell, from what is kept.
use Rattle.std.proofs.lemmas.Grind.{common_steps}
use Rattle.std.proofs.Common.{List, Some, ap, arith, false, inl, inr, map, subst, sym, take, true, ℕ, ◌++◌, ◌<◌, ◌∙◌, ◌≡◌, ◌≤◌}
use Rattle.kept.proofs.Common.{AllAllowed, Effect, Feed, IsKeptOf, Kept, Place, Row, and_parts, closed_of, due_if, due_message, feed_of, feeding, floors_high, horizon_of, is_cancelled, is_committed, is_due, kept_version, ltb-true, map_at_is, name_order, newest, next_messages, not_both, place_with, resolved_of, untold_is, untold_rows, version_wrote}
use Rattle.std.specs.Prelude.{max}
use Rattle.spans.specs.Serial.{map_at}
use Rattle.kept.specs.Places.{AreLeft, is_beyond, place_floor}
use Rattle.kept.proofs.Dead.{kept_above, kept_is}
use Rattle.kept.proofs.Floors.{place_floor_is}
use Rattle.kept.proofs.Reading.{settled_is}
use Rattle.kept.proofs.Untold.{beyond_is, only_rows}
use Rattle.spans.specs.declared.calls.messages.Message.TheVariants as messages

-- a row beyond a place, from the cursor on, is at or above the place's floor, and above it where it is above the cursor
beyond_high : (place : Place) (r : Row) → place.cursor ≤ r.ts → is_beyond place r ≡ true → (place_floor place ≤ r.ts) × (place.cursor < r.ts → place_floor place < r.ts)
beyond_high place r from later = grind (arith, common_steps, and_parts, ltb-true, name_order)

-- the horizon is at or below the floor of a live feed's place
horizon_under : (p : List Effect) → AllAllowed p → (f : ℕ) (feed : Feed) → feed_of p f ≡ Some feed → is_cancelled p f ≡ false → horizon_of p ≤ place_floor (place_with p f feed)
horizon_under p all f feed is live = let g = floors_high p all f feed is live in omega (arith, place_floor_is p all f feed is)

-- what is found at a cursor between horizon and closed is the map's
found_is : (k : Kept) (p : List Effect) → AllAllowed p → IsKeptOf k p → (x : List ℕ) (c : ℕ) → horizon_of p ≤ c → c ≤ closed_of p → (newest (k.version x) c).after ≡ map_at p c x
found_is k p all fits x c high low = settled_is k p fits all x c high low ∙ sym (map_at_is p c x)

-- the rows that a live feed was not told are those that are left for it
pub left_are : (k : Kept) (p : List Effect) → AllAllowed p → IsKeptOf k p → (f : ℕ) (feed : Feed) → feed_of p f ≡ Some feed → is_cancelled p f ≡ false → AreLeft k.version k.committed (place_with p f feed) (closed_of p) (untold_rows p f feed)
left_are k p all fits f feed is live =
    let h = feeding p all f feed is in
    let u = beyond_is p all f feed is h in
    let under : horizon_of p ≤ place_floor (place_with p f feed) = horizon_under p all f feed is live in
    subst (AreLeft k.version k.committed (place_with p f feed) (closed_of p)) (sym (untold_is p f feed h.begins.0 h.begins.1)) (record {
      rising = u.0;
      each = λ r. (
        λ i. let s = (u.1 r).0 i in elim s.0 [
          | inl first ↦ (let b = beyond_high (place_with p f feed) r (omega (arith, first.1.at)) s.1 in
              let found = found_is k p all fits r.key feed.cursor (omega (arith, under, b.0, first.1.at)) (h.settled first.0) in inl (grind (arith, common_steps)))
          | inr streamed ↦ (
              let b = beyond_high (place_with p f feed) r (omega (arith, streamed.above)) s.1 in
              let over = b.1 streamed.above in
              let high : horizon_of p < r.ts = omega (arith, under, over) in
              let there : k.version r.key r.ts ≡ Some r.after = fits.versions r.key r.ts ∙ kept_above p r.key r.ts high ∙ (rw (not_both p all r.ts streamed.done) streamed.wrote) in
              inr (record { there = there; done = fits.committed r.key r.ts r.after there ∙ streamed.done; inside = streamed.inside; above = streamed.above; later = s.1; low = streamed.low }))
        ],
        λ i. elim i [
          | inl s ↦ (
              let b = beyond_high (place_with p f feed) r (omega (arith, s.at)) s.later in
              let after : resolved_of p f feed < r.ts = ltb-true _ _ (and_parts _ _ s.later).0 in
              let has : map_at p feed.cursor r.key ≡ r.after = sym (found_is k p all fits r.key feed.cursor (omega (arith, under, b.0, s.at)) (h.settled s.initial)) ∙ s.found in
              (u.1 r).1 (inl (s.initial, record { at = s.at; some = omega (arith, after, s.at); inside = s.inside; has = has; value = s.value }), s.later))
          | inr s ↦ (
              let there : kept_version p r.key r.ts ≡ Some r.after = sym (fits.versions r.key r.ts) ∙ s.there in
              let done : is_committed p r.ts ≡ true = sym (fits.committed r.key r.ts r.after s.there) ∙ s.done in
              (u.1 r).1 (
                inr (record { above = s.above; low = s.low; done = done; inside = s.inside; wrote = (version_wrote p r.key r.ts r.after (kept_is p r.key r.ts r.after there)).1 }),
                s.later,
              ))
        ],
      );
    })

-- and no other rows are
pub left_is : (k : Kept) (p : List Effect) → AllAllowed p → IsKeptOf k p → (f : ℕ) (feed : Feed) → feed_of p f ≡ Some feed → is_cancelled p f ≡ false → (rows : List Row)
    → AreLeft k.version k.committed (place_with p f feed) (closed_of p) rows → rows ≡ untold_rows p f feed
left_is k p all fits f feed is live rows left = let all_left = left_are k p all fits f feed is live in
    only_rows rows (untold_rows p f feed) left.rising all_left.rising (λ r. (λ i. (all_left.each r).1 ((left.each r).0 i), λ i. (left.each r).1 ((all_left.each r).0 i)))

-- so a poll's messages come of the store and the feed's place
pub poll_is : (k : Kept) (p : List Effect) → AllAllowed p → IsKeptOf k p → (f max : ℕ) (feed : Feed) → feed_of p f ≡ Some feed → is_cancelled p f ≡ false → (rows : List Row)
    → AreLeft k.version k.committed (place_with p f feed) k.closed rows
    → take max (map messages.Row rows ++ due_if (is_due feed.kind (place_with p f feed).after k.closed) k.closed) ≡ next_messages p f feed max
poll_is k p all fits f max feed is live rows left = rw fits.closed_at
    (let left' : AreLeft k.version k.committed (place_with p f feed) (closed_of p) rows = subst (λ n. AreLeft k.version k.committed (place_with p f feed) n rows) fits.closed_at left in
    ap (λ l. take max (map messages.Row l ++ due_message p f feed)) (left_is k p all fits f feed is live rows left'))
