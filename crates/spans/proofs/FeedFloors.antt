-- The horizon is at or below the floor of each live feed.
pub use Rattle.spans.proofs.Floors.{floor_append}
use Rattle.spans.proofs.Floors.{floor_below}
use Rattle.spans.proofs.Members.{has_filter}
use Rattle.spans.proofs.Common.{Row, common_steps, eqb-true, nat_tests}
use Rattle.std.proofs.Common.{rules, Bool, List, not, inr, refl, None, arith, subst, suc, false, ap, true, zero, Some, inl, sym, take, map, ◌≡◌, ◌<◌, ◌≤◌, ◌==◌, ◌-◌, ◌∷◌, ◌++◌, ◌∙◌, append_assoc, ℕ, []}
use Rattle.std.specs.Prelude.{max}
use Rattle.spans.specs.Collection.{horizon_of, live_feeds, live_feed, LiveFeed, floor_after, floor_of}
use Rattle.spans.specs.Effects.{Collects, Opens, Polls, Cancels, Effect}
use Rattle.spans.specs.FeedRight.{DividesList}
use Rattle.spans.specs.Feeds.{feeds_opened, list_of, told_to, rows_in, due_message, Feed, feed_of, is_cancelled, last_resolved, start_of, resolved_of, is_due}
use Rattle.spans.specs.Transactions.{closed_of, least_of}
use Rattle.spans.specs.declared.calls.messages.Message.{Message}
use Rattle.spans.proofs.Copies.{AllAllowed}
use Rattle.spans.proofs.Feeding.{polled, rest_past, untold_is, unopened, uncancelled, feeding, IsFeeding, AllBelow, due_if}
use Rattle.spans.proofs.RowOrder.{row_order}
use Rattle.spans.proofs.Steps.{by_test}
use Rattle.spans.proofs.Listing.{IsListed, in_list, list_rises, listed_above, start_low, start_next}
use Rattle.spans.proofs.StreamOrder.{RisingRows, IsRowIn, in_append, rises_parts}
use Rattle.spans.proofs.Taking.{reaches_all}
use Rattle.spans.proofs.Complete.{in_above}
use Rattle.spans.proofs.Horizon.{horizon_low}
use Rattle.spans.specs.Keys.{Has}
use Rattle.spans.specs.declared.calls.messages.Message.TheVariants as messages

-- what wasn't told is above the resolved messages
pub rest_above : (p : List Effect) (feed : Feed) (n : ℕ) (before rest : List Row) (ms : List Message) → before ++ (rows_in ms ++ rest) ≡ list_of p feed (closed_of p) → DividesList p feed before ms → AllBelow (closed_of p) ms
    → (r : Row) → IsRowIn r rest → n < r.ts → last_resolved n ms < r.ts
rest_above p feed n before rest [] is h below r i low = low
rest_above p feed n before rest (messages.Row s ∷ ms) is h below r i low = rest_above p feed n (before ++ s ∷ []) rest ms (append_assoc before (s ∷ []) (rows_in ms ++ rest) ∙ is) h below r i low
rest_above p feed n before rest (messages.Resolved t ∷ ms) is h below r i low =
    let above = in_above t (rows_in ms ++ rest) r (rest_past p feed t (rows_in ms ++ rest) below.0 (ap (λ l. l ++ (rows_in ms ++ rest)) (sym h.0)
    ∙ is)) ((in_append r (rows_in ms) rest).1 (inr i)) in
    rest_above p feed (max n t) before rest ms is h.1 below.1 r i (omega arith)

-- from the cursor on, a floor that begins at or below it is the same
pub floor_from : (c a : ℕ) (ms : List Message) → a ≤ c → max c (floor_after c ms) ≡ max c (floor_after a ms)
floor_from c a [] low = omega arith
floor_from c a (messages.Row r ∷ ms) low = refl
floor_from c a (messages.Resolved t ∷ ms) low = refl

-- each row that wasn't told is at or above the floor, and above it where it is above the cursor
pub rest_high : (p : List Effect) (f : ℕ) (feed : Feed) (h : IsFeeding p f feed) (r : Row) → IsRowIn r h.begins.0
    → (max feed.cursor (floor_after feed.cursor (told_to p f)) ≤ r.ts) × (feed.cursor < r.ts → max feed.cursor (floor_after feed.cursor (told_to p f)) < r.ts)
rest_high p f feed h r i =
    let parts = rises_parts (rows_in (told_to p f)) h.begins.0 (subst RisingRows h.begins.1 (list_rises p feed (closed_of p))) in
    let s : IsListed p feed (closed_of p) r = (in_list p feed (closed_of p) r).0 (subst (IsRowIn r) (sym h.begins.1) ((in_append r (rows_in (told_to p f)) h.begins.0).1 (inr i))) in
    let above : start_of feed < r.ts = listed_above p feed (closed_of p) r s in
    let from : feed.cursor ≤ r.ts = start_next feed.kind feed.cursor r.ts above in
    let same = floor_from feed.cursor (start_of feed) (told_to p f) (start_low feed.kind feed.cursor) in
    let under : floor_after (start_of feed) (told_to p f) < r.ts = floor_below (start_of feed) (told_to p f) r.ts
    (rest_above p feed (start_of feed) [] h.begins.0 (told_to p f) (sym h.begins.1) h.divides h.below r i above) (reaches_all (told_to p f) None r.ts refl (λ q j. row_order q r (parts.2 q r j i))) in
    (omega (arith, same, under, from), λ more. omega (arith, same, under, more))

-- messages of rows at or above a number and of a resolved timestamp at or above it leave the floor there, where rows of the
-- cursor leave it at the cursor
floor_high : (h s n c m : ℕ) (b : Bool) (rows : List Row) → h ≤ max s n → h ≤ c → ((r : Row) → IsRowIn r rows → h ≤ max s (r.ts - 1)) → h ≤ max s (floor_after n (take m (map messages.Row rows ++ due_if b c)))
floor_high h s n c zero b rows low top high = low
floor_high h s n c (suc m) true [] low top high = grind (arith, common_steps)
floor_high h s n c (suc m) false [] low top high = low
floor_high h s n c (suc m) b (r ∷ rows) low top high = floor_high h s (r.ts - 1) c m b rows (high r (inl refl)) top (λ q i. high q (inr i))

-- a feed that lives is listed
pub is_live : (p : List Effect) (f : ℕ) (feed : Feed) → feed_of p f ≡ Some feed → is_cancelled p f ≡ false → Has (live_feed f feed.cursor) (live_feeds p)
is_live [] f feed is live = cc
is_live (Opens g seat kind span cursor ∷ p) f feed is live = grind (arith, common_steps, is_live p f feed)
is_live (Cancels g ∷ p) f feed is live = grind (arith, common_steps, nat_tests, has_filter, is_live p f feed is)
is_live (_ ∷ p) f feed is live = is_live p f feed is live

-- the least is at or below the floor of each listed feed
least_floor : (p : List Effect) (n f c : ℕ) (ns : List ℕ) (ws : List LiveFeed) → Has (live_feed f c) ws → least_of n (ns ++ map (floor_of p) ws) ≤ max c (floor_after c (told_to p f))
least_floor p n f c [] [] i = absurd i
least_floor p n f c [] (w ∷ ws) i = search (least_floor p n f c [] ws, rules, arith)
least_floor p n f c (a ∷ ns) ws i = let more = least_floor p n f c ns ws i in omega arith

-- the horizon is at or below the floor of each live feed
pub floors_high : (p : List Effect) → AllAllowed p → (f : ℕ) (feed : Feed) → feed_of p f ≡ Some feed → is_cancelled p f ≡ false → horizon_of p ≤ max feed.cursor (floor_after feed.cursor (told_to p f))
floors_high [] all f feed is live = cc
floors_high (Opens g seat kind span cursor ∷ p) all f feed is live = grind (arith, common_steps, floors_high p all.1 f feed)
floors_high (Cancels g ∷ p) all f feed is live = grind (arith, common_steps, floors_high p all.1 f feed is)
floors_high (Collects n ∷ p) all f feed is live = grind (arith, common_steps, least_floor, is_live, floors_high p all.1 f feed is live)
floors_high (Polls g m ms ∷ p) all f feed is live = by_test (g == f)
    (λ same.
    let before : horizon_of p ≤ max feed.cursor (floor_after feed.cursor (told_to p f)) = floors_high p all.1 f feed is live in
    let h = feeding p all.1 f feed is in
    let next : ms ≡ take m (map messages.Row h.begins.0 ++ due_message p f feed) = (polled p f g m ms feed all.0 (eqb-true g f same) is).0
    ∙ ap (λ l. take m (map messages.Row l ++ due_message p f feed)) (untold_is p f feed h.begins.0 h.begins.1) in
    let high = floor_high (horizon_of p) feed.cursor (floor_after feed.cursor (told_to p f)) (closed_of p) m (is_due feed.kind (resolved_of p f feed) (closed_of p)) h.begins.0 before (horizon_low p all.1)
    (λ r i. let l = rest_high p f feed h r i in grind (arith, common_steps, nat_tests)) in
    rw same (subst (λ n. horizon_of p ≤ max feed.cursor n) (sym (floor_append feed.cursor (told_to p f) ms)) (subst (λ l. horizon_of p ≤ max feed.cursor (floor_after (floor_after feed.cursor (told_to p f)) l)) (sym next) high)))
    (λ other. rw other (floors_high p all.1 f feed is live))
floors_high (_ ∷ p) all f feed is live = floors_high p all.1 f feed is live

-- a feed that is listed lives
pub live_is : (p : List Effect) → AllAllowed p → (f c : ℕ) → Has (live_feed f c) (live_feeds p) → (feed : Feed) × (feed_of p f ≡ Some feed) × (is_cancelled p f ≡ false) × (feed.cursor ≡ c)
live_is [] all f c i = absurd i
live_is (Opens g seat kind span cursor ∷ p) all f c i = by_test (g == f)
    (λ same.
    let e : g ≡ f = eqb-true g f same in
    let above : feeds_opened p < f = omega (arith, all.0.0) in
    elim i [
      | inl here ↦ (record { seat = seat; kind = kind; span = span; cursor = cursor }, rw same refl, uncancelled p all.1 f above, ap (λ (n : LiveFeed). n.cursor) here)
      | inr there ↦ absurd (let was = live_is p all.1 f c there in let no : None ≡ Some was.0 = sym (unopened p all.1 f above).0 ∙ was.1 in cc)
    ])
    (λ other. grind (arith, common_steps, live_is p all.1 f c))
live_is (Cancels g ∷ p) all f c i =
    let k = (has_filter (λ (n : LiveFeed). not (n.number == g)) (live_feed f c) (live_feeds p)).0 i in
    let was = live_is p all.1 f c k.1 in (was.0, was.1, grind (arith, common_steps, nat_tests), was.3)
live_is (_ ∷ p) all f c i = live_is p all.1 f c i

-- each live feed's floor is at or above the horizon
pub live_floor_high : (p : List Effect) → AllAllowed p → (w : LiveFeed) → Has w (live_feeds p) → horizon_of p ≤ floor_of p w
live_floor_high p all w i = let l = live_is p all w.number w.cursor i in grind (arith, common_steps, floors_high)
