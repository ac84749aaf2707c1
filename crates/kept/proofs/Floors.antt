-- The floor of a feed from its place, and how far a collection goes.
use Rattle.kept.proofs.Common.{AllAllowed, Effect, Feed, Has, IsKeptOf, IsRowIn, Kept, LiveFeed, Message, Place, Protection, ResolvedRise, Row, VersionName, apart_rises, closed_of, collection_horizon, common_steps, fed, feed_of, floor_after, floor_from, floor_of, in_append, in_list, is_cancelled, is_live, last_name, last_resolved, least_join, least_low, least_of, listed_above, listed_low, live_feeds, live_is, name_of, place_with, resolved_of, rows_in, some_gap, start_low, start_of, told_to}
use Rattle.std.proofs.Common.{List, refl, inr, None, Option, arith, map, subst, false, ap, Some, inl, sym, ◌≡◌, ◌<◌, ◌≤◌, ◌-◌, ◌∷◌, ◌++◌, ◌∙◌, ℕ, []}
use Rattle.std.specs.Prelude.{max, min}
use Rattle.spans.specs.FeedRight.{DividesList, RowsFollowResolved, RowsAreAbove, least_gap}
use Rattle.kept.specs.Places.{place_floor, IsLeastFloor, or_min, live_feed, row_floor}
use Rattle.spans.specs.declared.calls.messages.Message.TheVariants as messages

-- the floor after messages is the place's, where the messages are right
floor_is : (p : List Effect) (feed : Feed) (before : List Row) (ms : List Message) (a : ℕ) (o : Option VersionName) → start_of feed ≤ a → DividesList p feed before ms → ResolvedRise a ms → RowsAreAbove a ms → RowsFollowResolved ms
    → ((n : ℕ) → ((r : Row) → IsRowIn r before → r.ts ≤ n) → row_floor o ≤ n) → floor_after (max a (row_floor o)) ms ≡ max (last_resolved a ms) (row_floor (last_name o ms))
floor_is p feed before [] a o from d r b parts last = refl
floor_is p feed before (messages.Row s ∷ ms) a o from d r b parts last =
    let e : max a (s.ts - 1) ≡ s.ts - 1 = omega (arith, b.0) in
    ap (λ n. floor_after n ms) (sym e) ∙ floor_is p feed (before ++ s ∷ []) ms a (Some (name_of s)) from d r b.1 parts (λ n h. let l : s.ts ≤ n = h s ((in_append s before (s ∷ [])).1 (inr (inl refl))) in omega arith)
floor_is p feed before (messages.Resolved t ∷ ms) a o from d r b parts last =
    let low : row_floor o ≤ t = last t (λ q i. listed_low p feed t q (omega (arith, from, r.0)) ((in_list p feed t q).0 (subst (IsRowIn q) d.0 i))) in
    grind (arith, common_steps, floor_is p feed before ms)

-- the rows told are above the start
above_start : (c : ℕ) (ms : List Message) → ((r : Row) → IsRowIn r (rows_in ms) → c < r.ts) → RowsAreAbove c ms
above_start c [] h = tt
above_start c (messages.Row s ∷ ms) h = (h s (inl refl), above_start c ms (λ r i. h r (inr i)))
above_start c (messages.Resolved t ∷ ms) h = above_start c ms h

-- the last message tells through where the place is told
pub told_through_is : (p : List Effect) → AllAllowed p → (f : ℕ) (feed : Feed) → feed_of p f ≡ Some feed → floor_after (start_of feed) (told_to p f) ≡ max (resolved_of p f feed) (row_floor (last_name None (told_to p f)))
told_through_is p all f feed is =
    let h = fed p all f feed is in
    let b = h.begins (closed_of p) (omega arith) in
    let e : max (start_of feed) 0 ≡ start_of feed = omega arith in
    ap (λ n. floor_after n (told_to p f)) (sym e) ∙ floor_is p feed [] (told_to p f) (start_of feed) None (omega arith) h.divides (apart_rises (least_gap feed.kind) (start_of feed) (told_to p f) (some_gap feed.kind) h.apart)
    (above_start (start_of feed) (told_to p f) (λ r i. listed_above p feed (closed_of p) r ((in_list p feed (closed_of p) r).0 (subst (IsRowIn r) (sym b.1) ((in_append r (rows_in (told_to p f)) b.0).1 (inl i))))))
    h.follows (λ n h. omega arith)

-- the floor of a place is the floor of its feed
pub place_floor_is : (p : List Effect) → AllAllowed p → (f : ℕ) (feed : Feed) → feed_of p f ≡ Some feed → place_floor (place_with p f feed) ≡ max feed.cursor (floor_after feed.cursor (told_to p f))
place_floor_is p all f feed is = sym (floor_from feed.cursor (start_of feed) (told_to p f) (start_low feed.kind feed.cursor) ∙ ap (max feed.cursor) (told_through_is p all f feed is))

-- the floors of the feeds
abbrev floors : List Effect → List LiveFeed → List ℕ
floors p ws = map (floor_of p) ws

-- what is at or below each floor is at or below the least
floors_low : (p : List Effect) (n m : ℕ) (ws : List LiveFeed) → m ≤ n → ((f c : ℕ) → Has (live_feed f c) ws → m ≤ max c (floor_after c (told_to p f))) → m ≤ least_of n (floors p ws)
floors_low p n m [] low h = low
floors_low p n m (w ∷ ws) low h = let here : m ≤ floor_of p w = h w.number w.cursor (inl refl) in let more : m ≤ least_of n (floors p ws) = floors_low p n m ws low (λ f c i. h f c (inr i)) in omega arith

-- the least is at or below each floor
floors_top : (p : List Effect) (n f c : ℕ) (ws : List LiveFeed) → Has (live_feed f c) ws → least_of n (floors p ws) ≤ max c (floor_after c (told_to p f))
floors_top p n f c [] i = absurd i
floors_top p n f c (w ∷ ws) i = grind (arith, common_steps, floors_top p n f c ws)

-- the place of a live feed is kept
pub place_at : (k : Kept) (p : List Effect) → IsKeptOf k p → (f : ℕ) (feed : Feed) → feed_of p f ≡ Some feed → is_cancelled p f ≡ false → k.feed f ≡ Some (place_with p f feed)
place_at k p fits f feed is live = fits.feeds f ∙ (rw (live, is) refl)

-- and a place that is kept is that of a live feed
pub placed_by : (k : Kept) (p : List Effect) → IsKeptOf k p → (f : ℕ) (place : Place) → k.feed f ≡ Some place → (feed : Feed) × (feed_of p f ≡ Some feed) × (is_cancelled p f ≡ false) × (place_with p f feed ≡ place)
placed_by k p fits f place at = grind (arith, common_steps, place_at)

-- the least floor of the places is that of the live feeds
pub least_floor_is : (k : Kept) (p : List Effect) → AllAllowed p → IsKeptOf k p → (o : Option ℕ) → IsLeastFloor k.feed o → (n : ℕ) → or_min o n ≡ least_of n (floors p (live_feeds p))
least_floor_is k p all fits None h n = none_left (live_feeds p) (λ f c i. let l = live_is p all f c i in
    (let no : None ≡ Some (place_with p f l.0) = sym (h f) ∙ place_at k p fits f l.0 l.1 l.2 in cc))
  where
    none_left : (ws : List LiveFeed) → ((f c : ℕ) → Has (live_feed f c) ws → ⊥) → n ≡ least_of n (floors p ws)
    none_left [] empty = refl
    none_left (w ∷ ws) empty = absurd (empty w.number w.cursor (inl refl))
least_floor_is k p all fits (Some m) h n =
    let low : min m n ≤ least_of n (floors p (live_feeds p)) = floors_low p n (min m n) (live_feeds p) (omega arith) (λ f c i. let l = live_is p all f c i in
    let b : m ≤ place_floor (place_with p f l.0) = h.1 f (place_with p f l.0) (place_at k p fits f l.0 l.1 l.2) in
    let e : place_floor (place_with p f l.0) ≡ max l.0.cursor (floor_after l.0.cursor (told_to p f)) = place_floor_is p all f l.0 l.1 in
    let e' : max l.0.cursor (floor_after l.0.cursor (told_to p f)) ≡ max c (floor_after c (told_to p f)) = ap (λ a. max a (floor_after a (told_to p f))) l.3 in omega arith) in
    let l = placed_by k p fits h.0.0 h.0.1 h.0.2 in
    let floor : place_floor (place_with p h.0.0 l.0) ≡ m = ap place_floor l.3 ∙ h.0.3 in
    let t = floors_top p n h.0.0 l.0.cursor (live_feeds p) (is_live p h.0.0 l.0 l.1 l.2) in
    let top : least_of n (floors p (live_feeds p)) ≤ m = omega (arith, place_floor_is p all h.0.0 l.0 l.1) in
    let first : least_of n (floors p (live_feeds p)) ≤ n = least_low n (floors p (live_feeds p)) in
    omega arith

-- how far a collection goes
pub horizon_reached : (k : Kept) (p : List Effect) → AllAllowed p → IsKeptOf k p → (to : ℕ) (lp lf : Option ℕ) → ((n : ℕ) → or_min lp n ≡ least_of n (map (λ (n : Protection). n.at) k.protections)) → IsLeastFloor k.feed lf
    → max k.horizon (or_min lp (or_min lf (min to k.closed))) ≡ collection_horizon p to
horizon_reached k p all fits to lp lf hp hf = grind (arith, common_steps, least_floor_is, least_join)
