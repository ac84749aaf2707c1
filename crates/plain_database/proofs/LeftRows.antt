-- The rows that a feed was not told are those of its list that come behind its place.
use Rattle.plain_database.proofs.Common.{After, AllAllowed, Effect, Event, IsRowIn, MAX, RisingRows, Row, Span, VersionName, and_parts, beyond_is, by_test, closed_of, closed_value, common_steps, effects_of, feeding, filter, first_rows, in_span, is_committed, key_lt, legal_allowed, length-map, length-take, list_of, ltb-false, ltb-true, map_at_is, nat_tests, only_rows, pairs_of, start_at, stream_of, told_to, untold_is, untold_rows, visible, write_of, write_set, written_keys}
use Rattle.std.proofs.Common.{◌≡◌, ℕ, zero, suc, ◌-◌, ◌<◌, ◌≤◌, ◌==◌, Bool, true, false, cond, ◌&&◌, ◌||◌, List, [], ◌∷◌, ◌++◌, length, map, take, max, Option, Some, None, refl, sym, ◌∙◌, ap, subst, arith}
use Rattle.std.proofs.lemmas.List.{take-map}
use Rattle.std.proofs.lemmas.List.Elements.{filter-append}
use Rattle.std.specs.Prelude.{◌↔◌, is_some, nat_le, nat_lt}
use Rattle.spans.proofs.Lists.{take_both}
use Rattle.spans.proofs.Listing.{first_none, in_list, list_rises}
use Rattle.spans.proofs.Taking.{resolved_grows}
use Rattle.spans.specs.Consumer.{is_after_name}
use Rattle.spans.specs.Serial.{Map, map_at, span_part}
use Rattle.spans.specs.Streams.{pair_row, rows_of, written_value}
use Rattle.plain_database.specs.FeedTie.{IsRecordOf, feed_part}
use Rattle.plain_database.specs.Streams.{key_above, row_ts, tells_snapshot, told_through}
use Rattle.plain_database.specs.declared.feeds.record.FeedRecord.{FeedRecord}
use Rattle.plain_database.specs.declared.feeds.record.Told.{Told}
use Rattle.plain_database.specs.declared.database.PlainDatabase.{PlainDatabase}
use Rattle.plain_database.specs.Tied.{StandsFor}
use Rattle.plain_database.proofs.ClosedRange.{closed_in_range}
use Rattle.plain_database.proofs.Streaming.{grows, past_of}
use Rattle.plain_database.specs.Replies.{beside, is_past, rows_past}

-- ---- those of a list that were not told

-- a row is behind the last one and above what was resolved
abbrev is_left : Told → Row → Bool
is_left told r = nat_lt told.resolved r.ts && is_after_name told.row r

in_filter : (q : Row → Bool) (r : Row) (rows : List Row) → IsRowIn r (filter q rows) ↔ (IsRowIn r rows × (q r ≡ true))
in_filter q r [] = (λ i. absurd i, λ i. absurd i.0)
in_filter q r (s ∷ rows) = grind (arith, common_steps, in_filter q r rows)

rises_filter : (q : Row → Bool) (rows : List Row) → RisingRows rows → RisingRows (filter q rows)
rises_filter q [] rise = tt
rises_filter q (s ∷ rows) rise = grind (arith, common_steps, in_filter, rises_filter q rows rise.1)

untold_filtered : (p : List Effect) → AllAllowed p → (f : ℕ) (x : FeedRecord) → IsRecordOf p f x → untold_rows p f (feed_part x) ≡ filter (is_left x.told) (list_of p (feed_part x) (closed_of p))
untold_filtered p all f x is =
    let feed = feed_part x in
    let list = list_of p feed (closed_of p) in
    let h = feeding p all f feed is.feed in
    let u = beyond_is p all f feed is.feed h in
    untold_is p f feed h.begins.0 h.begins.1
    ∙ only_rows h.begins.0 (filter (is_left x.told) list) u.0 (rises_filter (is_left x.told) list (list_rises p feed (closed_of p))) (λ r.
    let there = in_filter (is_left x.told) r list in
    let among = in_list p feed (closed_of p) r in
    let left = ap (λ (t : Told). is_left t r) is.told in (
      λ i. let s = (u.1 r).0 i in there.1 (among.1 s.0, left ∙ s.1),
      λ i. let s = there.0 i in (u.1 r).1 (among.0 s.0, sym left ∙ s.1),
    ))

-- ---- the stream

-- above a timestamp, or of it behind a key
abbrev is_behind : ℕ → Option (List ℕ) → Row → Bool
is_behind ts None r = nat_lt ts r.ts
is_behind ts (Some key) r = nat_lt ts r.ts || ((ts == r.ts) && key_lt key r.key)

-- the rows of one timestamp
abbrev rows_at : ℕ → (List ℕ → After) → List (List ℕ) → List Row
rows_at t f keys = map (λ x. record { ts = t; key = x; after = f x }) keys

one_left : (g : Row → Bool) (ts t : ℕ) (key : Option (List ℕ)) (f : List ℕ → After) → ((r : Row) → r.ts ≡ t → g r ≡ is_behind ts key r)
    → (keys : List (List ℕ)) → filter g (rows_at t f keys) ≡ cond (nat_le ts t) (cond (nat_lt ts t) (rows_at t f keys) (past_of key (rows_at t f keys))) []
one_left g ts t key f same [] = grind (arith, common_steps, nat_tests)
one_left g ts t key f same (x ∷ xs) = grind (arith, common_steps, nat_tests, same (record { ts = t; key = x; after = f x }) refl, one_left g ts t key f same xs)

-- where what is left above c is what is behind a place, the rest of the stream from c is what is behind the place
stream_left : (p : List Effect) (span : Span) (g : Row → Bool) (c ts : ℕ) (key : Option (List ℕ)) → c ≤ ts → (is_some key ≡ true → c < ts) → ((r : Row) → c < r.ts → g r ≡ is_behind ts key r)
    → (n : ℕ) → filter g (stream_of p span c n) ≡ beside p span ts key n ++ stream_of p span ts n
stream_left p span g c ts key low above same zero = grind (arith, common_steps, nat_tests)
stream_left p span g c ts key low above same (suc n) =
    let rows : (c < suc n → filter g (rows_of p span (suc n)) ≡ cond (nat_le ts (suc n)) (cond (nat_lt ts (suc n)) (rows_of p span (suc n)) (past_of key (rows_of p span (suc n)))) []) =
    (λ over. one_left g ts (suc n) key (λ x. written_value (write_of p (suc n) x)) (λ r at. same r (omega (arith, at))) (filter (in_span span) (write_set p (suc n)))) in
    grind (arith, common_steps, nat_tests, filter-append g (stream_of p span c n), grows p span ts key n, stream_left p span g c ts key low above same n)

-- ---- the snapshot

-- of values at one timestamp
pairs_left : (g : Row → Bool) (q : List ℕ → Bool) (t : ℕ) → ((r : Row) → r.ts ≡ t → g r ≡ q r.key) → (m : Map) (keys : List (List ℕ)) → filter g (map (pair_row t) (pairs_of m keys)) ≡ map (pair_row t) (pairs_of m (filter q keys))
pairs_left g q t same m [] = refl
pairs_left g q t same m (x ∷ xs) = grind (arith, common_steps, pairs_left g q t same m xs)

-- of a map's values those of the span, as another map has them
pairs_within : (span : Span) (m n : Map) (keys : List (List ℕ)) → ((x : List ℕ) → m x ≡ n x) → pairs_of (span_part span m) keys ≡ pairs_of n (filter (in_span span) keys)
pairs_within span m n [] same = refl
pairs_within span m n (x ∷ xs) same = grind (arith, common_steps, same x, pairs_within span m n xs same)

-- at the cursor, where all before was told, what is left is behind the last row's key
past_is : (resolved c : ℕ) (o : Option VersionName) (r : Row) → c ≡ suc resolved → row_ts o ≤ c → r.ts ≡ c → (nat_lt resolved r.ts && is_after_name o r) ≡ is_past (key_above resolved o) r.key
past_is resolved c o r next low at = grind (arith, common_steps, nat_tests)

-- above the cursor, what is left is behind the place
behind_is : (resolved c : ℕ) (o : Option VersionName) (r : Row) → c < r.ts → (nat_lt resolved r.ts && is_after_name o r) ≡ is_behind (max (max c resolved) (row_ts o)) (key_above (max c resolved) o) r
behind_is resolved c o r above = grind (arith, common_steps, nat_tests)

-- where nothing above the cursor was told, all there is left
above_is : (resolved c : ℕ) (o : Option VersionName) (r : Row) → resolved < c → row_ts o ≤ c → c < r.ts → (nat_lt resolved r.ts && is_after_name o r) ≡ nat_lt c r.ts
above_is resolved c o r low under above = grind (arith, common_steps, nat_tests)

-- of a feed whose place isn't in the snapshot, nothing at the cursor is left
told_is : (resolved c : ℕ) (o : Option VersionName) (r : Row) → (nat_lt resolved c && nat_le (row_ts o) c) ≡ false → r.ts ≡ c → (nat_lt resolved r.ts && is_after_name o r) ≡ false
told_is resolved c o r told at = grind (arith, common_steps, nat_tests)

none_left : (g : Row → Bool) (t : ℕ) → ((r : Row) → r.ts ≡ t → g r ≡ false) → (pairs : List (List ℕ × List ℕ)) → filter g (map (pair_row t) pairs) ≡ []
none_left g t none [] = refl
none_left g t none (pair ∷ pairs) = rw (none (pair_row t pair) refl) (none_left g t none pairs)

-- ---- all that a feed was not told

untold_parts : (p : List Effect) → AllAllowed p → (f : ℕ) (x : FeedRecord) → IsRecordOf p f x
    → untold_rows p f (feed_part x) ≡ filter (is_left x.told) (first_rows x.kind p x.span x.cursor) ++ filter (is_left x.told) (stream_of p x.span x.cursor (closed_of p))
untold_parts p all f x is = untold_filtered p all f x is ∙ filter-append (is_left x.told) (first_rows x.kind p x.span x.cursor) (stream_of p x.span x.cursor (closed_of p))

-- of a feed whose place is in the stream
pub untold_stream : (p : List Effect) → AllAllowed p → (f : ℕ) (x : FeedRecord) (ts : ℕ) (key : Option (List ℕ)) → IsRecordOf p f x → tells_snapshot x ≡ false
    → ts ≡ max (told_through x) (row_ts x.told.row) → key ≡ key_above (told_through x) x.told.row → untold_rows p f (feed_part x) ≡ beside p x.span ts key (closed_of p) ++ stream_of p x.span ts (closed_of p)
untold_stream p all f x ts key is out at behind =
    untold_parts p all f x is ∙ rw (at, behind, none) (stream_left p x.span (is_left x.told) x.cursor (max (told_through x) (row_ts x.told.row)) (key_above (told_through x) x.told.row) (omega arith) (over x.told.row) (behind_is x.told.resolved x.cursor x.told.row) (closed_of p))
  where
    over : (o : Option VersionName) → is_some (key_above (told_through x) o) ≡ true → x.cursor < max (told_through x) (row_ts o)
    over o is = grind (arith, common_steps, nat_tests)

    none : filter (is_left x.told) (first_rows x.kind p x.span x.cursor) ≡ []
    none = grind (arith, common_steps, none_left (is_left x.told) x.cursor, told_is x.told.resolved x.cursor x.told.row)

is_in_snapshot : (x : FeedRecord) → tells_snapshot x ≡ true → (x.kind.initial ≡ true) × (x.told.resolved < x.cursor) × (row_ts x.told.row ≤ x.cursor)
is_in_snapshot x tells = grind (arith, common_steps)

-- of a feed whose place is in the snapshot
untold_snapshot : (p : List Effect) → AllAllowed p → (f : ℕ) (x : FeedRecord) (key : Option (List ℕ)) → IsRecordOf p f x → tells_snapshot x ≡ true → key ≡ key_above x.told.resolved x.told.row
    → untold_rows p f (feed_part x) ≡ map (pair_row x.cursor) (rows_past p x.span key x.cursor) ++ stream_of p x.span x.cursor (closed_of p)
untold_snapshot p all f x key is tells behind =
    let s = is_in_snapshot x tells in
    let settled : x.cursor ≤ closed_of p = (feeding p all f (feed_part x) is.feed).settled s.0 in
    let start : start_at x.kind x.cursor ≤ x.told.resolved = subst (λ (t : Told). start_at x.kind x.cursor ≤ t.resolved) (sym is.told) (resolved_grows (start_at x.kind x.cursor) (told_to p f)) in
    let near : x.cursor ≡ suc x.told.resolved = (let low : x.cursor - 1 ≤ x.told.resolved = rw s.0 at start in omega (arith, s.1)) in
    untold_parts p all f x is
    ∙ rw (s.0, behind, pairs_within x.span (map_at p x.cursor) (λ y. (visible p y x.cursor).after) (written_keys p) (λ y. map_at_is p x.cursor y ∙ sym (closed_value p all y x.cursor settled)))
    (rw (
      pairs_left (is_left x.told) (is_past (key_above x.told.resolved x.told.row)) x.cursor (λ r at. past_is x.told.resolved x.cursor x.told.row r near s.2 at) (λ y. (visible p y x.cursor).after) (filter (in_span x.span) (written_keys p)),
      stream_left p x.span (is_left x.told) x.cursor x.cursor None (omega arith) (λ no. cc) (λ r above. above_is x.told.resolved x.cursor x.told.row r s.1 s.2 above) (closed_of p),
    ) refl)

-- the first of both parts are the first of all
pub snapshot_taken : (p : List Effect) → AllAllowed p → (f : ℕ) (x : FeedRecord) (key : Option (List ℕ)) → IsRecordOf p f x → tells_snapshot x ≡ true → key ≡ key_above x.told.resolved x.told.row
    → (n max room : ℕ) (firsts rows : List Row) → n ≡ closed_of p → n ≤ MAX → (x.cursor ≤ MAX → firsts ≡ take max (map (pair_row x.cursor) (rows_past p x.span key x.cursor)))
    → room ≡ max - length firsts → rows ≡ take room (stream_of p x.span x.cursor n) → firsts ++ rows ≡ take max (untold_rows p f (feed_part x))
snapshot_taken p all f x key is tells behind n max room firsts rows at low first left rest =
    let settled : x.cursor ≤ closed_of p = (feeding p all f (feed_part x) is.feed).settled (is_in_snapshot x tells).0 in
    let fits : x.cursor ≤ MAX = omega (arith, at, low, settled) in
    grind (arith, common_steps, length-take, take_both, first fits, untold_snapshot p all f x key is tells behind)

-- ---- at no timestamp

-- nothing is visible where the cursor is none
pub none_visible : (p : List Effect) (c : ℕ) → ((false ≡ true) ↔ ((1 ≤ c) × (c ≤ MAX))) → c ≤ MAX → (xs : List (List ℕ)) → pairs_of (λ x. (visible p x c).after) xs ≡ []
none_visible p zero none low [] = refl
none_visible p zero none low (x ∷ xs) = none_visible p zero none low xs
none_visible p (suc c) none low xs = let no : false ≡ true = none.1 (omega arith, low) in cc

-- nothing is left where nothing is closed
pub nothing_left : (db : PlainDatabase) (h : List Event) (f : ℕ) (x : FeedRecord) (max : ℕ) → ((false ≡ true) ↔ ((1 ≤ db.versions.closed) × (db.versions.closed ≤ MAX)))
    → StandsFor db h → IsRecordOf (effects_of h) f x → [] ≡ take max (untold_rows (effects_of h) f (feed_part x))
nothing_left db h f x max none stands is =
    let p = effects_of h in
    let zeroth : closed_of p ≡ 0 = grind (arith, common_steps, closed_in_range h stands.legal) in
    let settled = (feeding p (legal_allowed h stands.legal) f (feed_part x) is.feed).settled in
    grind (arith, common_steps, first_none x.kind p x.span x.cursor)

pub ruleset taken = (length-map, take-map, none_visible)
