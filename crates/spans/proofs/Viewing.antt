-- A consumer has the map at each resolved timestamp.
use Rattle.spans.proofs.Common.{Row, append-nil, common_steps, ltb-true, nat_tests}
use Rattle.std.proofs.Common.{◌≡◌, ℕ, zero, suc, ◌<◌, ◌≤◌, cond, ◌&&◌, List, [], ◌∷◌, ◌++◌, map, Some, None, refl, sym, ◌∙◌, ap, arith, append_assoc}
use Rattle.std.specs.Prelude.{is_some, bytes_eq, nat_lt, filter}
use Rattle.spans.specs.declared.span.Span.{Span}
use Rattle.spans.specs.declared.calls.messages.Message.{Message}
use Rattle.spans.specs.declared.calls.messages.Message.TheVariants as messages
use Rattle.spans.specs.declared.kind.Kind.{Kind}
use Rattle.spans.specs.Effects.{After, Effect}
use Rattle.spans.specs.Transactions.{is_committed}
use Rattle.spans.specs.Versions.{write_of, write_set}
use Rattle.spans.specs.Keys.{in_span, pairs_of}
use Rattle.spans.specs.Serial.{Map, put, map_at, span_part}
use Rattle.spans.specs.Feeds.{Feed, told_to, rows_in, first_rows, list_of, start_of}
use Rattle.spans.specs.Streams.{rows_of, written_value, stream_of, pair_row}
use Rattle.spans.specs.FeedRight.{DividesList}
use Rattle.spans.proofs.Feeding.{ResolvedRise}
use Rattle.spans.specs.Consumer.{view_of, seed_of}
use Rattle.spans.proofs.Steps.{by_test, same_key, after_is}
use Rattle.spans.proofs.WriteSets.{has, has_in, has_written, has_filtered}
use Rattle.spans.proofs.Streaming.{stream_none}
use Rattle.spans.proofs.Listing.{start_next, part_in}

-- the map changed by rows
abbrev pub by_rows : Map → List Row → Map
by_rows m [] = m
by_rows m (r ∷ rs) = by_rows (put m r.key r.after) rs

pub view_rows : (m : Map) (ms : List Message) → view_of m ms ≡ by_rows m (rows_in ms)
view_rows m [] = refl
view_rows m (messages.Row r ∷ ms) = view_rows (put m r.key r.after) ms
view_rows m (messages.Resolved t ∷ ms) = view_rows m ms

pub by_rows_join : (m : Map) (rs ss : List Row) → by_rows m (rs ++ ss) ≡ by_rows (by_rows m rs) ss
by_rows_join m [] ss = refl
by_rows_join m (r ∷ rs) ss = by_rows_join (put m r.key r.after) rs ss

-- rows of some keys, each with its value
pub by_keys : (f : List ℕ → After) (t : ℕ) (m : Map) (keys : List (List ℕ)) (x : List ℕ)
    → by_rows m (map (λ y. record { ts = t; key = y; after = f y }) keys) x ≡ cond (has x keys) (f x) (m x)
by_keys f t m [] x = refl
by_keys f t m (y ∷ ys) x = grind (arith, common_steps, same_key, by_keys f t (put m y (f y)) ys x)

txn_rows : (p : List Effect) (span : Span) (t : ℕ) (m : Map) (x : List ℕ)
    → by_rows m (rows_of p span t) x ≡ cond (in_span span x && is_some (write_of p t x)) (written_value (write_of p t x)) (m x)
txn_rows p span t m x = let rows = by_keys (λ y. written_value (write_of p t y)) t m (filter (in_span span) (write_set p t)) x in
    grind (arith, common_steps, has_filtered, has_written)

-- the stream leads from map to map
pub streamed : (p : List Effect) (span : Span) (c t : ℕ) (x : List ℕ) → c ≤ t → by_rows (span_part span (map_at p c)) (stream_of p span c t) x ≡ span_part span (map_at p t) x
streamed p span c zero x low = let e : c ≡ 0 = omega arith in rw e refl
streamed p span c (suc t) x low = by_test (nat_lt c (suc t))
    (λ is. let before = streamed p span c t x (let l = ltb-true c (suc t) is in omega arith) in
    let now = txn_rows p span (suc t) (by_rows (span_part span (map_at p c)) (stream_of p span c t)) x in
    let ran = after_is p (suc t) (map_at p t) x in
    rw is (ap (λ n. n x) (by_rows_join (span_part span (map_at p c)) (stream_of p span c t) (cond (is_committed p (suc t)) (rows_of p span (suc t)) [])) ∙ grind (arith, common_steps)))
    (λ isnt. let e : c ≡ suc t = grind (arith, nat_tests) in rw (stream_none p span c (suc t) (omega arith), e) refl)

pub divides_at : (p : List Effect) (feed : Feed) (acc : List Row) (before rest : List Message) (t : ℕ) → DividesList p feed acc (before ++ messages.Resolved t ∷ rest) → acc ++ rows_in before ≡ list_of p feed t
divides_at p feed acc [] rest t h = append-nil acc ∙ h.0
divides_at p feed acc (messages.Row r ∷ ms) rest t h = sym (append_assoc acc (r ∷ []) (rows_in ms)) ∙ divides_at p feed (acc ++ r ∷ []) ms rest t h
divides_at p feed acc (messages.Resolved n ∷ ms) rest t h = divides_at p feed acc ms rest t h.1

pub rises_at : (n : ℕ) (before rest : List Message) (t : ℕ) → ResolvedRise n (before ++ messages.Resolved t ∷ rest) → n < t
rises_at n [] rest t h = h.0
rises_at n (messages.Row r ∷ ms) rest t h = rises_at n ms rest t h
rises_at n (messages.Resolved k ∷ ms) rest t h = let later : k < t = rises_at k ms rest t h.1 in omega (arith, h.0)

-- rows change maps that are alike to maps that are alike
pub by_rows_like : (m n : Map) (rows : List Row) (x : List ℕ) → ((y : List ℕ) → m y ≡ n y) → by_rows m rows x ≡ by_rows n rows x
by_rows_like m n [] x same = same x
by_rows_like m n (r ∷ rows) x same = by_rows_like (put m r.key r.after) (put n r.key r.after) rows x (λ y. ap (λ v. cond (bytes_eq r.key y) r.after v) (same y))

-- a value, and another where there is none
abbrev value_or : After → After → After
value_or None w = w
value_or (Some v) w = Some v

-- the rows of some keys, each with its value in a map, give that map at those keys
by_pairs : (m f : Map) (t : ℕ) (keys : List (List ℕ)) (x : List ℕ) → by_rows m (map (pair_row t) (pairs_of f keys)) x ≡ cond (has x keys) (value_or (f x) (m x)) (m x)
by_pairs m f t [] x = refl
by_pairs m f t (y ∷ ys) x = let more : (n : Map)
    → by_rows n (map (pair_row t) (pairs_of f ys)) x ≡ cond (has x ys) (value_or (f x) (n x)) (n x) = λ n. by_pairs n f t ys x in
    grind (arith, common_steps, same_key, more)

-- what a feed tells first leads from the consumer's seed to the map at the cursor
seeded : (kind : Kind) (p : List Effect) (span : Span) (c : ℕ) (x : List ℕ) → by_rows (seed_of kind p span c) (first_rows kind p span c) x ≡ span_part span (map_at p c) x
seeded kind p span c x = grind (arith, common_steps, by_pairs, has_in, part_in)

-- the list leads from the consumer's seed to the map
pub list_views : (p : List Effect) (feed : Feed) (t : ℕ) (x : List ℕ) → feed.cursor ≤ t → by_rows (seed_of feed.kind p feed.span feed.cursor) (list_of p feed t) x ≡ span_part feed.span (map_at p t) x
list_views p feed t x low =
    ap (λ m. m x) (by_rows_join (seed_of feed.kind p feed.span feed.cursor) (first_rows feed.kind p feed.span feed.cursor) (stream_of p feed.span feed.cursor t))
    ∙ by_rows_like (by_rows (seed_of feed.kind p feed.span feed.cursor) (first_rows feed.kind p feed.span feed.cursor)) (span_part feed.span (map_at p feed.cursor)) (stream_of p feed.span feed.cursor t) x (seeded feed.kind p feed.span feed.cursor)
    ∙ streamed p feed.span feed.cursor t x low

pub views : (p : List Effect) (f : ℕ) (feed : Feed) → DividesList p feed [] (told_to p f) → ResolvedRise (start_of feed) (told_to p f) → (before rest : List Message) (t : ℕ) → told_to p f ≡ before ++ messages.Resolved t ∷ rest
    → (x : List ℕ) → view_of (seed_of feed.kind p feed.span feed.cursor) before x ≡ span_part feed.span (map_at p t) x
views p f feed divides rises before rest t is x = grind (arith, common_steps, rises_at, view_rows, divides_at, list_views, start_next)
