-- What the replies rest on can always be found in what is kept of a history: the keys of a span, the test of the marks, the
-- keys that a transaction wrote, the oldest undecided transaction, what holds a collection back and what it drops, the rows that are left for a feed.
use Rattle.restarts.proofs.Common.{AllAllowed, AreDistinct, AreKeysOf, AreLeft, AreNext, AreThose, Effect, Feed, Has, IsKeptOf, IsLeastFloor, IsNumberOf, IsOldest, Kept, Place, Row, Span, VersionName, and_from, and_parts, by_test, closed_of, common_steps, distinct_filter, feed_of, feeds_opened, filter_in, filter_rises, has_filter, has_undecided, in_span, is_dead_in, is_dropped, is_open, kept_is, key_itself, keys_rise, known_is, least_of, leb-true, list_any, ltb-true, nat_tests, none_of, open_distinct, open_is, or_cases, or_left, or_min, or_right, place_floor, placed_by, refusal, same_key, too_late, undecided_timestamps, untold_rows, version_name, version_of, version_wrote, versions_of, write_set, written_are, written_in, written_keys}
use Rattle.std.proofs.Common.{rules}
use Rattle.std.proofs.Common.{◌≡◌, ℕ, zero, suc, ◌<◌, ◌≤◌, Bool, true, ◌&&◌, List, [], ◌∷◌, length, Option, Some, None, refl, sym, ◌∙◌, ap, subst, inl, inr, arith}
use Rattle.std.specs.Prelude.{bytes_eq, filter, is_some, min, nat_le, nat_lt}
use Rattle.spans.proofs.VersionNames.{has_versions, versions_distinct}
use Rattle.kept.specs.Marks.{IsLate}
use Rattle.kept.proofs.Polling.{left_are}
use Rattle.kept.proofs.Refusals.{active_of, refusal_is}

some_is : {A : Type 0} (o : Option A) → is_some o ≡ true → (a : A) × (o ≡ Some a)
some_is None is = cc
some_is (Some a) is = (a, refl)

-- ---- versions

pub versions_in : Kept → List Effect → List VersionName
versions_in k p = filter (λ v. is_some (k.version v.key v.ts)) (versions_of p)

-- a kept version is one of the history
kept_listed : (k : Kept) (p : List Effect) → AllAllowed p → IsKeptOf k p → (v : VersionName) → is_some (k.version v.key v.ts) ≡ true → Has v (versions_of p)
kept_listed k p all fits v is = grind (arith, common_steps, some_is, kept_is, has_versions)

pub kept_versions : (k : Kept) (p : List Effect) → AllAllowed p → IsKeptOf k p → AreThose (λ v. is_some (k.version v.key v.ts)) (versions_in k p)
unfolding versions_in
kept_versions k p all fits = grind (arith, common_steps, distinct_filter, versions_distinct, has_filter, kept_listed)

-- those that a collection drops
pub dropped_in : Kept → List Effect → ℕ → List VersionName
dropped_in k p n = filter (λ v. is_dead_in k n v.key v.ts) (versions_in k p)

pub dropped_are : (k : Kept) (p : List Effect) → AllAllowed p → IsKeptOf k p → (n : ℕ) → AreThose (is_dropped k n) (dropped_in k p n)
unfolding dropped_in
dropped_are k p all fits n = grind (arith, common_steps, kept_versions, distinct_filter, versions_in, has_filter, and_from, and_parts)

-- ---- the keys of a span

-- one of the names is of the key
abbrev names_key : List ℕ → VersionName → Bool
names_key x v = bytes_eq v.key x

any_has : (x : List ℕ) (vs : List VersionName) → list_any (names_key x) vs ≡ true → (v : VersionName) × Has v vs × (v.key ≡ x)
any_has x [] is = cc
any_has x (v ∷ vs) is = search (or_cases, same_key, any_has x vs, rules, arith)

has_any_key : (x : List ℕ) (v : VersionName) (vs : List VersionName) → Has v vs → v.key ≡ x → list_any (names_key x) vs ≡ true
has_any_key x v [] i e = absurd i
has_any_key x v (w ∷ vs) i e = grind (arith, common_steps, or_left, key_itself, or_right, has_any_key x v vs)

pub keys_in : Kept → List Effect → Span → List (List ℕ)
keys_in k p span = filter (λ x. in_span span x && list_any (names_key x) (versions_in k p)) (written_keys p)

pub keys_are : (k : Kept) (p : List Effect) → AllAllowed p → IsKeptOf k p → (span : Span) → AreKeysOf k span (keys_in k p span)
unfolding keys_in
keys_are k p all fits span =
    let those = kept_versions k p all fits in let listed : List ℕ → Bool = λ x. in_span span x && list_any (names_key x) (versions_in k p) in record {
      rising = filter_rises listed (written_keys p) (keys_rise p);
      each = λ x. let f = filter_in listed x (written_keys p) in (
        λ i. let b = and_parts (in_span span x) _ (f.0 i).0 in let m = any_has x (versions_in k p) b.1 in (b.0, m.0.ts, grind (arith, common_steps, m.1, m.2, those.each m.0)),
        λ i. grind (arith, common_steps, i, f.1, some_is (k.version x i.1) i.2, fits.versions x i.1, kept_is p x i.1, and_from, has_any_key x (version_name x i.1) (versions_in k p), those.each (version_name x i.1), written_in p i.1 x, version_wrote p x i.1),
      );
    }

-- ---- the test of the marks

pub late_found : (k : Kept) (p : List Effect) → IsKeptOf k p → (seat t : ℕ) (x : List ℕ) → refusal k seat t ≡ None → IsLate k x t (too_late p x t)
late_found k p fits seat t x none = grind (arith, common_steps)

-- ---- the keys that a transaction wrote

pub written_found : (k : Kept) (p : List Effect) → IsKeptOf k p → (seat t : ℕ) → refusal k seat t ≡ None → IsNumberOf (λ x. is_some (k.version x t)) (length (write_set p t))
written_found k p fits seat t none =
    let here = active_of p seat t (sym (refusal_is k p fits seat t) ∙ none) in
    (write_set p t, written_are k p fits t here.uncommitted here.unaborted, refl)

-- ---- the least of some numbers

abbrev pub least_in : List ℕ → Option ℕ
least_in [] = None
least_in (n ∷ ns) = Some (or_min (least_in ns) n)

pub least_is : (n : ℕ) (ms : List ℕ) → or_min (least_in ms) n ≡ least_of n ms
least_is n [] = refl
least_is n (m ∷ ms) = grind (arith, common_steps, least_is n ms)

none_least : (ns : List ℕ) → least_in ns ≡ None → (n : ℕ) → Has n ns → ⊥
none_least [] e n i = i
none_least (l ∷ ns) e n i = cc

least_among : (m : ℕ) (ns : List ℕ) → least_in ns ≡ Some m → Has m ns × ((n : ℕ) → Has n ns → m ≤ n)
least_among m [] e = cc
least_among m (l ∷ ns) e = by_rest (least_in ns) (λ j is. least_among j ns is) (none_least ns) e
  where
    by_rest : (o : Option ℕ) → ((j : ℕ) → o ≡ Some j → Has j ns × ((n : ℕ) → Has n ns → j ≤ n)) → (o ≡ None → (n : ℕ) → Has n ns → ⊥) → Some (or_min o l) ≡ Some m → Has m (l ∷ ns) × ((n : ℕ) → Has n (l ∷ ns) → m ≤ n)
    by_rest None some none e = grind (arith, common_steps, none refl)
    by_rest (Some j) some none e = grind (arith, common_steps, some j refl)

-- ---- undecided transactions

pub oldest_found : (k : Kept) (p : List Effect) → AllAllowed p → IsKeptOf k p → IsOldest k.transaction (least_in (undecided_timestamps p))
oldest_found k p all fits = by_least (least_in (undecided_timestamps p)) refl
  where
    listed : (t : ℕ) → is_open (k.transaction t) ≡ true → Has t (undecided_timestamps p)
    listed t is = (has_undecided p t).1 (sym (open_is k p all fits t) ∙ is)

    by_least : (o : Option ℕ) → least_in (undecided_timestamps p) ≡ o → IsOldest k.transaction o
    by_least None e = λ t. by_test (is_open (k.transaction t)) (λ is. absurd (none_least (undecided_timestamps p) e t (listed t is))) (λ isnt. isnt)
    by_least (Some m) e = let l = least_among m (undecided_timestamps p) e in (open_is k p all fits m ∙ (has_undecided p m).0 l.0, λ t is. l.1 t (listed t is))

pub undecided_are : (k : Kept) (p : List Effect) → AllAllowed p → IsKeptOf k p → AreThose (λ t. is_open (k.transaction t)) (undecided_timestamps p)
undecided_are k p all fits = record {
  distinct = open_distinct p all;
  each = λ t. (λ i. open_is k p all fits t ∙ (has_undecided p t).0 i, λ is. (has_undecided p t).1 (sym (open_is k p all fits t) ∙ is));
}

pub cut_are : (k : Kept) (p : List Effect) → AllAllowed p → IsKeptOf k p → (to : ℕ) → AreThose (λ t. nat_le t to && is_open (k.transaction t)) (filter (λ t. nat_le t to) (undecided_timestamps p))
cut_are k p all fits to =
    let those = undecided_are k p all fits in grind (arith, common_steps, distinct_filter, has_filter, and_from, and_parts)

-- ---- feeds

-- the numbers from 1 on
abbrev pub first_numbers : ℕ → List ℕ
first_numbers zero = []
first_numbers (suc n) = suc n ∷ first_numbers n

first_low : (n f : ℕ) → Has f (first_numbers n) → f ≤ n
first_low zero f i = absurd i
first_low (suc n) f i = grind (arith, common_steps, first_low n f)

first_distinct : (n : ℕ) → AreDistinct (first_numbers n)
first_distinct zero = tt
first_distinct (suc n) = grind (arith, common_steps, first_low n (suc n), first_distinct n)

has_first : (n f : ℕ) → 0 < f → f ≤ n → Has f (first_numbers n)
has_first zero f some low = absurd (omega (arith, some, low))
has_first (suc n) f some low = grind (arith, common_steps, has_first n f some)

-- a feed that is kept was opened
opened_one : (k : Kept) (p : List Effect) → AllAllowed p → IsKeptOf k p → (f : ℕ) → is_some (k.feed f) ≡ true → Has f (first_numbers (feeds_opened p))
opened_one k p all fits f is =
    grind (arith, common_steps, some_is (k.feed f) is, placed_by k p fits f, known_is p all f, and_parts, has_first, ltb-true, leb-true)

-- the feeds that live
pub living : Kept → List Effect → List ℕ
living k p = filter (λ f. is_some (k.feed f)) (first_numbers (feeds_opened p))

pub living_are : (k : Kept) (p : List Effect) → AllAllowed p → IsKeptOf k p → AreThose (λ f. is_some (k.feed f)) (living k p)
unfolding living
living_are k p all fits = grind (arith, common_steps, distinct_filter, first_distinct, has_filter, opened_one)

-- the least floor of those in a list
abbrev with_floor : Option Place → Option ℕ → Option ℕ
with_floor None o = o
with_floor (Some place) o = Some (or_min o (place_floor place))

abbrev pub least_floor : (ℕ → Option Place) → List ℕ → Option ℕ
least_floor feed [] = None
least_floor feed (f ∷ fs) = with_floor (feed f) (least_floor feed fs)

abbrev IsLeastAmong : (ℕ → Option Place) → List ℕ → Option ℕ → Type 0
IsLeastAmong feed fs None = (f : ℕ) → Has f fs → feed f ≡ None
IsLeastAmong feed fs (Some m) = ((f : ℕ) × (place : Place) × (feed f ≡ Some place) × (place_floor place ≡ m)) × ((f : ℕ) (place : Place) → Has f fs → feed f ≡ Some place → m ≤ place_floor place)

least_floor_among : (feed : ℕ → Option Place) (fs : List ℕ) → IsLeastAmong feed fs (least_floor feed fs)
least_floor_among feed [] = λ f i. absurd i
least_floor_among feed (f ∷ fs) = step (feed f) refl (least_floor feed fs) (least_floor_among feed fs)
  where
    step : (o : Option Place) → feed f ≡ o → (l : Option ℕ) → IsLeastAmong feed fs l → IsLeastAmong feed (f ∷ fs) (with_floor o l)
    step None e None more = grind (arith, common_steps, e, more)
    step None e (Some m) more = grind (arith, common_steps, e, more)
    step (Some place) e None more = grind (arith, common_steps, e, more)
    step (Some place) e (Some m) more = by_test (nat_le m (place_floor place))
        (λ low. grind (arith, common_steps, nat_tests, low, e, more))
        (λ high. ((f, place, e, grind (arith, nat_tests, high)), grind (arith, common_steps, nat_tests, high, e, more.1)))

pub floor_found : (k : Kept) (p : List Effect) → AllAllowed p → IsKeptOf k p → IsLeastFloor k.feed (least_floor k.feed (living k p))
floor_found k p all fits = by_least (least_floor k.feed (living k p)) (least_floor_among k.feed (living k p))
  where
    those : AreThose (λ f. is_some (k.feed f)) (living k p)
    those = living_are k p all fits

    by_least : (o : Option ℕ) → IsLeastAmong k.feed (living k p) o → IsLeastFloor k.feed o
    by_least None among = grind (arith, common_steps, those.each, among, none_of)
    by_least (Some m) among = grind (arith, common_steps, those.each, among)

-- ---- the rows that are left for a feed

abbrev rows_of_feed : List Effect → ℕ → Option Feed → List Row
rows_of_feed p f None = []
rows_of_feed p f (Some feed) = untold_rows p f feed

pub rows_for : List Effect → ℕ → List Row
rows_for p f = rows_of_feed p f (feed_of p f)

pub next_found : (k : Kept) (p : List Effect) → AllAllowed p → IsKeptOf k p → (f max : ℕ) (place : Place) → k.feed f ≡ Some place → AreNext k place max (rows_for p f)
unfolding rows_for
next_found k p all fits f max place at =
    let l = placed_by k p fits f place at in
    let left : AreLeft k.version k.committed place k.closed (untold_rows p f l.0) =
    subst (λ n. AreLeft k.version k.committed place n (untold_rows p f l.0)) (sym fits.closed_at)
    (subst (λ q. AreLeft k.version k.committed q (closed_of p) (untold_rows p f l.0)) l.3 (left_are k p all fits f l.0 l.1 l.2)) in
    subst (AreNext k place max) (sym (ap (rows_of_feed p f) l.1)) (record { all = untold_rows p f l.0; left = left; first = refl })
