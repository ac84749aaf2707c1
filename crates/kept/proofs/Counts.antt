-- The counts of a commit, a hard closing and the statistics, from what is kept.
use Rattle.kept.proofs.Rising.{Falls, falls_distinct}
use Rattle.kept.proofs.Common.{parted, AllAllowed, AreDistinct, Cancels, Effect, Equal, Greater, Has, IsIn, IsKeptOf, Kept, Less, LiveFeed, Opens, RisingKeys, VersionName, Writes, among_has, and_from, and_parts, begun_among, begun_of, by_test, common_steps, dead_of, distinct_filter, false_from_ne_true, has_filter, has_is, in_has, insert_key, insert_where, is_aborted, is_committed, is_live, is_undecided, live_feeds, live_is, open_distinct, ordering_reverse, rising_distinct, same_key, same_length, undecided_timestamps, unopened, versions_of, write_count, write_set, feeds_opened, has_versions, is_dead, ltb-false, ltb-true, versions_distinct}
use Rattle.std.proofs.Common.{Bool, List, [], ap, arith, cond, false, inl, inr, length, map, not, refl, subst, suc, sym, true, ℕ, ◌&&◌, ◌-◌, ◌==◌, ◌∙◌, ◌∷◌, ◌≡◌, ◌≤◌}
use Rattle.std.proofs.lemmas.Cmp.{nat_list_cmp_total}
use Rattle.std.proofs.lemmas.Map.Lookups.{exact_bytes}
use Rattle.std.specs.Prelude.{bytes_eq, filter, is_some, nat_le, ◌↔◌}
use Rattle.std.specs.declared.cmp.Ordering.{Ordering}
use Rattle.timestamps.specs.Bytes.{key_cmp}
use Rattle.spans.proofs.WriteSets.{has, has_in, has_written, write_set_rises}
use Rattle.kept.specs.Finding.{AreThose, IsNumberOf, is_open}
use Rattle.kept.specs.Places.{live_feed}
use Rattle.kept.proofs.AfterCloses.{open_is}
use Rattle.kept.proofs.Dead.{open_kept}
use Rattle.kept.proofs.Floors.{place_at}

-- a list of those that pass the test is as long as any other
pub those_length : {A : Type 0} (test : A → Bool) (xs ys : List A) → AreThose test xs → AreDistinct ys → ((x : A) → Has x ys ↔ (test x ≡ true)) → length xs ≡ length ys
those_length test xs ys those distinct each = same_length xs ys those.distinct distinct (λ x. (λ i. (each x).1 ((those.each x).0 i), λ i. (those.each x).1 ((each x).0 i)))

-- an undecided transaction is among those that the history lists
pub has_undecided : (p : List Effect) (t : ℕ) → Has t (undecided_timestamps p) ↔ (is_undecided p t ≡ true)
has_undecided p t = let f = has_filter (is_undecided p) t (begun_of p) in grind (arith, common_steps, among_has, begun_among, and_parts)

-- the undecided transactions of the table are as many as those of the history
pub undecided_count : (k : Kept) (p : List Effect) → AllAllowed p → IsKeptOf k p → (ts : List ℕ) → AreThose (λ t. is_open (k.transaction t)) ts → length ts ≡ length (undecided_timestamps p)
undecided_count k p all fits ts those = those_length (λ t. is_open (k.transaction t)) ts (undecided_timestamps p) those (open_distinct p all) (λ t. let h = has_undecided p t in grind (arith, common_steps, open_is))

-- a hard closing aborts as many as the history says
pub cut_count : (k : Kept) (p : List Effect) → AllAllowed p → IsKeptOf k p → (to : ℕ) (ts : List ℕ) → AreThose (λ t. nat_le t to && is_open (k.transaction t)) ts
    → length ts ≡ length (filter (λ t. nat_le t to) (undecided_timestamps p))
cut_count k p all fits to ts those = those_length (λ t. nat_le t to && is_open (k.transaction t)) ts (filter (λ t. nat_le t to) (undecided_timestamps p)) those (distinct_filter (λ t. nat_le t to) (undecided_timestamps p) (open_distinct p all))
    (λ t. let h = has_undecided p t in grind (arith, common_steps, has_filter, and_from, open_is, and_parts))

-- the numbers of feeds
abbrev pub numbers : List LiveFeed → List ℕ
numbers ws = map (λ (n : LiveFeed). n.number) ws

-- a number in a mapped list comes of an element
pub has_number : (f : ℕ) (ws : List LiveFeed) → Has f (map (λ (n : LiveFeed). n.number) ws) → (c : ℕ) × Has (live_feed f c) ws
has_number f [] i = absurd i
has_number f (w ∷ ws) i = elim i [
  | inl here ↦ (w.cursor, inl (ap (λ n. live_feed n w.cursor) here))
  | inr there ↦ (let m = has_number f ws there in (m.0, inr m.1))
]

-- what a function makes of an element is in the mapped list
pub has_mapped : {A B : Type 0} (f : A → B) (x : A) (xs : List A) → Has x xs → Has (f x) (map f xs)
has_mapped f x [] i = absurd i
has_mapped f x (y ∷ ys) i = elim i [ inl here ↦ inl (ap f here) | inr there ↦ inr (has_mapped f x ys there) ]

-- a feed that lives was opened
live_low : (p : List Effect) → AllAllowed p → (f c : ℕ) → Has (live_feed f c) (live_feeds p) → f ≤ feeds_opened p
live_low p all f c i = grind (arith, common_steps, live_is, by_test, unopened, ltb-true, ltb-false)

-- numbers that fall still do where some go
falls_filter : (q : LiveFeed → Bool) (ws : List LiveFeed) → Falls (numbers ws) → Falls (numbers (filter q ws))
falls_filter q [] falls = tt
falls_filter q (w ∷ ws) falls = let more = falls_filter q ws falls.1 in by_test (q w)
    (λ is. rw is (λ y i. falls.0 y (still y ws i), more))
    (λ isnt. rw isnt more)
  where
    still : (y : ℕ) (ws : List LiveFeed) → Has y (numbers (filter q ws)) → Has y (numbers ws)
    still y ws i = let m = has_number y (filter q ws) i in has_mapped (λ (n : LiveFeed). n.number) (live_feed y m.0) ws ((has_filter q (live_feed y m.0) ws).0 m.1).1

-- the feeds that live stand with the newest first
pub live_falls : (p : List Effect) → AllAllowed p → Falls (numbers (live_feeds p))
live_falls [] all = tt
live_falls (Opens f seat kind span cursor ∷ p) all = (
  λ y i. let m = has_number y (live_feeds p) i in let low : y ≤ feeds_opened p = live_low p all.1 y m.0 m.1 in omega (arith, all.0.0),
  live_falls p all.1,
)
live_falls (Cancels f ∷ p) all = falls_filter (λ (n : LiveFeed). not (n.number == f)) (live_feeds p) (live_falls p all.1)
live_falls (_ ∷ p) all = live_falls p all.1

-- the listed feeds are those that are kept
pub has_live : (k : Kept) (p : List Effect) → AllAllowed p → IsKeptOf k p → (f : ℕ) → Has f (map (λ (n : LiveFeed). n.number) (live_feeds p)) ↔ (is_some (k.feed f) ≡ true)
has_live k p all fits f = grind (arith, common_steps, has_number, live_is, place_at, has_mapped, is_live)

-- the live feeds that are kept are as many as those of the history
pub feeds_count : (k : Kept) (p : List Effect) → AllAllowed p → IsKeptOf k p → (fs : List ℕ) → AreThose (λ f. is_some (k.feed f)) fs → length fs ≡ length (live_feeds p)
feeds_count k p all fits fs those = those_length (λ f. is_some (k.feed f)) fs (map (λ (n : LiveFeed). n.number) (live_feeds p)) those (falls_distinct (numbers (live_feeds p)) (live_falls p all)) (has_live k p all fits) ∙ as_many (live_feeds p)
  where
    as_many : (ws : List LiveFeed) → length (map (λ (n : LiveFeed). n.number) ws) ≡ length ws
    as_many [] = refl
    as_many (w ∷ ws) = ap suc (as_many ws)

-- the kept versions are as many as those of the history that aren't dead
pub versions_count : (k : Kept) (p : List Effect) → AllAllowed p → IsKeptOf k p → (vs : List VersionName) → AreThose (λ v. is_some (k.version v.key v.ts)) vs → length vs ≡ length (versions_of p) - length (dead_of p)
versions_count k p all fits vs those = let left : VersionName → Bool = λ v. not (is_dead p v) in
    let e = those_length (λ v. is_some (k.version v.key v.ts)) vs (filter left (versions_of p)) those (distinct_filter left (versions_of p) (versions_distinct p all)) (λ v.
    let f = has_filter left v (versions_of p) in let h = has_versions p all v in let there = fits.versions v.key v.ts in grind (arith, common_steps)) in
    omega (arith, e, parted (is_dead p) (versions_of p))

-- a key that comes before all of rising keys isn't among them
not_among : (x : List ℕ) (ys : List (List ℕ)) → ((z : List ℕ) → IsIn z ys → key_cmp x z ≡ Less) → has x ys ≡ false
not_among x ys before = false_from_ne_true _ (λ is. let l : key_cmp x x ≡ Less = before x ((has_in x ys).1 is) in
    let back : key_cmp x x ≡ ordering_reverse (key_cmp x x) = nat_list_cmp_total.antisymm x x in let no' : Less ≡ Greater = sym l ∙ back ∙ ap ordering_reverse l in cc)

-- a key that is inserted counts where it wasn't there
inserted_length : (x : List ℕ) (ks : List (List ℕ)) → RisingKeys ks → length (insert_key x ks) ≡ cond (has x ks) (length ks) (suc (length ks))
inserted_length x [] r = refl
inserted_length x (y ∷ ys) r = by_order (key_cmp x y) refl (inserted_length x ys r.1)
  where
    by_order : (o : Ordering) → key_cmp x y ≡ o → length (insert_key x ys) ≡ cond (has x ys) (length ys) (suc (length ys))
        → length (insert_where o x y ys (insert_key x ys)) ≡ cond (has x (y ∷ ys)) (suc (length ys)) (suc (suc (length ys)))
    by_order Less e more = let none : has x (y ∷ ys) ≡ false = not_among x (y ∷ ys) (λ z i. elim i [ inl here ↦ subst (λ w. key_cmp x w ≡ Less) here e | inr there ↦ nat_list_cmp_total.trans x y z e (r.0 z there) ]) in rw none refl
    by_order Equal e more = let here : has x (y ∷ ys) ≡ true = (has_in x (y ∷ ys)).0 (inl (sym (exact_bytes x y e))) in rw here refl
    by_order Greater e more = ap suc more ∙ by_test (bytes_eq y x)
        (λ same. absurd (let at : key_cmp x x ≡ Greater = subst (λ z. key_cmp x z ≡ Greater) (same_key y x same) e in
        let back : key_cmp x x ≡ ordering_reverse (key_cmp x x) = nat_list_cmp_total.antisymm x x in let no' : Greater ≡ Less = sym at ∙ back ∙ ap ordering_reverse at in cc))
        (λ other. rw other (grind (arith, common_steps)))

-- the keys that a transaction wrote are as many as it has in its write set
pub write_set_length : (p : List Effect) (t : ℕ) → length (write_set p t) ≡ write_count p t
write_set_length [] t = refl
write_set_length (Writes k x a ∷ p) t = grind (arith, common_steps, by_test, inserted_length, write_set_rises, has_written, write_set_length p t)
write_set_length (_ ∷ p) t = write_set_length p t

-- the versions of an undecided transaction stand at the keys that it wrote
pub written_are : (k : Kept) (p : List Effect) → IsKeptOf k p → (t : ℕ) → is_committed p t ≡ false → is_aborted p t ≡ false → AreThose (λ x. is_some (k.version x t)) (write_set p t)
written_are k p fits t uncommitted unaborted = grind (arith, common_steps, rising_distinct, write_set_rises, has, open_kept, has_written, has_in, has_is, in_has)

-- so they are as many
pub written_count : (k : Kept) (p : List Effect) → IsKeptOf k p → (t : ℕ) → is_committed p t ≡ false → is_aborted p t ≡ false → (n : ℕ) → IsNumberOf (λ x. is_some (k.version x t)) n → n ≡ write_count p t
written_count k p fits t uncommitted unaborted n number = let own = written_are k p fits t uncommitted unaborted in
    number.2 ∙ those_length (λ x. is_some (k.version x t)) number.0 (write_set p t) number.1 own.distinct own.each ∙ write_set_length p t
