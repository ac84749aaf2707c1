-- The tie of a book of feeds is kept by each call.
use Rattle.plain_database.proofs.Common.{AllAllowed, Cancels, Effect, Feed, Has, Kind, LiveFeed, Message, Opens, Polls, Span, common_steps, feed_of, find, floor_from, floor_of, is_cancelled, is_live, live_feed, live_feeds, nat_tests, start_low, told_to, uncancelled, unopened, least_of}
use Rattle.std.proofs.Common.{◌≡◌, ℕ, zero, suc, ◌<◌, ◌≤◌, ◌==◌, false, not, List, [], ◌∷◌, map, get_or, set, max, Some, None, refl, sym, ◌∙◌, ap, subst, arith}
use Rattle.std.specs.Prelude.{filter, min}
use Rattle.plain_database.proofs.Least.{folded}
use Rattle.std.specs.List.{fold, position, AllByRecursion}
use Rattle.spans.specs.declared.calls.replies.Refusal.TheVariants.{FeedCancelled}
use Rattle.plain_database.specs.declared.feeds.record.FeedRecord.{FeedRecord}
use Rattle.plain_database.specs.FeedTie.{floor_in, fresh_told, new_record, telling, telling_in, told_more, AllFall, Book, FeedsTied, IsRecordOf, live_part, refusal_of_cancel}
use Rattle.plain_database.proofs.Telling.{told_join}

abbrev number_of : FeedRecord → ℕ
number_of x = x.number

abbrev AreRecords : List Effect → List FeedRecord → Type 0
AreRecords p xs = AllByRecursion (λ (x : FeedRecord). IsRecordOf p x.number x) xs

-- where numbers fall from n, what is kept of each record below n is kept of all
kept_below : (p q : List Effect) (n : ℕ) (xs : List FeedRecord) → ((x : FeedRecord) → x.number < n → IsRecordOf p x.number x → IsRecordOf q x.number x) → AllFall n (map number_of xs) → AreRecords p xs → AreRecords q xs
kept_below p q n [] kept falls are = tt
kept_below p q n (x ∷ xs) kept falls are = grind (arith, common_steps, nat_tests, kept x, kept_below p q x.number xs)

-- a feed was opened
pub feeds_open : (book : Book) (p : List Effect) (f seat : ℕ) (kind : Kind) (span : Span) (cursor : ℕ) → f ≡ suc book.opened → AllAllowed p → FeedsTied book p
    → FeedsTied (record { opened = f; live = new_record f seat kind span cursor ∷ book.live }) (Opens f seat kind span cursor ∷ p)
feeds_open book p f seat kind span cursor next all tied = grind (arith, common_steps, nat_tests, unopened p all f, uncancelled p all f, tied.known, kept_below p (Opens f seat kind span cursor ∷ p) f book.live)

-- those of other numbers

abbrev pub others : ℕ → List FeedRecord → List FeedRecord
others f xs = filter (λ (x : FeedRecord). not (x.number == f)) xs

others_live : (f : ℕ) (xs : List FeedRecord) → filter (λ (w : LiveFeed). not (w.number == f)) (map live_part xs) ≡ map live_part (others f xs)
others_live f [] = refl
others_live f (x ∷ xs) = grind (arith, common_steps, nat_tests, others_live f xs)

others_fall : (f n m : ℕ) (xs : List FeedRecord) → m ≤ n → AllFall m (map number_of xs) → AllFall n (map number_of (others f xs))
others_fall f n m [] low falls = tt
others_fall f n m (x ∷ xs) low falls = grind (arith, common_steps, nat_tests, others_fall f n x.number xs, others_fall f x.number x.number xs)

others_are : (p : List Effect) (f : ℕ) (xs : List FeedRecord) → AreRecords p xs → AreRecords (Cancels f ∷ p) (others f xs)
others_are p f [] are = tt
others_are p f (x ∷ xs) are = grind (arith, common_steps, nat_tests, others_are p f xs are.1)

-- a feed was cancelled
pub feeds_cancel : (book : Book) (p : List Effect) (f : ℕ) → FeedsTied book p → FeedsTied (record book { live = others f book.live }) (Cancels f ∷ p)
feeds_cancel book p f tied = grind (arith, common_steps, nat_tests, ap (filter (λ (w : LiveFeed). not (w.number == f))) tied.live, others_live f book.live, others_are p f book.live tied.each, others_fall f (suc book.opened) (suc book.opened) book.live)

-- a feed was told messages

-- what telling leaves of each record is left of all
telling_leaves : {A : Type 0} (g : FeedRecord → A) (f : ℕ) (ms : List Message) → ((x : FeedRecord) → g (telling ms x) ≡ g x) → (xs : List FeedRecord) → map g (telling_in f ms xs) ≡ map g xs
telling_leaves g f ms same [] = refl
telling_leaves g f ms same (x ∷ xs) = grind (arith, common_steps, nat_tests, same x, telling_leaves g f ms same xs)

telling_are : (p : List Effect) (f max n : ℕ) (ms : List Message) (xs : List FeedRecord) → AllFall n (map number_of xs) → AreRecords p xs → AreRecords (Polls f max ms ∷ p) (telling_in f ms xs)
telling_are p f max n ms [] falls are = tt
telling_are p f max n ms (x ∷ xs) falls are =
    grind (arith, common_steps, nat_tests, ap (told_more ms) are.0.told ∙ sym (told_join (told_to p x.number) ms (fresh_told x.kind x.cursor)), kept_below p (Polls f max ms ∷ p) x.number xs, telling_are p f max x.number ms xs falls.1 are.1)

pub feeds_tell : (book : Book) (p : List Effect) (f max : ℕ) (ms : List Message) → FeedsTied book p → FeedsTied (record book { live = telling_in f ms book.live }) (Polls f max ms ∷ p)
feeds_tell book p f max ms tied = grind (arith, common_steps, nat_tests, telling_leaves live_part f ms, telling_leaves number_of f ms, telling_are p f max (suc book.opened) ms)

-- a write at the place of the first record of a number tells that one more
pub telling_at : (f : ℕ) (ms : List Message) (xs : List FeedRecord) (i : ℕ) (x : FeedRecord) → position (λ (y : FeedRecord). y.number == f) xs ≡ Some i → x ≡ get_or xs i x → set xs i (telling ms x) ≡ telling_in f ms xs
telling_at f ms [] i x at is = cc
telling_at f ms (y ∷ ys) zero x at is = grind (arith, common_steps, nat_tests)
telling_at f ms (y ∷ ys) (suc i) x at is = grind (arith, common_steps, nat_tests, telling_at f ms ys i x)

-- where there is none of that number, nothing is told
pub telling_none : (f : ℕ) (ms : List Message) (xs : List FeedRecord) → position (λ (y : FeedRecord). y.number == f) xs ≡ None → xs ≡ telling_in f ms xs
telling_none f ms [] none = refl
telling_none f ms (y ∷ ys) none = grind (arith, common_steps, nat_tests, telling_none f ms ys)

-- finding a feed

-- the record that was found is that of the feed
pub record_found : (p : List Effect) (f : ℕ) (xs : List FeedRecord) (x : FeedRecord) → AreRecords p xs → find (λ (x : FeedRecord). x.number == f) xs ≡ Some x → IsRecordOf p f x
record_found p f [] x are found = cc
record_found p f (y ∷ xs) x are found = grind (arith, common_steps, nat_tests, record_found p f xs x are.1)

none_lives : (f c : ℕ) (xs : List FeedRecord) → find (λ (x : FeedRecord). x.number == f) xs ≡ None → Has (live_feed f c) (map live_part xs) → ⊥
none_lives f c [] none has = has
none_lives f c (x ∷ xs) none has = grind (arith, common_steps, nat_tests, none_lives f c xs)

-- where no record of a feed that was opened was found, the feed was cancelled
pub feeds_missed : (book : Book) (p : List Effect) (f : ℕ) → FeedsTied book p → 1 ≤ f → f ≤ book.opened → find (λ (x : FeedRecord). x.number == f) book.live ≡ None → refusal_of_cancel p f ≡ Some FeedCancelled
feeds_missed book p f tied some low none =
    let dead : (feed : Feed) → feed_of p f ≡ Some feed → is_cancelled p f ≡ false → ⊥ = λ feed is no. none_lives f feed.cursor book.live none (subst (Has (live_feed f feed.cursor)) tied.live (is_live p f feed is no)) in
    grind (arith, common_steps, nat_tests, tied.known f, dead)

-- floors

-- the floor of a feed
pub floor_is : (p : List Effect) (f : ℕ) (x : FeedRecord) → IsRecordOf p f x → floor_of p (live_feed f x.cursor) ≡ floor_in x
floor_is p f x is = grind (arith, common_steps, nat_tests, floor_from, start_low)

floors_are : (p : List Effect) (xs : List FeedRecord) → AreRecords p xs → map (floor_of p) (map live_part xs) ≡ map floor_in xs
floors_are p [] are = refl
floors_are p (x ∷ xs) are = grind (arith, common_steps, nat_tests, floor_is, floors_are p xs are.1)

-- the least of the floors of the feeds that live
pub feeds_least : (book : Book) (p : List Effect) (n : ℕ) → FeedsTied book p → fold min n (map floor_in book.live) ≡ least_of n (map (floor_of p) (live_feeds p))
feeds_least book p n tied = grind (arith, common_steps, floors_are p book.live tied.each, folded)
