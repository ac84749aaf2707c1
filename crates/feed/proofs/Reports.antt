-- What is told of the feeds that live.
use Rattle.std.proofs.lemmas.Grind.{common_steps}
use Rattle.std.proofs.Common.{List, None, Option, Some, [], ap, arith, inl, inr, length, map, refl, subst, sym, take, true, get_or, ℕ, ◌+◌, ◌++◌, ◌<◌, ◌∙◌, ◌∷◌, ◌≡◌}
use Rattle.std.specs.Prelude.{Contains, filter_map, is_some, nat_eq, option_map, ◌↔◌}
use Rattle.feed.proofs.Common.{AllByRecursion, AreLive, Has, IsDistinct, IsPermutation, IsSorted, IsStrictlyIncreasing, Place, append-nil, cons_option, feed_report, keys_of, nat_cmp, nat_tests, take_more}
use Rattle.std.proofs.lemmas.List.Elements.{All-from_recursion, filter_map-append}
use Rattle.std.proofs.lemmas.List.Sorted.{Contains-permutation, IsNonDecreasingBy-from_sort, IsPermutation-sym}
use Rattle.std.proofs.lemmas.Map.Keys.{IsDistinct-IsPermutation, IsStrictlyIncreasing-from_distinct}
use Rattle.spans.specs.declared.report.FeedReport.{FeedReport}
use Rattle.kept.specs.Finding.{AreThose}
use Rattle.kept.proofs.Contained.{contains_has}
use Rattle.feed.specs.Standing.{place_at, Lives}
use Rattle.feed.proofs.Counting.{distinct, has_key}

-- ---- the numbers

turned : (a b : ℕ) → nat_eq a b ≡ nat_eq b a
turned a b = grind (arith, nat_tests)

-- numbers of a map that are sorted rise
pub sorted_rise : (ks fs : List ℕ) → IsDistinct nat_eq ks → IsPermutation ks fs → IsSorted nat_cmp fs → IsStrictlyIncreasing fs
sorted_rise ks fs d moved sorted = IsStrictlyIncreasing-from_distinct fs (IsNonDecreasingBy-from_sort (λ x. x) fs sorted) (IsDistinct-IsPermutation nat_eq turned ks fs moved d)

-- and are those of the feeds that live
pub numbers_those : (es : Lives) (fs : List ℕ) → IsDistinct nat_eq (keys_of es) → IsPermutation (keys_of es) fs → AreThose (λ f. is_some (place_at es f)) fs
numbers_those es fs d moved = record {
  distinct = distinct fs (IsDistinct-IsPermutation nat_eq turned (keys_of es) fs moved d);
  each = λ f. let k = contains_has f (keys_of es) in let c = contains_has f fs in let h = has_key f es in (
    λ i. h.0 (k.0 (Contains-permutation fs (keys_of es) f (IsPermutation-sym (keys_of es) fs moved) (c.1 i))),
    λ is. c.0 (Contains-permutation (keys_of es) fs f moved (k.1 (h.1 is))),
  );
}

-- ---- the reports

-- one more of a list
told_more : (h : ℕ → Option FeedReport) (fs : List ℕ) (i : ℕ) → i < length fs → filter_map h (take (i + 1) fs) ≡ filter_map h (take i fs) ++ cons_option (h (get_or fs i 0)) []
told_more h fs i low = ap (filter_map h) (take_more fs i 0 low) ∙ filter_map-append h (take i fs) (get_or fs i 0 ∷ [])

abbrev told : (ℕ → Option Place) → List ℕ → List FeedReport
told feed fs = filter_map (λ f. option_map (feed_report f) (feed f)) fs

abbrev IsRight : (ℕ → Option Place) → FeedReport → Type 0
IsRight feed n = option_map (feed_report n.number) (feed n.number) ≡ Some n

-- one more number: its feed lives, or doesn't
pub told_one : (h : ℕ → Option FeedReport) (fs : List ℕ) (i : ℕ) (ns ns' : List FeedReport) (n : FeedReport) → i < length fs → ns ≡ filter_map h (take i fs) → h (get_or fs i 0) ≡ Some n → ns' ≡ ns ++ n ∷ [] → ns' ≡ filter_map h (take (i + 1) fs)
told_one h fs i ns ns' n low so_far is put = put ∙ ap (λ l. l ++ n ∷ []) so_far ∙ sym (told_more h fs i low ∙ ap (λ o. filter_map h (take i fs) ++ cons_option o []) is)

pub told_none : (h : ℕ → Option FeedReport) (fs : List ℕ) (i : ℕ) (ns ns' : List FeedReport) → i < length fs → ns ≡ filter_map h (take i fs) → h (get_or fs i 0) ≡ None → ns' ≡ ns → ns' ≡ filter_map h (take (i + 1) fs)
told_none h fs i ns ns' low so_far is same = same ∙ so_far ∙ sym (told_more h fs i low ∙ ap (λ o. filter_map h (take i fs) ++ cons_option o []) is ∙ append-nil (filter_map h (take i fs)))

numbers_are : (feed : ℕ → Option Place) (fs : List ℕ) → ((f : ℕ) → Has f fs → is_some (feed f) ≡ true) → map (λ (n : FeedReport). n.number) (told feed fs) ≡ fs
numbers_are feed [] all = refl
numbers_are feed (f ∷ fs) all = let more = numbers_are feed fs (λ g i. all g (inr i)) in let here = all f (inl refl) in grind (arith, common_steps)

each_right : (feed : ℕ → Option Place) (fs : List ℕ) → AllByRecursion (IsRight feed) (told feed fs)
each_right feed [] = tt
each_right feed (f ∷ fs) = grind (arith, common_steps, each_right feed fs)

-- what is told of the numbers of the feeds that live is the report of them
pub live_reports : (feed : ℕ → Option Place) (fs : List ℕ) (ns : List FeedReport) → IsStrictlyIncreasing fs → AreThose (λ f. is_some (feed f)) fs → ns ≡ told feed fs → AreLive feed ns
live_reports feed fs ns rising those is =
    let named : map (λ (n : FeedReport). n.number) (told feed fs) ≡ fs = numbers_are feed fs (λ f i. (those.each f).0 i) in
    subst (AreLive feed) (sym is) (record {
      rising = subst IsStrictlyIncreasing (sym named) rising;
      each = λ f. subst (λ l. Contains l f ↔ (is_some (feed f) ≡ true)) (sym named) (let c = contains_has f fs in (λ i. (those.each f).0 (c.0 i), λ e. c.1 ((those.each f).1 e)));
      right = All-from_recursion (IsRight feed) (told feed fs) (each_right feed fs);
    })
