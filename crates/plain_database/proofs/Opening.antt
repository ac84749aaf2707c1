-- The undecided transactions of the table are those of the history.
use Rattle.std.proofs.Common.{◌≡◌, ℕ, ◌≤◌, ◌<◌, ◌-◌, ◌⊎◌, Bool, true, not, cond, ◌&&◌, List, [], ◌∷◌, get_or, length, map, Option, Some, None, refl, sym, ◌∙◌, ap, arith}
use Rattle.std.specs.Prelude.{All, filter, is_some, min, nat_lt, option_map, ◌↔◌}
use Rattle.std.specs.List.{find}
use Rattle.std.specs.List.Sorted.{IsStrictlySortedBy}
use Rattle.std.proofs.lemmas.Cmp.{eq_by_cmp_equiv, nat_cmp_total}
use Rattle.std.proofs.lemmas.List.Elements.{All-filter, All-map}
use Rattle.std.proofs.lemmas.Map.Entries.{length-keys_of, lookup-filter-keys, lookup-filter-values, lookup_from_place, option_filter}
use Rattle.std.proofs.lemmas.Map.Keys.{IsDistinct-from_sorted, IsStrictlyIncreasing-from_sorted}
use Rattle.std.proofs.lemmas.Option.{slice_get-get_or}
use Rattle.std.proofs.lemmas.Simd.{map-map}
use Rattle.kept.proofs.Contained.{contains_has}
use Rattle.spans.specs.Report.{AreUndecided}
use Rattle.spans.specs.declared.report.TransactionReport.{TransactionReport}
use Rattle.plain_database.proofs.Common.{AllAllowed, AllByRecursion, Effect, Has, Less, among_has, at_most, begun_among, begun_of, by_test, common_steps, decided_through, distinct_filter, distinct_times, each_low, greatest_of, has_begun, has_filter, has_undecided, is_at, is_undecided, keys_of, least_low, least_of, nat_cmp, nat_tests, open_distinct, owner_of, same_length, undecided_timestamps, write_count, write_set_length}
use Rattle.plain_database.specs.declared.versions.begun.Begun.{Begun}
use Rattle.plain_database.specs.Table.{AllBegun, begun_at, committed_at, gone_in, keys_in, seat_in}
use Rattle.plain_database.specs.VersionsTied.{Held, VersionsTied, IsRising, above_closed, is_open, stopped}

-- ---- transactions whose timestamps rise

-- a timestamp is listed where one is found there
has_time : (t : ℕ) (es : AllBegun) → Has t (keys_of es) ↔ (is_some (begun_at es t) ≡ true)
has_time t [] = (λ i. absurd i, λ e. cc)
has_time t (e ∷ es) = grind (arith, common_steps, nat_tests, has_time t es)

-- where all are above t, so are those that pass a test
later : (q : ℕ × Begun → Bool) (t : ℕ) (es : AllBegun) → AllByRecursion (λ k. nat_cmp t k ≡ Less) (keys_of es) → AllByRecursion (λ k. nat_cmp t k ≡ Less) (keys_of (filter q es))
later q t [] all = tt
later q t (e ∷ es) all = grind (arith, common_steps, later q t es)

part_rises : (q : ℕ × Begun → Bool) (es : AllBegun) → IsRising es → IsRising (filter q es)
unfolding IsStrictlySortedBy
part_rises q [] rising = tt
part_rises q (e ∷ es) rising = by_test (q e) (λ on. rw on (later q e.0 es rising.0, part_rises q es rising.1)) (λ off. rw off (part_rises q es rising.1))

-- what is listed among those above n is above n
above : (n t : ℕ) (ks : List ℕ) → AllByRecursion (λ k. nat_cmp n k ≡ Less) ks → Has t ks → n < t
above n t [] all i = absurd i
above n t (k ∷ ks) all i = grind (arith, common_steps, nat_tests, above n t ks)

-- ---- the undecided ones

-- none at or below closed is undecided
abbrev pub all_open : Held → AllBegun
all_open h = filter (λ (e : ℕ × Begun). is_open e.1) (above_closed h)

-- one of them is what began and neither committed nor is gone
open_is : (closed t : ℕ) (o : Option Begun) → is_some (option_filter is_open (cond (nat_lt closed t) o None)) ≡ (is_some (seat_in o) && (not (committed_at o) && not (gone_in closed t o)))
open_is closed t o = grind (arith, common_steps, nat_tests)

-- a test of the timestamps may come before or after
times_where : (q : ℕ → Bool) (es : AllBegun) → keys_of (filter (λ (e : ℕ × Begun). q e.0 && is_open e.1) es) ≡ filter q (keys_of (filter (λ (e : ℕ × Begun). is_open e.1) es))
times_where q [] = refl
times_where q (e ∷ es) = grind (arith, common_steps, times_where q es)

-- ---- the least

-- what is at or below each is at or below the least
least_over : (k n : ℕ) (ts : List ℕ) → k ≤ n → ((t : ℕ) → Has t ts → k ≤ t - 1) → k ≤ least_of n (map (λ t. t - 1) ts)
least_over k n [] low each = low
least_over k n (t ∷ ts) low each = grind (arith, common_steps, least_over k n ts low)

-- the least is at or below each
least_reached : (n t : ℕ) (ts : List ℕ) → Has t ts → least_of n (map (λ i. i - 1) ts) ≤ t - 1
least_reached n t [] i = absurd i
least_reached n t (k ∷ ks) i = grind (arith, common_steps, least_reached n t ks)

-- the least of more is lower
least_part : (n : ℕ) (ts us : List ℕ) → ((t : ℕ) → Has t us → Has t ts) → least_of n (map (λ t. t - 1) ts) ≤ least_of n (map (λ t. t - 1) us)
least_part n ts us all = least_over (least_of n (map (λ t. t - 1) ts)) n us (least_low n (map (λ t. t - 1) ts)) (λ t i. least_reached n t ts (all t i))

-- the first of those that rise is the least
stopped_first : (q : ℕ × Begun → Bool) (n : ℕ) (es : AllBegun) → IsRising es → stopped n (option_map (λ (e : ℕ × Begun). e.0) (find q es)) ≡ least_of n (map (λ t. t - 1) (keys_of (filter q es)))
unfolding IsStrictlySortedBy
stopped_first q n [] rising = refl
stopped_first q n (e ∷ es) rising =
    let low = least_low n (map (λ t. t - 1) (keys_of (filter q es))) in
    let all = least_over (min n (e.0 - 1)) n (keys_of (filter q es)) (omega arith) (λ t i. omega (arith, above e.0 t (keys_of (filter q es)) (later q e.0 es rising.0) i)) in
    by_test (q e) (λ on. rw on (omega arith)) (λ off. rw off (stopped_first q n es rising.1))

-- ---- how each is reported

abbrev pub report_of : ℕ × Begun → TransactionReport
report_of e = record { timestamp = e.0; seat = e.1.seat; keys = length e.1.writes }

abbrev IsReported : List Effect → ℕ × Begun → Type 0
IsReported p e = (owner_of p e.0 ≡ Some e.1.seat) × (length e.1.writes ≡ write_count p e.0)

-- ---- what a store says that is tied to a history

module _ (h : Held) (rising : IsRising h.table) (p : List Effect) (all : AllAllowed p) (tied : VersionsTied h p) where
  above_rises : IsRising (above_closed h)
  above_rises = part_rises _ h.table rising

  open_rises : IsRising (all_open h)
  open_rises = part_rises _ (above_closed h) above_rises

  open_at : (t : ℕ) → is_some (begun_at (all_open h) t) ≡ is_undecided p t
  open_at t =
      ap is_some (lookup-filter-values (eq_by_cmp_equiv nat_cmp_total) is_open t (above_closed h) (IsDistinct-from_sorted nat_cmp (keys_of (above_closed h)) above_rises)
      ∙ ap (option_filter is_open) (lookup-filter-keys (is_at (nat_cmp t)) (nat_lt h.closed) (nat_lt h.closed t) (λ k same. grind (arith, nat_tests)) h.table))
      ∙ open_is h.closed t (begun_at h.table t)
      ∙ rw (tied.owners t, tied.committed t, tied.aborted t) refl

  open_time : (t : ℕ) → Has t (keys_of (all_open h)) ↔ (is_undecided p t ≡ true)
  open_time t = rw (← open_at t) (has_time t (all_open h))

  same_times : (t : ℕ) → Has t (keys_of (all_open h)) ↔ Has t (undecided_timestamps p)
  same_times t = let here = open_time t in let there = has_undecided p t in grind (arith, common_steps)

  pub open_where : (q : ℕ → Bool) → length (filter (λ (e : ℕ × Begun). q e.0 && is_open e.1) (above_closed h)) ≡ length (filter q (undecided_timestamps p))
  open_where q =
      sym (length-keys_of (filter (λ (e : ℕ × Begun). q e.0 && is_open e.1) (above_closed h))) ∙ ap length (times_where q (above_closed h))
      ∙ same_length (filter q (keys_of (all_open h))) (filter q (undecided_timestamps p)) (distinct_filter q _ (distinct_times _ open_rises)) (distinct_filter q _ (open_distinct p all))
      (λ t. let same = same_times t in grind (arith, common_steps, has_filter))

  pub stopped_is : (to : ℕ) (oldest : Option ℕ) → oldest ≡ option_map (λ (e : ℕ × Begun). e.0) (find (λ (e : ℕ × Begun). is_open e.1) (above_closed h)) → stopped to oldest ≡ decided_through p to
  stopped_is to oldest is = ap (stopped to) is ∙ stopped_first _ to (above_closed h) above_rises
      ∙ omega (arith, least_part to (keys_of (all_open h)) (undecided_timestamps p) (λ t. (same_times t).1), least_part to (undecided_timestamps p) (keys_of (all_open h)) (λ t. (same_times t).0))

  reported : All (IsReported p) h.table
  reported k d low =
      let e = get_or h.table k d in
      let is = lookup_from_place (eq_by_cmp_equiv nat_cmp_total) h.table k e.0 e.1 (IsDistinct-from_sorted nat_cmp (keys_of h.table) rising) (slice_get-get_or h.table k d low) in
      (sym (tied.owners e.0) ∙ ap seat_in is, sym (length-keys_of e.1.writes) ∙ ap length (sym (ap keys_in is) ∙ tied.keys e.0) ∙ write_set_length p e.0)

  pub reports_are : AreUndecided p (map report_of (all_open h))
  reports_are = record {
    rising = rw map-map (IsStrictlyIncreasing-from_sorted (keys_of (all_open h)) open_rises);
    each = λ t. let c = contains_has t (keys_of (all_open h)) in let here = open_time t in rw map-map (λ i. here.0 (c.0 i), λ is. c.1 (here.1 is));
    right = All-map (λ (n : TransactionReport). (owner_of p n.timestamp ≡ Some n.seat) × (n.keys ≡ write_count p n.timestamp)) report_of (all_open h)
        (All-filter _ (IsReported p) (above_closed h) (All-filter _ (IsReported p) h.table reported));
  }

-- ---- the latest

pub latest_is : (h : Held) (p : List Effect) → VersionsTied h p → (l : ℕ) → ((t : ℕ) → is_some (begun_at h.table t) ≡ true → t ≤ l) → (l ≡ 0) ⊎ (is_some (begun_at h.table l) ≡ true) → l ≡ greatest_of 0 (begun_of p)
latest_is h p tied l most reached =
    let there : (t : ℕ) → is_some (begun_at h.table t) ≡ is_some (owner_of p t) = λ t. grind (arith, common_steps, tied.owners t) in
    let top : greatest_of 0 (begun_of p) ≤ l = at_most 0 l (begun_of p) (omega arith) (λ t i. most t (there t ∙ has_begun p t i)) in
    grind (arith, common_steps, each_low 0 l (begun_of p), among_has, begun_among)
