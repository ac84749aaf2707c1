-- Events in the order of their positions, which are those of a history without a gap, are that history.
use Rattle.std.proofs.Common.{◌≡◌, ℕ, zero, suc, ◌+◌, ◌<◌, ◌≤◌, cond, nat_lt, List, [], ◌∷◌, ◌++◌, length, get_or, sym, refl, ap, ◌∙◌, subst, arith, All}
use Rattle.std.specs.Prelude.{◌≢◌, sum_by, IsPermutation}
use Rattle.std.specs.List.{Contains}
use Rattle.std.proofs.lemmas.Bool.Decides.{nat_tests}
use Rattle.std.proofs.lemmas.Bool.{le-ltb}
use Rattle.std.proofs.lemmas.List.{ext_get_or, nil_from_length}
use Rattle.std.proofs.lemmas.List.Elements.{Contains-get_or}
use Rattle.std.proofs.lemmas.List.Sorted.{Contains-permutation, IsPermutation-sym, IsPermutation-trans, length_permutation}
use Rattle.races.proofs.Common.{Event, IsGapless, IsNonDecreasingBy, get_or_default, sum_by-IsPermutation, sum_by-cons}
use Rattle.races.specs.declared.merging.MergeError.{MergeError}
use Rattle.races.specs.declared.merging.MergeError.TheVariants as errors
use Rattle.races.specs.Merging.{position_of, start_of, IsMerged, IsReason}

-- where an event stands
pub placed : (n k : ℕ) (h : List Event) (d : Event) → IsGapless n h → k < length h → (get_or h k d).position ≡ n + k
placed n k [] d g there = absurd (omega arith)
placed n zero (e ∷ h) d g there = omega (arith, g.0)
placed n (suc k) (e ∷ h) d g there = let rest = placed (suc n) k h d g.1 (omega arith) in omega arith

-- one where a position is below the place
abbrev low : ℕ → ℕ → ℕ
low n position = cond (nat_lt position n) 1 0

none_low : (n : ℕ) (xs : List Event) → All (λ (x : Event). n ≤ x.position) xs → sum_by (λ (x : Event). low n x.position) xs ≡ 0
none_low n [] high = refl
none_low n (x ∷ xs) high =
    let first = ap {B = ℕ} (λ b. cond b 1 0) (le-ltb x.position n (high 0 x (omega arith))) in
    omega (arith, sum_by-cons (λ (x : Event). low n x.position) x xs, first, none_low n xs (λ k d there. high (suc k) d (omega arith)))

-- events that rise, and weigh by position as a history without a gap, have no gap
pub places : (n : ℕ) (h m : List Event) → IsGapless n h → IsNonDecreasingBy position_of m → ((f : ℕ → ℕ) → sum_by (λ (e : Event). f e.position) m ≡ sum_by (λ (e : Event). f e.position) h) → IsGapless n m
places n h [] g rising weighs = tt
places n [] (x ∷ xs) g rising weighs = absurd (omega (arith, weighs (λ p. 1), sum_by-cons (λ (e : Event). 1) x xs))
places n (e ∷ h) (x ∷ xs) g rising weighs =
    let c = λ (f : ℕ → ℕ). sum_by-cons (λ (e : Event). f e.position) x xs in let c' = λ (f : ℕ → ℕ). sum_by-cons (λ (e : Event). f e.position) e h in
    let none = none_low n (e ∷ h) (λ k d there. omega (arith, placed n k (e ∷ h) d g there)) in
    let others = none_low (suc n) h (λ k d there. omega (arith, placed (suc n) k h d g.1 there)) in
    let rising_tail : n < x.position → All (λ (y : Event). suc n ≤ y.position) xs = λ far k d there. let up = rising 0 (suc k) d (omega arith) (omega arith) in omega arith in
    let least : n ≤ x.position = grind (arith, nat_tests, weighs (low n), c (low n), none) in
    let most : x.position ≤ n = grind (arith, nat_tests, weighs (low (suc n)), c (low (suc n)), c' (low (suc n)), others, g.0, none_low (suc n) xs, rising_tail) in
    (omega arith, places (suc n) h xs g.1 (λ i j d order there. rising (suc i) (suc j) d (omega arith) (omega arith)) (λ f. let w = weighs f in let same : f x.position ≡ f e.position = ap f (let p = g.0 in omega arith) in omega (arith, w, c f, c' f, same)))

-- the same events, both without a gap
pub same_events : (n : ℕ) (h m : List Event) → IsGapless n h → IsGapless n m → IsPermutation m h → m ≡ h
same_events n h [] g g' same = sym (nil_from_length h (length_permutation [] h same))
same_events n h (x ∷ xs) g g' same =
    let m = x ∷ xs in let long = length_permutation m h same in
    ext_get_or x m h (sym long) (λ k there.
    let y = get_or m k x in
    let has : Contains h y = Contains-permutation m h y same (Contains-get_or m k x there) in
    let here : has.0 ≡ k = omega (arith, placed n k m x g' there, placed n has.0 h y g has.1, ap position_of has.2) in
    sym has.2 ∙ (ap (λ j. get_or h j y) here ∙ get_or_default h k y x (omega (arith, long, there))))

next_place : (n : ℕ) (before after : List Event) (last event : Event) → IsGapless n ((before ++ last ∷ []) ++ event ∷ after) → event.position ≡ last.position + 1
next_place n [] after last event g = omega (arith, g.0, g.1.0)
next_place n (b ∷ before) after last event g = next_place (suc n) before after last event g.1

module _ (n : ℕ) (h all : List Event) (g : IsGapless n h) (whole : IsPermutation all h) where
  in_place : (m : List Event) → IsPermutation all m → IsNonDecreasingBy position_of m → IsGapless n m
  in_place m same rising = places n h m g rising (λ f. sum_by-IsPermutation (λ (e : Event). f e.position) all m same ∙ sym (sum_by-IsPermutation (λ (e : Event). f e.position) all h whole))

  -- put together in order, the events are the history
  pub merged_is : (m : List Event) → IsMerged all m → m ≡ h
  merged_is m merged =
      let rising : IsNonDecreasingBy position_of m = λ i j d order there. omega (arith, placed (start_of m) i m d merged.unbroken (omega arith), placed (start_of m) j m d merged.unbroken there) in
      same_events n h m g (in_place m merged.same rising) (IsPermutation-trans m all h (IsPermutation-sym all m merged.same) whole)

  -- there is no reason not to put them together but want of memory
  pub never_refused : (e : MergeError) → e ≢ errors.NoMemory → IsReason all e → ⊥
  never_refused errors.NoMemory other r = other refl
  never_refused (errors.Repeated position) other r =
      let b = r.breaks in omega (arith, next_place n b.before b.after b.last b.event (subst (IsGapless n) b.parts (in_place r.sorted r.same r.rising)), b.broken)
  never_refused (errors.Gap position) other r =
      let b = r.breaks in omega (arith, next_place n b.before b.after b.last b.event (subst (IsGapless n) b.parts (in_place r.sorted r.same r.rising)), b.broken)
