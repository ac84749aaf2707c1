-- The least protected timestamp is that of the first by timestamp.
use Rattle.closing.proofs.Common.{AllByRecursion, IsStrictlySortedBy, Less, Protection, by_test, common_steps, eq-eqb, is_at, is_eq, is_gt, keys_of, lookup, map-append, nat_cmp, nat_tests}
use Rattle.std.proofs.Common.{Bool, List, Option, Some, ap, arith, false, inl, inr, min, refl, subst, sym, true, ℕ, ◌≤◌, ◌==◌, ◌⊎◌, ◌≡◌, ◌++◌, ◌∷◌, ◌∙◌, []}
use Rattle.std.specs.Prelude.{map}
use Rattle.std.proofs.lemmas.Cmp.{nat_cmp_total, tied_itself}
use Rattle.spans.specs.Transactions.{least_of}
use Rattle.spans.proofs.Open.{IsAmong}
use Rattle.spans.proofs.Horizon.{least_low}
use Rattle.closing.specs.Standing.{newest_first, protection, is_just, pair_cmp}
use Rattle.closing.proofs.Tying.{AreAlike}

-- the timestamps that are protected
abbrev pub times : List (ℕ × ℕ) → List ℕ
times es = map (λ (p : Protection). p.at) (newest_first es)

least_top : (n t : ℕ) (ts : List ℕ) → IsAmong t ts → least_of n ts ≤ t
least_top n t [] i = absurd i
least_top n t (s ∷ ts) i = grind (arith, common_steps, least_top n t ts)

least_high : (m n : ℕ) (ts : List ℕ) → m ≤ n → ((t : ℕ) → IsAmong t ts → m ≤ t) → m ≤ least_of n ts
least_high m n [] low all = low
least_high m n (t ∷ ts) low all = let here : m ≤ t = all t (inl refl) in let more : m ≤ least_of n ts = least_high m n ts low (λ s i. all s (inr i)) in omega arith

least_is : (m n : ℕ) (ts : List ℕ) → IsAmong m ts → ((t : ℕ) → IsAmong t ts → m ≤ t) → min m n ≡ least_of n ts
least_is m n ts i all = grind (arith, nat_tests, least_top, least_low, least_high)

among_append : (t : ℕ) (xs ys : List ℕ) → IsAmong t xs ⊎ IsAmong t ys → IsAmong t (xs ++ ys)
among_append t [] ys i = elim i [ inl l ↦ absurd l | inr r ↦ r ]
among_append t (x ∷ xs) ys i = grind (arith, common_steps, among_append t xs ys)

among_parts : (t : ℕ) (xs ys : List ℕ) → IsAmong t (xs ++ ys) → IsAmong t xs ⊎ IsAmong t ys
among_parts t [] ys i = inr i
among_parts t (x ∷ xs) ys i = grind (arith, common_steps, among_parts t xs ys)

times_more : (e : ℕ × ℕ) (es : List (ℕ × ℕ)) → times (e ∷ es) ≡ times es ++ e.1 ∷ []
times_more e es = map-append (λ (p : Protection). p.at) (newest_first es) (protection e.0 e.1 ∷ [])

is_among : (id t : ℕ) (es : List (ℕ × ℕ)) → lookup (is_at (nat_cmp id)) es ≡ Some t → IsAmong t (times es)
is_among id t [] found = cc
is_among id t (e ∷ es) found = grind (arith, nat_tests, times_more, among_append, by_test, is_among id t es)

other_number : (k id t : ℕ) (es : List (ℕ × ℕ)) → AllByRecursion (λ q. nat_cmp k q ≡ Less) (keys_of es) → lookup (is_at (nat_cmp id)) es ≡ Some t → is_at (nat_cmp id) k ≡ false
other_number k id t [] above found = cc
other_number k id t (e ∷ es) above found = grind (arith, common_steps, other_number k id t es above.1)

has_number : (t : ℕ) (es : List (ℕ × ℕ)) → IsStrictlySortedBy nat_cmp (keys_of es) → IsAmong t (times es) → (id : ℕ) × (lookup (is_at (nat_cmp id)) es ≡ Some t)
unfolding IsStrictlySortedBy
has_number t [] rising i = absurd i
has_number t (e ∷ es) rising i = elim (among_parts t (times es) (e.1 ∷ []) (subst (IsAmong t) (times_more e es) i)) [
  | inl l ↦ (let more = has_number t es rising.1 l in (more.0, rw (other_number e.0 more.0 t es rising.0 more.1) more.1))
  | inr r ↦ (let here : is_at (nat_cmp e.0) e.0 ≡ true = ap is_eq (tied_itself nat_cmp_total e.0) in (e.0, rw here (ap Some (elim r [ inl this ↦ this | inr none ↦ absurd none ]))))
]

just : (o : Option ℕ) (t : ℕ) → is_just o t ≡ true → o ≡ Some t
just o t e = grind (arith, common_steps)

not_above : (t id s k : ℕ) → is_gt (pair_cmp (t, id) (s, k)) ≡ false → t ≤ s
not_above t id s k e = grind (arith, nat_tests)

-- the first pair has the least timestamp
pub first_least : (c : ℕ × ℕ → Bool) (es : List (ℕ × ℕ)) (first : ℕ × ℕ) → IsStrictlySortedBy nat_cmp (keys_of es) → AreAlike c (λ id. lookup (is_at (nat_cmp id)) es)
    → c first ≡ true → ((q : ℕ × ℕ) → c q ≡ true → is_gt (pair_cmp first q) ≡ false) → (n : ℕ) → min first.0 n ≡ least_of n (times es)
first_least c es first rising alike has least n = least_is first.0 n (times es)
    (is_among first.1 first.0 es (just (lookup (is_at (nat_cmp first.1)) es) first.0 (sym (alike first.0 first.1) ∙ has)))
    (λ t i. let at = has_number t es rising i in not_above first.0 first.1 t at.0 (least (t, at.0) (alike t at.0 ∙ rw at.1 (eq-eqb t t refl))))

-- where there is no pair, nothing is protected
pub none_least : (c : ℕ × ℕ → Bool) (es : List (ℕ × ℕ)) → AreAlike c (λ id. lookup (is_at (nat_cmp id)) es) → ((q : ℕ × ℕ) → c q ≡ false) → (n : ℕ) → n ≡ least_of n (times es)
none_least c [] alike none n = refl
none_least c (e ∷ es) alike none n =
    let here : is_at (nat_cmp e.0) e.0 ≡ true = ap is_eq (tied_itself nat_cmp_total e.0) in
    let same : (e.1 == e.1) ≡ false = sym (alike e.1 e.0 ∙ rw here refl) ∙ none (e.1, e.0) in
    absurd (grind (arith, nat_tests))
