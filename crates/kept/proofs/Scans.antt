-- A scan of the kept keys finds what a scan of all written keys finds.
use Rattle.kept.proofs.Common.{After, AllAllowed, Blocked, Effect, IsIn, IsKeptOf, Kept, Refusal, Reply, Rows, Span, blocked_in, closed_of, committed_value, common_steps, filter_in, filter_rises, filtered_same, first_refusal_or, horizon_of, in_span, is_blocked, keys_rise, newest_is, pairs_alike, pairs_of, pairs_of_some, settled_in, visible, visible_in, written_keys}
use Rattle.std.proofs.Common.{Bool, List, None, Option, Some, [], ap, arith, inl, inr, map, not, refl, sym, true, ℕ, ◌&&◌, ◌<◌, ◌==◌, ◌∙◌, ◌∷◌, ◌≡◌, ◌≤◌, ◌⊎◌}
use Rattle.std.specs.Prelude.{filter, is_some}
use Rattle.kept.specs.Finding.{AreKeysOf, is_seen_blocked, seen}
use Rattle.kept.proofs.Reading.{blocked_is, blocker_is, seen_value, settled_is}

-- tests that don't apply don't matter
tests_that_apply : (q : List ℕ → Bool) (why : List ℕ → Refusal) (xs : List (List ℕ)) (reply : Reply) → first_refusal_or (map (λ x. (q x, why x)) xs) reply ≡ first_refusal_or (map (λ x. (q x, why x)) (filter q xs)) reply
tests_that_apply q why [] reply = refl
tests_that_apply q why (x ∷ xs) reply = grind (arith, common_steps, tests_that_apply q why xs reply)

-- tests that are alike refuse alike
tests_alike : (q r : List ℕ → Bool) (why as' : List ℕ → Refusal) (xs : List (List ℕ)) (reply : Reply) → ((x : List ℕ) → q x ≡ r x) → ((x : List ℕ) → r x ≡ true → why x ≡ as' x)
    → first_refusal_or (map (λ x. (q x, why x)) xs) reply ≡ first_refusal_or (map (λ x. (r x, as' x)) xs) reply
tests_alike q r why as' [] reply same whys = refl
tests_alike q r why as' (x ∷ xs) reply same whys = grind (arith, common_steps, tests_alike q r why as' xs reply same whys)

-- a kept key of the span, where what is found there is kept
seen_key : (k : Kept) (span : Span) (keys : List (List ℕ)) → AreKeysOf k span keys → (x : List ℕ) (t : ℕ) → in_span span x ≡ true → (0 < (seen k x t).ts) ⊎ ((v : List ℕ) × ((seen k x t).after ≡ Some v)) → IsIn x keys
seen_key k span keys are x t inside found = elim (newest_is (k.version x) t).has [
  | inl zeroth ↦ absurd (elim found [ inl some ↦ omega (arith, zeroth.0, some) | inr value ↦ (let no' : None ≡ Some value.0 = sym zeroth.1 ∙ value.1 in cc) ])
  | inr some ↦ (are.each x).1 (inside, (seen k x t).ts, ap is_some some.1)
]

-- the rows of a scan of the kept keys
rows_are : (k : Kept) (p : List Effect) (span : Span) (keys : List (List ℕ)) → AreKeysOf k span keys → (t : ℕ) (m : List ℕ → After) → ((x : List ℕ) → (seen k x t).after ≡ m x) → ((x v : List ℕ) → m x ≡ Some v → IsIn x (written_keys p))
    → pairs_of (λ x. (seen k x t).after) keys ≡ pairs_of m (filter (in_span span) (written_keys p))
rows_are k p span keys are t m alike written =
    pairs_alike (λ x. (seen k x t).after) m keys alike
    ∙ pairs_of_some m keys
    ∙ ap (pairs_of m) (filtered_same (λ x. is_some (m x)) keys (filter (in_span span) (written_keys p)) are.rising (filter_rises (in_span span) (written_keys p) (keys_rise p)) (λ x is. let f = filter_in (in_span span) x (written_keys p) in let v = some_of (m x) is in (
      λ i. f.1 (((are.each x).0 i).0, written x v.0 v.1),
      λ i. seen_key k span keys are x t (f.0 i).0 (inr (v.0, alike x ∙ v.1)),
    )))
    ∙ sym (pairs_of_some m (filter (in_span span) (written_keys p)))
  where
    some_of : (o : Option (List ℕ)) → is_some o ≡ true → (v : List ℕ) × (o ≡ Some v)
    some_of None is = cc
    some_of (Some v) is = (v, refl)

-- a scan in a transaction
pub scan_is : (k : Kept) (p : List Effect) → AllAllowed p → IsKeptOf k p → (t : ℕ) → horizon_of p ≤ t → (span : Span) (keys : List (List ℕ)) → AreKeysOf k span keys
    → first_refusal_or (map (λ x. (is_seen_blocked k x t, Blocked (seen k x t).ts)) keys) (Rows (pairs_of (λ x. (seen k x t).after) keys))
    ≡ first_refusal_or (map (λ x. (is_blocked p x t, Blocked (visible p x t).ts)) (filter (in_span span) (written_keys p))) (Rows (pairs_of (λ x. (visible p x t).after) (filter (in_span span) (written_keys p))))
scan_is k p all fits t high span keys are =
    ap (λ rows. first_refusal_or (map (λ x. (is_seen_blocked k x t, Blocked (seen k x t).ts)) keys) (Rows rows))
    (rows_are k p span keys are t (λ x. (visible p x t).after) (λ x. seen_value k p fits all x t high) (λ x v is. visible_in p x t v is))
    ∙ tests_alike (λ x. is_seen_blocked k x t) (λ x. is_blocked p x t) (λ x. Blocked (seen k x t).ts) (λ x. Blocked (visible p x t).ts) keys rows (λ x. blocked_is k p fits all x t high) (λ x is. ap Blocked (blocker_is k p fits all x t high is))
    ∙ tests_that_apply (λ x. is_blocked p x t) (λ x. Blocked (visible p x t).ts) keys rows
    ∙ ap (λ ks. first_refusal_or (map (λ x. (is_blocked p x t, Blocked (visible p x t).ts)) ks) rows)
    (filtered_same (λ x. is_blocked p x t) keys (filter (in_span span) (written_keys p)) are.rising (filter_rises (in_span span) (written_keys p) (keys_rise p)) (λ x is. let f = filter_in (in_span span) x (written_keys p) in (
      λ i. f.1 (((are.each x).0 i).0, blocked_in p x t is),
      λ i. seen_key k span keys are x t (f.0 i).0 (inl (positive (seen k x t).ts (not ((seen k x t).ts == t) && not (k.committed x (seen k x t).ts)) (blocked_is k p fits all x t high ∙ is))),
    )))
    ∙ sym (tests_that_apply (λ x. is_blocked p x t) (λ x. Blocked (visible p x t).ts) (filter (in_span span) (written_keys p)) rows)
  where
    rows : Reply
    rows = Rows (pairs_of (λ x. (visible p x t).after) (filter (in_span span) (written_keys p)))

    positive : (n : ℕ) (b : Bool) → (not (n == 0) && b) ≡ true → 0 < n
    positive n b is = grind (arith, common_steps)

-- a scan at a closed timestamp
pub scan_at_is : (k : Kept) (p : List Effect) → AllAllowed p → IsKeptOf k p → (t : ℕ) → horizon_of p ≤ t → t ≤ closed_of p → (span : Span) (keys : List (List ℕ)) → AreKeysOf k span keys
    → pairs_of (λ x. (seen k x t).after) keys ≡ pairs_of (λ x. committed_value p x t) (filter (in_span span) (written_keys p))
scan_at_is k p all fits t high low span keys are = rows_are k p span keys are t (λ x. committed_value p x t) (λ x. settled_is k p fits all x t high low) (λ x v is. settled_in p x t v is)
