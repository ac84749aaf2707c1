-- A read of what is kept finds what a read of the history finds.
use Rattle.std.proofs.Common.{Bool, List, refl, inr, None, Option, arith, true, Some, inl, sym, ◌≡◌, ◌<◌, ◌≤◌, ◌⊎◌, ◌∙◌, ℕ, cond}
use Rattle.kept.proofs.Common.{After, AllAllowed, Effect, IsDropped, IsKeptOf, Kept, Version, by_test, closed_of, committed_value, committed_version_of, dead_is, horizon_low, horizon_of, is_blocked, is_committed, kept_version, ltb-true, nat_tests, newest_is, older_dead, version_of, version_wrote, visible, common_steps, newest_reaches}
use Rattle.std.specs.Prelude.{nat_lt}
use Rattle.kept.specs.Finding.{seen, is_seen_blocked}
use Rattle.spans.proofs.Closed.{closed_value, closed_committed}
use Rattle.kept.proofs.Dead.{committed_stands, kept_is}

-- the value of the visible version, and the version itself unless it was dropped
pub record IsSeen (p : List Effect) (x : List ℕ) (t : ℕ) (n : Version) : Type 0 where
  pub value : n.after ≡ (visible p x t).after
  pub same : (n.ts ≡ (visible p x t).ts) ⊎ ((n.ts ≡ 0) × ((visible p x t).ts ≤ horizon_of p) × (is_committed p (visible p x t).ts ≡ true))

-- a version that isn't kept was dropped
gone_is : (k : Kept) (p : List Effect) → IsKeptOf k p → (x : List ℕ) (i : ℕ) (a : After) → version_of p x i ≡ Some a → k.version x i ≡ None → IsDropped p x i
gone_is k p fits x i a there none = dead_is p x i (dropped _ _ (sym (fits.versions x i) ∙ none) there)
  where
    dropped : (b : Bool) (o : Option After) → cond b None o ≡ None → o ≡ Some a → b ≡ true
    dropped b o e h = grind (arith, common_steps)

-- from the horizon on what is kept is enough
pub kept_newest : (k : Kept) (p : List Effect) → AllAllowed p → IsKeptOf k p → (x : List ℕ) (t : ℕ) → horizon_of p ≤ t → IsSeen p x t (seen k x t)
kept_newest k p all fits x t high = let n = newest_is (k.version x) t in let v = newest_is (version_of p x) t in elim n.has [
  | inl zeroth ↦ elim v.has [
    | inl none ↦ record { value = zeroth.1 ∙ sym none.1; same = inl (zeroth.0 ∙ sym none.0) }
    | inr some ↦ (let d = gone_is k p fits x _ _ some.1 (n.gap _ (omega (arith, zeroth.0, some.0)) v.at_most) in
        record { value = zeroth.1 ∙ sym (deleted some.1 d); same = inr (zeroth.0, d.low, d.committed) })
  ]
  | inr here ↦ (let there = kept_is p x _ _ (sym (fits.versions x _) ∙ here.1) in let e : (seen k x t).ts ≡ (visible p x t).ts = same_one here.1 there in
      record { value = (let a : Some (seen k x t).after ≡ Some (visible p x t).after = grind (arith, common_steps) in cc); same = inl e })
]
  where
    deleted : version_of p x (visible p x t).ts ≡ Some (visible p x t).after → IsDropped p x (visible p x t).ts → (visible p x t).after ≡ None
    deleted there d = grind (arith, common_steps, version_wrote p x, newest_is (version_of p x) t, newest_is (committed_version_of p x) (horizon_of p), committed_stands p all x)

    same_one : k.version x (seen k x t).ts ≡ Some (seen k x t).after → version_of p x (seen k x t).ts ≡ Some (seen k x t).after → (seen k x t).ts ≡ (visible p x t).ts
    same_one here there = let n = newest_is (k.version x) t in let v = newest_is (version_of p x) t in let low = newest_reaches (version_of p x) t _ _ n.at_most there in
        by_test (nat_lt (seen k x t).ts (visible p x t).ts)
        (λ less. absurd (elim v.has [
          | inl zeroth ↦ omega (arith, zeroth.0, ltb-true _ _ less)
          | inr some ↦ (let under : (seen k x t).ts < (visible p x t).ts = ltb-true _ _ less in let d = gone_is k p fits x _ _ some.1 (n.gap _ under v.at_most) in
              let top = newest_reaches (committed_version_of p x) (horizon_of p) (visible p x t).ts (visible p x t).after d.low (rw d.committed (version_wrote p x _ _ some.1).1) in
              let old = older_dead p x (seen k x t).ts (closed_committed p all x _ (seen k x t).after there (omega (arith, d.low, horizon_low p all))) (omega (arith, d.low)) (omega arith) in
              let gone : kept_version p x (seen k x t).ts ≡ None = rw old refl in let no : None ≡ Some (seen k x t).after = sym gone ∙ sym (fits.versions x _) ∙ here in cc)
        ]))
        (λ isnt. grind (arith, nat_tests))

-- what the store finds is what a reader at t is given
pub seen_value : (k : Kept) (p : List Effect) → IsKeptOf k p → AllAllowed p → (x : List ℕ) (t : ℕ) → horizon_of p ≤ t → (seen k x t).after ≡ (visible p x t).after
seen_value k p fits all x t high = (kept_newest k p all fits x t high).value

-- and it is blocked exactly where that reader is, by the same transaction
pub blocked_is : (k : Kept) (p : List Effect) → IsKeptOf k p → AllAllowed p → (x : List ℕ) (t : ℕ) → horizon_of p ≤ t → is_seen_blocked k x t ≡ is_blocked p x t
blocked_is k p fits all x t high = elim (kept_newest k p all fits x t high).same [
  | inl same ↦ elim (newest_is (k.version x) t).has [
    | inl zeroth ↦ grind (arith, common_steps)
    | inr some ↦ (let done = fits.committed x _ _ some.1 in grind (arith, common_steps))
  ]
  | inr dropped ↦ grind (arith, common_steps)
]

-- where it is blocked, it is by the same transaction
pub blocker_is : (k : Kept) (p : List Effect) → IsKeptOf k p → AllAllowed p → (x : List ℕ) (t : ℕ) → horizon_of p ≤ t → is_blocked p x t ≡ true → (seen k x t).ts ≡ (visible p x t).ts
blocker_is k p fits all x t high is = elim (kept_newest k p all fits x t high).same [ inl same ↦ same | inr dropped ↦ absurd (grind (arith, common_steps)) ]

-- between horizon and closed the store finds what stands committed
pub settled_is : (k : Kept) (p : List Effect) → IsKeptOf k p → AllAllowed p → (x : List ℕ) (t : ℕ) → horizon_of p ≤ t → t ≤ closed_of p → (seen k x t).after ≡ committed_value p x t
settled_is k p fits all x t high low = seen_value k p fits all x t high ∙ closed_value p all x t low
