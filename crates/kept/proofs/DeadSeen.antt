-- What is dead by a new horizon is seen in what is kept alone, and what is kept after a collection.
use Rattle.kept.proofs.Marking.{marks_fewer}
use Rattle.kept.proofs.Staying.{Keeps}
use Rattle.kept.proofs.Common.{After, AllAllowed, Allowed, Collects, Effect, IsKeptOf, Kept, VersionName, both_ways, by_test, committed_is, committed_version_of, common_steps, dead_is, dead_of, distinct_filter, has_filter, has_versions, horizon_of, is_committed, is_dead, kept_version, ltb-true, nat_tests, newest, newest_fewer, newest_is, newest_reaches, older_dead, same_length, version_name, version_of, version_wrote, versions_distinct, versions_of, write_of, IsCrossed, closed_of, too_late, horizon_low}
use Rattle.std.proofs.Common.{Bool, List, None, Option, Some, arith, cond, false, inl, inr, length, not, refl, sym, true, ℕ, ◌&&◌, ◌-◌, ◌<◌, ◌∙◌, ◌∷◌, ◌≡◌, ◌≤◌}
use Rattle.std.specs.Prelude.{filter, is_some, nat_lt, ◌↔◌}
use Rattle.kept.specs.Finding.{is_dropped, is_dead_in, kept_committed, AreThose}
use Rattle.kept.proofs.AfterCollects.{grown, dead_grows}
use Rattle.kept.proofs.Dead.{committed_stands, kept_is, kept_above}

-- a kept version that is committed is a committed one
kept_fewer : (k : Kept) (p : List Effect) → AllAllowed p → IsKeptOf k p → (x : List ℕ) (j : ℕ) → committed_version_of p x j ≡ None → kept_committed k x j ≡ None
kept_fewer k p all fits x j none = grind (arith, common_steps, version_wrote, kept_is)

-- a committed version that isn't dead is kept, and is committed there
kept_stands : (k : Kept) (p : List Effect) → AllAllowed p → IsKeptOf k p → (x : List ℕ) (j : ℕ) (a : After) → committed_version_of p x j ≡ Some a → is_dead p (version_name x j) ≡ false → kept_committed k x j ≡ Some a
kept_stands k p all fits x j a is live = grind (arith, common_steps, committed_stands, committed_is)

-- of a committed version that isn't dead: whether there is a newer one through n is seen in what is kept
newer_is : (k : Kept) (p : List Effect) → AllAllowed p → IsKeptOf k p → (x : List ℕ) (n i : ℕ) → is_committed p i ≡ true → is_dead p (version_name x i) ≡ false
    → nat_lt i (newest (kept_committed k x) n).ts ≡ nat_lt i (newest (committed_version_of p x) n).ts
newer_is k p all fits x n i done live =
    let fewer : (newest (kept_committed k x) n).ts ≤ (newest (committed_version_of p x) n).ts = newest_fewer (committed_version_of p x) (kept_committed k x) n (λ j low none. kept_fewer k p all fits x j none) in
    by_test (nat_lt i (newest (committed_version_of p x) n).ts) (λ below. let l = above (ltb-true _ _ below) in grind (arith, nat_tests)) (λ isnt. grind (arith, nat_tests))
  where
    above : i < (newest (committed_version_of p x) n).ts → (newest (committed_version_of p x) n).ts ≤ (newest (kept_committed k x) n).ts
    above l = let w = newest_is (committed_version_of p x) n in elim w.has [
      | inl zeroth ↦ absurd (omega (arith, zeroth.0))
      | inr some ↦ by_test (is_dead p (version_name x (newest (committed_version_of p x) n).ts))
          (λ is. absurd (let d = dead_is p x _ is in let top = newest_reaches (committed_version_of p x) (horizon_of p) _ _ d.low some.1 in
          both_ways _ live (older_dead p x i done (omega (arith, l, d.low)) (omega (arith, l, top)))))
          (λ isnt. newest_reaches (kept_committed k x) n _ _ w.at_most (kept_stands k p all fits x _ _ some.1 isnt))
    ]

-- a kept version is dead by the new horizon exactly where what is kept says so
pub dead_seen : (k : Kept) (p : List Effect) → AllAllowed p → IsKeptOf k p → (n : ℕ) (x : List ℕ) (i : ℕ) (a : After) → k.version x i ≡ Some a → is_dead_in k n x i ≡ is_dead (Collects n ∷ p) (version_name x i)
dead_seen k p all fits n x i a is =
    let there : kept_version p x i ≡ Some a = sym (fits.versions x i) ∙ is in
    let wrote : write_of p i x ≡ Some a = (version_wrote p x i a (kept_is p x i a there)).1 in
    let live : is_dead p (version_name x i) ≡ false = undead _ _ there in
    rw (fits.committed x i a is, is, wrote) (by_test (is_committed p i) (λ done. rw (newer_is k p all fits x n i done live) refl) (λ undone. rw undone refl))
  where
    undead : (b : Bool) (o : Option After) → cond b None o ≡ Some a → b ≡ false
    undead b o e = grind (arith, common_steps)

-- versions that stand for those of the history after a collection
versions_kept : (k : Kept) (p : List Effect) → IsKeptOf k p → (n : ℕ) (v' : List ℕ → ℕ → Option After) (d' : List ℕ → ℕ → Bool) → ((y : List ℕ) (i : ℕ) → v' y i ≡ kept_version (Collects n ∷ p) y i)
    → ((y : List ℕ) (i : ℕ) (b : After) → v' y i ≡ Some b → d' y i ≡ is_committed p i)
    → ((y : List ℕ) (i : ℕ) → closed_of p < i → committed_version_of p y i ≡ None → (too_late p y i ≡ true) ↔ IsCrossed (k.marked y) (v' y) i)
    → IsKeptOf (record k { horizon = n; version = v'; committed = d' }) (Collects n ∷ p)
versions_kept k p fits n v' d' vs ds ms = grind (arith, common_steps)

-- so a collection that drops what is dead by what is kept leaves what is kept of the longer history
pub after_collects : (k k' : Kept) (p : List Effect) (n : ℕ) → Keeps k k' p (Collects n)
after_collects k k' p n all fits allowed c = rw c.rest (versions_kept k p fits n k'.version k'.committed kept_now (λ y i b is. c.committed y i b is ∙ fits.committed y i b (still _ _ _ (sym (c.version y i) ∙ is))) marks_now)
  where
    still : (a : After) (b : Bool) (o : Option After) → cond b None o ≡ Some a → o ≡ Some a
    still a b o e = grind (arith, common_steps)

    kept_now : (y : List ℕ) (i : ℕ) → k'.version y i ≡ kept_version (Collects n ∷ p) y i
    kept_now y i = c.version y i ∙ step _ _ _ (version_of p y i) _ (fits.versions y i) (dead_grows p n (omega (arith, allowed.1)) y i) (dead_seen k p all fits n y i)
      where
        step : (b d q : Bool) (o v : Option After) → v ≡ cond d None o → (d ≡ true → q ≡ true) → ((a : After) → v ≡ Some a → b ≡ q) → cond b None v ≡ cond q None o
        step b d q o v e grows seen = grind (arith, common_steps)

    marks_now : (y : List ℕ) (i : ℕ) → closed_of p < i → committed_version_of p y i ≡ None → (too_late p y i ≡ true) ↔ IsCrossed (k.marked y) (k'.version y) i
    marks_now y i above fresh = marks_fewer k p all fits y (k'.version y) (λ w none. c.version y w ∙ none_left _ _ none)
        (λ w a high is there. kept_now y w ∙ kept_above (Collects n ∷ p) y w (omega (arith, horizon_low (Collects n ∷ p) (allowed, all))) ∙ kept_is p y w a (sym (fits.versions y w) ∙ there)) i above fresh
      where
        none_left : (b : Bool) (o : Option After) → o ≡ None → cond b None o ≡ None
        none_left b o e = grind (arith, common_steps)

-- and it drops as many as the dead grew
pub dropped_count : (k : Kept) (p : List Effect) → AllAllowed p → IsKeptOf k p → (n : ℕ) → Allowed p (Collects n) → (vs : List VersionName) → AreThose (is_dropped k n) vs
    → length vs ≡ length (dead_of (Collects n ∷ p)) - length (dead_of p)
dropped_count k p all fits n allowed vs those =
    let new : VersionName → Bool = λ v. is_dead (Collects n ∷ p) v && not (is_dead p v) in
    let e = same_length vs (filter new (versions_of p)) those.distinct (distinct_filter new (versions_of p) (versions_distinct p all)) (λ v.
    let f = has_filter new v (versions_of p) in let h = has_versions p all v in let d = those.each v in let b = both v in grind (arith, common_steps)) in
    omega (arith, e, grown (is_dead (Collects n ∷ p)) (is_dead p) (λ v is. dead_grows p n (omega (arith, allowed.1)) v.key v.ts is) (versions_of p))
  where
    both : (v : VersionName) → is_dropped k n v ≡ ((is_dead (Collects n ∷ p) v && not (is_dead p v)) && is_some (version_of p v.key v.ts))
    both v = step _ _ _ (version_of p v.key v.ts) _ (fits.versions v.key v.ts) (dead_seen k p all fits n v.key v.ts)
      where
        step : (b d q : Bool) (o v : Option After) → v ≡ cond d None o → ((a : After) → v ≡ Some a → b ≡ q) → (is_some v && b) ≡ ((q && not d) && is_some o)
        step b d q o v e seen = grind (arith, common_steps)
