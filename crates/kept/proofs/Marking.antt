-- The write rule by marks.
use Rattle.kept.proofs.Common.{After, AllAllowed, Effect, IsCrossed, and_from, and_parts, both_ways, by_test, closed_of, committed_version_of, common_steps, eqb-true, false_from_ne_true, found_whole, is_blocked, is_committed, kept, lt-ltb, ltb-true, nat_tests, newest, newest_is, or_cases, or_left, or_right, too_late, version_of, visible, write_of, IsKeptOf, Kept, committed_is}
use Rattle.std.proofs.Common.{Bool, List, refl, inr, None, Option, arith, false, subst, true, Some, inl, sym, ◌≡◌, ◌<◌, ◌≤◌, ◌⊎◌, ◌==◌, ◌&&◌, ◌||◌, ◌∙◌, ℕ, ◌-◌}
use Rattle.std.specs.Prelude.{nat_lt, ◌↔◌}
use Rattle.spans.proofs.Marks.{late_across}
use Rattle.kept.specs.Marks.{until, IsPiece, IsMarkedBy}
use Rattle.kept.proofs.Dead.{kept_is}

-- a version that stands wasn't too late, and isn't
pub timely : (p : List Effect) → AllAllowed p → (x : List ℕ) (t : ℕ) (a : After) → version_of p x t ≡ Some a → too_late p x t ≡ false
timely p all x t a is = false_from_ne_true _ (λ late.
    let c = late_across p x t late in
    grind (arith, common_steps, kept))

-- fewer versions are crossed by what crosses more
pub crossed_like : (m : ℕ → Bool) (f g : ℕ → Option After) (i : ℕ) → ((n : ℕ) → i < n → f n ≡ None → g n ≡ None) → IsCrossed m f i → IsCrossed m g i
crossed_like m f g i fewer c = record { reader = c.reader; mark = c.mark; above = c.above; none = λ n low high. fewer n low (c.none n low high) }

-- a plain addition does
pub added : (m m' : ℕ → Bool) (j above until : ℕ) → ((n : ℕ) → (m' n ≡ true) ↔ ((n ≡ j) ⊎ (m n ≡ true))) → IsMarkedBy m m' j above until
added m m' j above until adds = grind (arith, common_steps)

-- a piece of marks that became their greatest does as well
pub merged : (m m' : ℕ → Bool) (j above until : ℕ) → above < j → j ≤ until → IsPiece m m' j above until → IsMarkedBy m m' j above until
merged m m' j above until low high h = grind (arith, common_steps, by_test, and_parts, ltb-true)

-- a read marks
pub marks_read : (p : List Effect) → AllAllowed p → (x : List ℕ) (j above until : ℕ) (m m' : ℕ → Bool) → is_blocked p x j ≡ false → (visible p x j).ts < j
    → ((n : ℕ) → closed_of p < n → above < n → n < until → version_of p x n ≡ None) → IsMarkedBy m m' j above until
    → (i : ℕ) → closed_of p < i → committed_version_of p x i ≡ None → ((too_late p x i ≡ true) ↔ IsCrossed m (version_of p x) i)
    → (((nat_lt (visible p x j).ts i && nat_lt i j) || too_late p x i) ≡ true) ↔ IsCrossed m' (version_of p x) i
marks_read p all x j above until m m' free others quiet marks i high fresh before = (
  λ late. elim (or_cases _ _ late) [
    | inl now ↦ (let b = and_parts _ _ now in let v : (visible p x j).ts < i = ltb-true _ _ b.0 in let i<j : i < j = ltb-true _ _ b.1 in
        cover j (inl refl) i<j (λ n low below. (newest_is (version_of p x) j).gap n (omega arith) (omega arith)))
    | inr old ↦ (let c = before.0 old in cover c.reader (inr c.mark) c.above c.none)
  ],
  λ c. elim (marks.only c.reader c.mark) [
    | inl own ↦ or_left _ _ (let i<j : i < j = omega (arith, own, c.above) in
        and_from _ _ (lt-ltb _ i (below i<j (λ n low high'. c.none n low (omega (arith, own))))) (lt-ltb i j i<j))
    | inr old ↦ or_right _ _ (before.1 (record { reader = c.reader; mark = old; above = c.above; none = c.none }))
  ],
)
  where
    cover : (n : ℕ) → (n ≡ j) ⊎ (m n ≡ true) → i < n → ((w : ℕ) → i < w → w < n → version_of p x w ≡ None) → IsCrossed m' (version_of p x) i
    cover n is i<n clear = let g = marks.covers n is in record {
      reader = g.0;
      mark = g.1;
      above = omega (arith, g.2);
      none = λ w low below. by_test (nat_lt w n)
          (λ under. clear w low (ltb-true w n under))
          (λ over'. elim g.3 [
            | inl same ↦ absurd (grind (arith, nat_tests))
            | inr gap ↦ quiet w (omega arith) (grind (arith, nat_tests, gap.0)) (omega (arith, gap.1))
          ]);
    }

    below : i < j → ((w : ℕ) → i < w → w < j → version_of p x w ≡ None) → (visible p x j).ts < i
    below i<j clear = by_test (nat_lt (visible p x j).ts i)
        (λ is. ltb-true _ _ is)
        (λ isnt. absurd (elim (newest_is (version_of p x) j).has [
          | inl zeroth ↦ grind (arith, nat_tests, zeroth.0)
          | inr some ↦ by_test ((visible p x j).ts == i)
              (λ same. let e : (visible p x j).ts ≡ i = eqb-true _ _ same in elim (found_whole p x j (visible p x j).ts (visible p x j).after refl refl others free) [
                | inl zeroth ↦ omega (arith, zeroth.0, some.0)
                | inr w ↦ (
                    let c : is_committed p i ≡ true = subst (λ n. is_committed p n ≡ true) e w.1 in
                    let a : write_of p i x ≡ Some (visible p x j).after = subst (λ n. write_of p n x ≡ Some (visible p x j).after) e w.2 in
                    let no : None ≡ Some (visible p x j).after = sym (rw c at fresh) ∙ a in cc)
              ])
              (λ other. let none : version_of p x (visible p x j).ts ≡ None = clear (visible p x j).ts (grind (arith, nat_tests)) others in
              let no : None ≡ Some (visible p x j).after = sym none ∙ some.1 in cc)
        ]))

-- where versions that weren't too late come, nobody crosses who didn't, and all who did do
pub marks_written : (k : Kept) (p : List Effect) → IsKeptOf k p → (x : List ℕ) (g : ℕ → Option After) → ((n : ℕ) → g n ≡ None → k.version x n ≡ None)
    → ((n : ℕ) → (g n ≡ k.version x n) ⊎ ((closed_of p < n) × (committed_version_of p x n ≡ None) × (too_late p x n ≡ false)))
    → (i : ℕ) → closed_of p < i → committed_version_of p x i ≡ None → (too_late p x i ≡ true) ↔ IsCrossed (k.marked x) g i
marks_written k p fits x g fewer more i above fresh = grind (arith, common_steps)

-- where versions go that aren't committed, nobody crosses who didn't
pub marks_fewer : (k : Kept) (p : List Effect) → AllAllowed p → IsKeptOf k p → (x : List ℕ) (g : ℕ → Option After) → ((n : ℕ) → k.version x n ≡ None → g n ≡ None)
    → ((n : ℕ) (a : After) → closed_of p < n → committed_version_of p x n ≡ Some a → k.version x n ≡ Some a → g n ≡ Some a)
    → (i : ℕ) → closed_of p < i → committed_version_of p x i ≡ None → (too_late p x i ≡ true) ↔ IsCrossed (k.marked x) g i
marks_fewer k p all fits x g fewer still i above fresh = (
  λ late. crossed_like (k.marked x) (k.version x) g i (λ n low none. fewer n none) ((fits.marks x i above fresh).0 late),
  λ c. let w = newest_is (k.version x) (c.reader - 1) in by_test (nat_lt i (newest (k.version x) (c.reader - 1)).ts)
      (λ between. absurd (by_version c _ refl (ltb-true _ _ between)))
      (λ isnt. (fits.marks x i above fresh).1 (record { reader = c.reader; mark = c.mark; above = c.above; none = λ n low high. w.gap n (grind (arith, nat_tests)) (omega arith) })),
)
  where
    by_version : (c : IsCrossed (k.marked x) g i) (o : Option After) → committed_version_of p x (newest (k.version x) (c.reader - 1)).ts ≡ o → i < (newest (k.version x) (c.reader - 1)).ts → ⊥
    by_version c None is l = let w = newest_is (k.version x) (c.reader - 1) in elim w.has [
      | inl zeroth ↦ omega (arith, zeroth.0)
      | inr some ↦ both_ways _ (timely p all x _ _ (kept_is p x _ _ (sym (fits.versions x _) ∙ some.1)))
          ((fits.marks x _ (omega arith) is).1 (record { reader = c.reader; mark = c.mark; above = omega (arith, w.at_most, c.above); none = λ n low high. w.gap n low (omega arith) }))
    ]
    by_version c (Some a) is l = grind (arith, common_steps, newest_is (k.version x) (c.reader - 1), still, committed_is p x)
