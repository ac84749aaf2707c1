-- What is kept after a read and after a scan.
use Rattle.kept.proofs.Common.{After, AllAllowed, Allowed, Effect, IsCrossed, IsKeptOf, Kept, Reads, Scans, by_test, closed_of, committed_version_of, common_steps, eqb-true, horizon_low, in_span, is_blocked, newest_is, same_key, too_late, version_of, visible}
use Rattle.std.proofs.Common.{ℕ, Bool, List, ◌⊎◌, inr, None, Option, arith, false, subst, true, inl, sym, ◌≡◌, ◌<◌, ◌==◌, ◌&&◌, ◌||◌, ◌∷◌, ◌∙◌, ℕ}
use Rattle.std.specs.Prelude.{nat_lt, bytes_eq, ◌↔◌}
use Rattle.kept.specs.Finding.{IsNextAbove, seen}
use Rattle.kept.specs.Marks.{until, IsMarkedBy, IsNoted}
use Rattle.kept.proofs.Dead.{kept_above}
use Rattle.kept.proofs.Marking.{marks_read}
use Rattle.kept.proofs.Reading.{kept_newest}
use Rattle.kept.proofs.Staying.{crossed_kept}

-- the read of a key by j left its mark, unless it was of an own version
abbrev pub Marked : List Effect → List ℕ → ℕ → (ℕ → Bool) → (ℕ → Bool) → Type 0
Marked p x j m m' = (((visible p x j).ts ≡ j) × ((n : ℕ) → m' n ≡ m n))
    ⊎ (((visible p x j).ts < j) × (above : ℕ) × (until : ℕ) × ((n : ℕ) → closed_of p < n → above < n → n < until → version_of p x n ≡ None) × IsMarkedBy m m' j above until)

-- the marks of a key that was read answer for the longer history
marks_after_read : (k : Kept) (p : List Effect) → AllAllowed p → IsKeptOf k p → (j : ℕ) (x : List ℕ) (m' : ℕ → Bool) → is_blocked p x j ≡ false → Marked p x j (k.marked x) m' → (i : ℕ) → closed_of p < i → committed_version_of p x i ≡ None
    → (((nat_lt (visible p x j).ts i && nat_lt i j) || too_late p x i) ≡ true) ↔ IsCrossed m' (k.version x) i
marks_after_read k p all fits j x m' free marked i above fresh = elim marked [
  | inl own ↦ grind (arith, common_steps)
  | inr other ↦ (let now = crossed_kept p all x m' (k.version x) (fits.versions x) i above in let was = crossed_kept p all x (k.marked x) (k.version x) (fits.versions x) i above in let b = fits.marks x i above fresh in
      let r = marks_read p all x j other.1 other.2 (k.marked x) m' free other.0 other.3 other.4 i above fresh (λ l. was.0 (b.0 l), λ c. b.1 (was.1 c)) in (λ l. now.1 (r.0 l), λ c. r.1 (now.0 c)))
]

-- a read leaves no mark below its own, which is above closed
marks_above : (k : Kept) (p : List Effect) → IsKeptOf k p → (j : ℕ) → closed_of p < j → (x : List ℕ) (m' : ℕ → Bool) → Marked p x j (k.marked x) m' → (n : ℕ) → m' n ≡ true → closed_of p < n
marks_above k p fits j above x m' marked n is = grind (arith, common_steps)

-- after a read
pub after_reads : (k : Kept) (p : List Effect) → AllAllowed p → IsKeptOf k p → (j : ℕ) (x : List ℕ) (v : After) → Allowed p (Reads j x v) → (m' : List ℕ → ℕ → Bool)
    → ((y : List ℕ) → bytes_eq x y ≡ false → (n : ℕ) → m' y n ≡ k.marked y n) → Marked p x j (k.marked x) (m' x) → IsKeptOf (record k { marked = m' }) (Reads j x v ∷ p)
after_reads k p all fits j x v allowed m' others marked = grind (arith, common_steps, marks_now, forgotten_now)
  where
    marks_now : (y : List ℕ) (i : ℕ) → closed_of p < i → committed_version_of p y i ≡ None → (too_late (Reads j x v ∷ p) y i ≡ true) ↔ IsCrossed (m' y) (k.version y) i
    marks_now y i above fresh = by_test (bytes_eq x y)
        (λ same. rw same (let e : x ≡ y = same_key x y same in subst (λ z. (((nat_lt (visible p x j).ts i && nat_lt i j) || too_late p z i) ≡ true) ↔ IsCrossed (m' z) (k.version z) i) e
        (marks_after_read k p all fits j x (m' x) allowed.1 marked i above (subst (λ z. committed_version_of p z i ≡ None) (sym e) fresh))))
        (λ other. let b = fits.marks y i above fresh in rw other (grind (arith, common_steps)))

    forgotten_now : (y : List ℕ) (n : ℕ) → m' y n ≡ true → closed_of p < n
    forgotten_now y n is = by_test (bytes_eq x y)
        (λ same. marks_above k p fits j allowed.0.above x (m' x) marked n (subst (λ z. m' z n ≡ true) (sym (same_key x y same)) is))
        (λ other. fits.forgotten y n (sym (others y other n) ∙ is))

-- after a scan
pub after_scans : (k : Kept) (p : List Effect) → AllAllowed p → IsKeptOf k p → (j : ℕ) (span : _) (rows : List (List ℕ × List ℕ)) → Allowed p (Scans j span rows) → (m' : List ℕ → ℕ → Bool)
    → ((y : List ℕ) → in_span span y ≡ false → (n : ℕ) → m' y n ≡ k.marked y n) → ((y : List ℕ) → in_span span y ≡ true → Marked p y j (k.marked y) (m' y)) → IsKeptOf (record k { marked = m' }) (Scans j span rows ∷ p)
after_scans k p all fits j span rows allowed m' others marked = grind (arith, common_steps, marks_now, forgotten_now)
  where
    marks_now : (y : List ℕ) (i : ℕ) → closed_of p < i → committed_version_of p y i ≡ None → (too_late (Scans j span rows ∷ p) y i ≡ true) ↔ IsCrossed (m' y) (k.version y) i
    marks_now y i above fresh = by_test (in_span span y)
        (λ in'. rw in' (marks_after_read k p all fits j y (m' y) (allowed.1 y in') (marked y in') i above fresh))
        (λ out. let b = fits.marks y i above fresh in rw out (grind (arith, common_steps)))

    forgotten_now : (y : List ℕ) (n : ℕ) → m' y n ≡ true → closed_of p < n
    forgotten_now y n is = grind (arith, common_steps, by_test, marks_above k p fits j)

-- a read of an own version
pub own_seen : (k : Kept) (p : List Effect) → AllAllowed p → IsKeptOf k p → (x : List ℕ) (j : ℕ) → closed_of p < j → (seen k x j).ts ≡ j → (visible p x j).ts ≡ j
own_seen k p all fits x j above own = let s = kept_newest k p all fits x j (omega (arith, horizon_low p all)) in elim s.same [ inl same ↦ omega (arith, same, own) | inr dropped ↦ absurd (omega (arith, own, dropped.0)) ]

-- a read of another's version
pub other_seen : (k : Kept) (p : List Effect) → AllAllowed p → IsKeptOf k p → (x : List ℕ) (j : ℕ) → closed_of p < j → ((seen k x j).ts == j) ≡ false → (visible p x j).ts < j
other_seen k p all fits x j above other = grind (arith, common_steps, kept_newest, horizon_low, newest_is)

-- between the version that the store found and the next there is none above closed
pub none_between : (k : Kept) (p : List Effect) → AllAllowed p → IsKeptOf k p → (x : List ℕ) (j : ℕ) (o : Option ℕ) → IsNextAbove (k.version x) j o
    → (n : ℕ) → closed_of p < n → (seen k x j).ts < n → n < until o → version_of p x n ≡ None
none_between k p all fits x j o nearest n high above below = grind (arith, common_steps, kept_above, horizon_low, by_test, newest_is)

-- so a read is noted by the two versions that the store finds
pub read_noted : (k : Kept) (p : List Effect) → AllAllowed p → IsKeptOf k p → (x : List ℕ) (j : ℕ) → closed_of p < j → (m' : ℕ → Bool) → IsNoted k x j m' → Marked p x j (k.marked x) m'
read_noted k p all fits x j above m' noted = grind (arith, common_steps, by_test, eqb-true, own_seen, other_seen, none_between)
