-- What is kept after a write, a commit and an abort.
use Rattle.std.proofs.Common.{List, refl, None, arith, true, Some, sym, ◌≡◌, ◌<◌, ◌==◌, ◌&&◌, ◌∷◌, ◌∙◌, ℕ}
use Rattle.kept.proofs.Common.{Aborts, After, Commits, Effect, IsCrossed, Kept, Writes, and_parts, by_test, closed_of, committed_is, committed_version_of, eqb-true, is_committed, kept_version, same_key, too_late, common_steps}
use Rattle.std.specs.Prelude.{bytes_eq, ◌↔◌}
use Rattle.kept.proofs.Marking.{marks_written, marks_fewer}
use Rattle.kept.proofs.Staying.{kept_stays, Keeps}

-- after a write
pub after_writes : (k k' : Kept) (p : List Effect) (t : ℕ) (x : List ℕ) (a : After) → Keeps k k' p (Writes t x a)
after_writes k k' p t x a all fits allowed c = rw c.rest (grind (arith, common_steps, kept_now, marks_now, committed_now))
  where
    kept_now : (y : List ℕ) (i : ℕ) → k'.version y i ≡ kept_version (Writes t x a ∷ p) y i
    kept_now y i = grind (arith, common_steps, by_test, eqb-true, kept_stays p (Writes t x a) all allowed refl y i)

    committed_now : (y : List ℕ) (i : ℕ) (b : After) → k'.version y i ≡ Some b → k'.committed y i ≡ is_committed p i
    committed_now y i b is = c.committed y i b is ∙ by_test ((t == i) && bytes_eq x y)
        (λ here. let e : t ≡ i = eqb-true t i (and_parts _ _ here).0 in rw (here, ← e) (sym allowed.0.uncommitted))
        (λ other. rw other (fits.committed y i b (let e : k'.version y i ≡ k.version y i = c.version y i ∙ (rw other refl) in sym e ∙ is)))

    marks_now : (y : List ℕ) (i : ℕ) → closed_of p < i → committed_version_of p y i ≡ None → (too_late p y i ≡ true) ↔ IsCrossed (k.marked y) (k'.version y) i
    marks_now y i above fresh = marks_written k p fits y (k'.version y) (λ n none. grind (arith, common_steps)) (λ n. grind (arith, common_steps, by_test, eqb-true, same_key x y)) i above fresh

-- after a commit
pub after_commits : (k k' : Kept) (p : List Effect) (t : ℕ) → Keeps k k' p (Commits t)
after_commits k k' p t all fits allowed c = rw c.rest (grind (arith, common_steps, kept_stays p (Commits t) all allowed refl))

-- after an abort
pub after_aborts : (k k' : Kept) (p : List Effect) (t : ℕ) → Keeps k k' p (Aborts t)
after_aborts k k' p t all fits allowed c = rw c.rest (grind (arith, common_steps, kept_now, marks_now, by_test, eqb-true))
  where
    kept_now : (y : List ℕ) (i : ℕ) → k'.version y i ≡ kept_version (Aborts t ∷ p) y i
    kept_now y i = grind (arith, common_steps, kept_stays p (Aborts t) all allowed refl y i)

    marks_now : (y : List ℕ) (i : ℕ) → closed_of p < i → committed_version_of p y i ≡ None → (too_late p y i ≡ true) ↔ IsCrossed (k.marked y) (k'.version y) i
    marks_now y i above fresh = marks_fewer k p all fits y (k'.version y) (λ n none. grind (arith, common_steps)) (λ n b high is there. grind (arith, common_steps, by_test, eqb-true, committed_is p y n b)) i above fresh
