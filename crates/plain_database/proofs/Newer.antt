-- How the newest version of a key is found through the index of its writers.
use Rattle.std.proofs.Common.{◌≡◌, ℕ, ◌<◌, ◌≤◌, ◌-◌, ◌==◌, zero, suc, Bool, true, false, List, Option, Some, None, refl, sym, ◌∙◌, ap, arith}
use Rattle.std.specs.Prelude.{unwrap_or}
use Rattle.plain_database.proofs.Common.{After, by_test, common_steps, eqb-true, false_from_ne_true, is_gt, is_lt, nat_cmp, nat_tests, newer_or, newest}
use Rattle.plain_database.specs.Table.{IsIndexed, IsLast, Listed, is_listed}
use Rattle.plain_database.specs.VersionsTied.{Held, version_in}

-- the greatest that passes and isn't above t is the last
pub last_is : (test : ℕ → Bool) (t k : ℕ) → is_gt (nat_cmp k t) ≡ false → test k ≡ true → ((i : ℕ) → is_gt (nat_cmp i t) ≡ false → test i ≡ true → is_lt (nat_cmp k i) ≡ false) → IsLast test t (Some k)
last_is test t k low is top = (grind (arith, nat_tests), is, λ i above below. false_from_ne_true (test i) (λ on. let no : is_lt (nat_cmp k i) ≡ false = top i (grind (arith, nat_tests)) on in grind (arith, nat_tests)))

-- what isn't listed is no version
unlisted : (h : Held) (ws : Listed) (x : List ℕ) (i : ℕ) → IsIndexed h.table ws → is_listed ws x i ≡ false → version_in h x i ≡ None
unlisted h ws x i all off = grind (arith, common_steps, all x i)

-- where there is none above k
newest_down : (f : ℕ → Option After) (t k : ℕ) → k ≤ t → ((i : ℕ) → k < i → i ≤ t → f i ≡ None) → newest f t ≡ newest f k
newest_down f zero k low none = let first : k ≡ 0 = omega arith in rw first refl
newest_down f (suc t) k low none = by_test (k == suc t)
    (λ same. ap (newest f) (sym (eqb-true k (suc t) same)))
    (λ other. rw (none (suc t) (grind (arith, nat_tests)) (omega arith)) (newest_down f t k (grind (arith, nat_tests)) (λ i above below. none i above (omega arith))))

-- no version is above the last writer
pub last_down : (h : Held) (ws : Listed) (x : List ℕ) (t : ℕ) (o : Option ℕ) → IsIndexed h.table ws → IsLast (is_listed ws x) t o → newest (version_in h x) t ≡ newest (version_in h x) (unwrap_or o 0)
last_down h ws x t None all last = newest_down (version_in h x) t 0 (omega arith) (λ i above below. unlisted h ws x i all (last i below))
last_down h ws x t (Some k) all last = newest_down (version_in h x) t k last.0 (λ i above below. unlisted h ws x i all (last.2 i above below))

-- the last writer's version, or else an older one
pub last_step : (h : Held) (ws : Listed) (x : List ℕ) (t k : ℕ) (o : Option After) → IsIndexed h.table ws → IsLast (is_listed ws x) t (Some k) → (k ≡ 0 → ⊥) → o ≡ version_in h x k → newest (version_in h x) t ≡ newer_or o k (newest (version_in h x) (k - 1))
last_step h ws x t zero o all last some is = absurd (some refl)
last_step h ws x t (suc k) o all last some is = let below : suc k - 1 ≡ k = omega arith in last_down h ws x t (Some (suc k)) all last ∙ rw (is, below) refl
