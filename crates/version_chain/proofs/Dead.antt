-- What is dead by a horizon, and what is so after a change.
use Rattle.version_chain.proofs.Common.{After, both_ways, by_test, common_steps, eqb-true, false_from_ne_true, filter, is_delete, nat_tests, newest, newest_fewer, newest_is, newest_reaches, newest_rises, or-false}
use Rattle.std.proofs.Common.{◌≡◌, ℕ, ◌<◌, ◌≤◌, Bool, true, false, cond, ◌&&◌, ◌||◌, List, [], ◌∷◌, Option, Some, None, refl, arith}
use Rattle.std.specs.Prelude.{not, nat_le, nat_lt}
use Rattle.version_chain.specs.declared.chain.Version.{Version}
use Rattle.version_chain.specs.Versions.{AreAbove, DoRise, version_of}
use Rattle.version_chain.specs.Stores.{after_of, is_committed}
use Rattle.version_chain.specs.Dead.{after_if_committed, newest_of, is_dead_version, is_dead_at}

-- of the versions f: dead by n
abbrev pub is_dead_of : (ℕ → Option Version) → ℕ → ℕ → Bool
is_dead_of f n t = is_committed (f t) && (nat_le t n && (is_delete (after_of (f t)) || nat_lt t (newest (λ i. after_if_committed (f i)) n).ts))

-- ---- the newest

pub done_there : (o : Option Version) → is_committed o ≡ true → (a : After) × (after_if_committed o ≡ Some a)
done_there None e = cc
done_there (Some v) e = (v.after, rw e refl)

pub there_done : (o : Option Version) (a : After) → after_if_committed o ≡ Some a → is_committed o ≡ true
there_done o a e = grind (arith, common_steps)

-- ---- what is dead

-- of fewer committed versions fewer are dead
pub fewer_dead : (f g : ℕ → Option Version) (n t : ℕ) → ((i : ℕ) → i ≤ n → is_committed (g i) ≡ true → g i ≡ f i) → is_dead_of g n t ≡ true → is_dead_of f n t ≡ true
fewer_dead f g n t fewer is =
    let below = newest_fewer (λ i. after_if_committed (f i)) (λ i. after_if_committed (g i)) n
    (λ j low none. grind (arith, common_steps, fewer j low)) in
    grind (arith, common_steps, nat_tests, fewer t)

pub live_fewer : (f g : ℕ → Option Version) (n : ℕ) → ((i : ℕ) → i ≤ n → is_committed (g i) ≡ true → g i ≡ f i) → ((t : ℕ) → is_dead_of f n t ≡ false) → (t : ℕ) → is_dead_of g n t ≡ false
live_fewer f g n fewer none t = false_from_ne_true _ (λ is. both_ways _ (none t) (fewer_dead f g n t fewer is))

-- what is dead stays so by a higher horizon
pub live_lower : (f : ℕ → Option Version) (m n : ℕ) → m ≤ n → ((t : ℕ) → is_dead_of f n t ≡ false) → (t : ℕ) → is_dead_of f m t ≡ false
live_lower f m n low none t = grind (arith, common_steps, nat_tests, none t, newest_rises (λ i. after_if_committed (f i)) m n low)

pub same_dead : (f g : ℕ → Option Version) (n t : ℕ) → ((i : ℕ) → g i ≡ f i) → is_dead_of g n t ≡ is_dead_of f n t
same_dead f g n t same = grind (arith, common_steps)

-- once what is dead has gone nothing is dead
pub live_left : (f g : ℕ → Option Version) (n : ℕ) → ((i : ℕ) → g i ≡ cond (is_dead_of f n i) None (f i)) → (t : ℕ) → is_dead_of g n t ≡ false
live_left f g n left t = grind (arith, common_steps, left t, fewer_dead f g n t (λ i low done. grind (arith, common_steps, left i)))

-- what is newly dead has a newer version above the old horizon, or is a delete there
pub top_above : (f : ℕ → Option Version) (m n t : ℕ) → ((i : ℕ) → is_dead_of f m i ≡ false) → is_dead_of f n t ≡ true
    → (m < (newest (λ i. after_if_committed (f i)) n).ts) × (is_committed (f (newest (λ i. after_if_committed (f i)) n).ts) ≡ true) × ((newest (λ i. after_if_committed (f i)) n).ts ≤ n)
top_above f m n t none is =
    let top = newest_is (λ i. after_if_committed (f i)) n in
    grind (arith, common_steps, nat_tests, none t, newest_reaches (λ i. after_if_committed (f i)), done_there (f t), there_done)

-- ---- one chain

-- the version of a timestamp has it
pub of_its_ts : (vs : List Version) (i : ℕ) (v : Version) → version_of vs i ≡ Some v → v.ts ≡ i
of_its_ts [] i v e = cc
of_its_ts (w ∷ vs) i v e = grind (arith, common_steps, of_its_ts vs i v)

abbrev pub holds : ℕ → ℕ → Option Version → Bool
holds n top None = false
holds n top (Some v) = is_dead_version n top v

pub none_above : (n top t : ℕ) (vs : List Version) → AreAbove t vs → (is_dead_at n top vs t ≡ false) × (version_of vs t ≡ None)
none_above n top t [] a = (refl, refl)
none_above n top t (v ∷ vs) a = grind (arith, common_steps, none_above n top t vs a.1)

pub at_found : (n top : ℕ) (vs : List Version) (i : ℕ) → DoRise vs → is_dead_at n top vs i ≡ holds n top (version_of vs i)
at_found n top [] i r = refl
at_found n top (v ∷ vs) i r = grind (arith, common_steps, by_test, eqb-true, none_above, or-false, at_found n top vs i r.1)

pub dead_here : (vs : List Version) (n i : ℕ) → is_dead_of (version_of vs) n i ≡ holds n (newest_of vs n) (version_of vs i)
dead_here vs n i = grind (arith, common_steps, of_its_ts vs i)

-- what is left of a chain
pub left_filtered : (n top : ℕ) (vs : List Version) (i : ℕ) → DoRise vs → version_of (filter (λ (v : Version). not (is_dead_version n top v)) vs) i ≡ cond (holds n top (version_of vs i)) None (version_of vs i)
left_filtered n top [] i r = refl
left_filtered n top (v ∷ vs) i r = grind (arith, common_steps, by_test, eqb-true, none_above n top v.ts vs r.0, left_filtered n top vs i r.1)
