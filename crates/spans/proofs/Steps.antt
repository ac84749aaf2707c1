-- What holds of the definitions, whatever the history.
use Rattle.spans.proofs.Common.{common_steps, eqb-true, ltb-true}
use Rattle.std.proofs.Common.{◌≡◌, ℕ, zero, suc, ◌≤◌, Bool, true, false, List, [], ◌∷◌, Option, Some, None, refl, ◌∙◌, ap, inl, arith}
use Rattle.std.specs.Prelude.{bytes_eq, is_some}
use Rattle.std.proofs.lemmas.Slice.Eq.{bytes_eq-Decides}
use Rattle.spans.specs.Effects.{After, Effect}
use Rattle.spans.specs.Transactions.{is_committed, is_aborted}
use Rattle.spans.specs.Versions.{write_of, version_of, committed_value, Version, version_at, newest, IsNewest}
use Rattle.spans.specs.Serial.{Map, serial_run, map_at}

pub same_key : (x y : List ℕ) → bytes_eq x y ≡ true → x ≡ y
same_key x y h = (bytes_eq-Decides x y).0 h

pub key_itself : (x : List ℕ) → bytes_eq x x ≡ true
key_itself x = (bytes_eq-Decides x x).1 refl

pub by_test : {P : Type 0} (b : Bool) → (b ≡ true → P) → (b ≡ false → P) → P
by_test true on off = on refl
by_test false on off = off refl

pub none_of : {A : Type 0} (o : Option A) → is_some o ≡ false → o ≡ None
none_of None h = refl
none_of (Some a) h = cc

-- newest gives it
pub newest_is : (versions : ℕ → Option After) (t : ℕ) → IsNewest versions t (newest versions t).ts (newest versions t).after
newest_is versions zero = record { at_most = omega arith; gap = λ i low high. absurd (omega arith); has = inl (refl, refl) }
newest_is versions (suc t) = grind (arith, common_steps, newest_is versions t)

abbrev pub or_else : Option After → After → After
or_else None y = y
or_else (Some a) y = a

-- what the map has after the writes of t is what t last wrote, or what the map had
pub after_is : (p : List Effect) (t : ℕ) (m : Map) (x : List ℕ) → serial_run p t m x ≡ or_else (write_of p t x) (m x)
after_is [] t m x = refl
after_is (_ ∷ p) t m x = grind (arith, common_steps, after_is p t m x)

-- the map at t has what stands committed at t
pub map_at_is : (p : List Effect) (t : ℕ) (x : List ℕ) → map_at p t x ≡ committed_value p x t
map_at_is p zero x = refl
map_at_is p (suc t) x = let before = map_at_is p t x in let ran = after_is p (suc t) (map_at p t) x in by_test (is_committed p (suc t))
    (λ is. rw is (ran ∙ grind (arith, common_steps))) (λ isnt. rw isnt (before ∙ grind (arith, common_steps)))

-- a version is what one that isn't aborted wrote
pub version_wrote : (p : List Effect) (x : List ℕ) (k : ℕ) (a : After) → version_of p x k ≡ Some a → (is_aborted p k ≡ false) × (write_of p k x ≡ Some a)
version_wrote p x k a h = grind (arith, common_steps)

-- one with no version that isn't aborted wrote nothing
pub no_version_wrote : (p : List Effect) (x : List ℕ) (k : ℕ) → version_of p x k ≡ None → is_aborted p k ≡ false → write_of p k x ≡ None
no_version_wrote p x k h live = rw live at h

-- versions that are alike up to t have one newest
pub newest_same : (f g : ℕ → Option After) (t : ℕ) → ((i : ℕ) → i ≤ t → f i ≡ g i) → newest f t ≡ newest g t
newest_same f g zero same = refl
newest_same f g (suc t) same = rw (same (suc t) (omega arith), newest_same f g t (λ i low. same i (omega arith))) refl

-- the newest version is at or above each that is in reach
pub newest_reaches : (f : ℕ → Option After) (t i : ℕ) (a : After) → i ≤ t → f i ≡ Some a → i ≤ (newest f t).ts
newest_reaches f t i a low is = grind (arith, common_steps, by_test, newest_is, ltb-true)

-- of fewer versions the newest is no newer
pub newest_fewer : (f g : ℕ → Option After) (t : ℕ) → ((j : ℕ) → j ≤ t → f j ≡ None → g j ≡ None) → (newest g t).ts ≤ (newest f t).ts
newest_fewer f g t fewer = grind (arith, common_steps, newest_is, newest_reaches)

-- the newest of a later time is no older
pub newest_rises : (f : ℕ → Option After) (m n : ℕ) → m ≤ n → (newest f m).ts ≤ (newest f n).ts
newest_rises f m n low = grind (arith, common_steps, newest_is, newest_reaches)

-- there is only one newest
pub newest_only : (versions : ℕ → Option After) (t k : ℕ) (a : After) → IsNewest versions t k a → newest versions t ≡ version_at k a
newest_only versions t k a h = grind (arith, common_steps, newest_is, eqb-true, ltb-true)

pub newest_at : (versions : ℕ → Option After) (t k : ℕ) (a : After) → IsNewest versions t k a → (newest versions t).after ≡ a
newest_at versions t k a h = ap (λ (n : Version). n.after) (newest_only versions t k a h)

-- versions that are alike have one newest
pub newest_like : (f g : ℕ → Option After) (t k : ℕ) (a : After) → ((i : ℕ) → f i ≡ g i) → IsNewest f t k a → IsNewest g t k a
newest_like f g t k a same h = grind (arith, common_steps)
