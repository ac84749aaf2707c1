-- The count and the index after one place of the chains changed, or all of one timestamp.
use Rattle.version_chain.proofs.Common.{RisingKeys, and_parts, common_steps, eqb-true, has, ne_eqb, same_key}
use Rattle.std.proofs.Common.{rules, ◌≡◌, ℕ, ◌<◌, ◌≤◌, ◌-◌, ◌==◌, true, false, cond, ◌&&◌, ◌||◌, List, length, Some, None, refl, sym, ◌∙◌, ap, arith}
use Rattle.std.specs.Prelude.{bytes_eq, is_some, is_none, max, option_map}
use Rattle.version_chain.specs.declared.chain.Version.{Version}
use Rattle.version_chain.specs.declared.index.Index.{Index}
use Rattle.version_chain.specs.Stores.{found_in, AreChangedAt, IsChangedAt, Stored, after_of}
use Rattle.version_chain.specs.Versions.{as_committed}
use Rattle.version_chain.specs.Dead.{is_dead_in}
use Rattle.version_chain.specs.Indexes.{is_listed, IsFilled, IsIndexOf, IsSound}
use Rattle.version_chain.proofs.Counts.{AreGoneAt, AreWrittenAt, counted_alike, counted_gone}
use Rattle.version_chain.proofs.Dead.{live_lower}
use Rattle.version_chain.proofs.Thinning.{settled_fewer}

at_place : (es : Stored) (x : List ℕ) (t : ℕ) (y : List ℕ) (i : ℕ) → ((t == i) && bytes_eq x y) ≡ true → found_in es x t ≡ found_in es y i
at_place es x t y i here = search (and_parts, same_key, eqb-true, rules, arith)

-- a version came
pub indexed_more : (es fs : Stored) (index index' : Index) (x : List ℕ) (t : ℕ) (a : Version) → IsChangedAt es fs x t (λ _. Some a) → ((y : List ℕ) (i : ℕ) → is_listed index' y i ≡ (((t == i) && bytes_eq x y) || is_listed index y i)) → IsIndexOf es index → IsIndexOf fs index'
indexed_more es fs index index' x t a h more is y i = grind (arith, common_steps)

-- a version took the place of one
pub indexed_replaced : (es fs : Stored) (index : Index) (x : List ℕ) (t : ℕ) (a : Version) → IsChangedAt es fs x t (λ _. Some a) → is_none (found_in es x t) ≡ false → IsIndexOf es index → IsIndexOf fs index
indexed_replaced es fs index x t a h some is y i = grind (arith, common_steps, at_place)

-- ---- nothing is dead by the horizon

abbrev pub AreSettled : Stored → ℕ → Type 0
AreSettled es n = (x : List ℕ) (t : ℕ) → is_dead_in es n x t ≡ false

-- an undecided version came, or took the place of one
pub settled_write : (es fs : Stored) (x : List ℕ) (t n : ℕ) (a : Version) → a.committed ≡ false → IsChangedAt es fs x t (λ _. Some a) → AreSettled es n → AreSettled fs n
settled_write es fs x t n a open' h none = settled_fewer es fs n (λ y i low done. grind (arith, common_steps)) none

-- versions above a lower horizon changed
pub settled_above : (es fs : Stored) (t m n : ℕ) → ((y : List ℕ) (i : ℕ) → (t == i) ≡ false → found_in fs y i ≡ found_in es y i) → m ≤ n → m < t → AreSettled es n → AreSettled fs m
settled_above es fs t m n same low above none = settled_fewer es fs m (λ y i at done. same y i (ne_eqb t i (λ here. omega arith))) (λ y i. live_lower (found_in es y) m n low (none y) i)

-- what is found is as it was
pub sound_alike : (es fs : Stored) (index : Index) (n horizon : ℕ) → ((y : List ℕ) (i : ℕ) → found_in fs y i ≡ found_in es y i) → IsSound es index n horizon → IsSound fs index n horizon
sound_alike es fs index n horizon same s = record {
  counted = counted_alike es fs n (λ v. ap (λ o. is_some (after_of o)) (same v.key v.ts)) s.counted;
  indexed = λ y i. s.indexed y i ∙ ap is_some (sym (same y i));
  filled = s.filled;
  settled = settled_fewer es fs horizon (λ y i low done. same y i) s.settled;
}

-- the same chains, and an index that lists the same
pub sound_index : (es : Stored) (index index' : Index) (n horizon : ℕ) → ((y : List ℕ) (i : ℕ) → is_listed index' y i ≡ is_listed index y i) → (IsFilled index → IsFilled index') → IsSound es index n horizon → IsSound es index' n horizon
sound_index es index index' n horizon same still s = grind (arith, common_steps)

-- a version that came where there was none goes again
pub went_again : (es fs gs : Stored) (x : List ℕ) (t : ℕ) (a : Version) → is_none (found_in es x t) ≡ true → IsChangedAt es fs x t (λ _. Some a) → IsChangedAt fs gs x t (λ _. None) → (y : List ℕ) (i : ℕ) → found_in gs y i ≡ found_in es y i
went_again es fs gs x t a none came went y i = grind (arith, common_steps, at_place)

-- ---- the versions of one timestamp

-- they are marked as committed, above the horizon
pub sound_commit : (es fs : Stored) (index : Index) (keys : List (List ℕ)) (t n m horizon : ℕ) → AreChangedAt es fs keys t (option_map as_committed) → m ≤ horizon → m < t → IsSound es index n horizon → IsSound fs index n m
sound_commit es fs index keys t n m horizon h low above s = record {
  counted = counted_alike es fs n (λ v. let at = h v.key v.ts in grind (arith, common_steps)) s.counted;
  indexed = λ y i. let at = h y i in let was = s.indexed y i in grind (arith, common_steps);
  filled = s.filled;
  settled = settled_above es fs t m horizon (λ y i off. rw (h y i, off) refl) low above s.settled;
}

-- they go at all keys that have one
gone_at : (es fs : Stored) (keys : List (List ℕ)) (t : ℕ) → AreChangedAt es fs keys t (λ _. None) → AreWrittenAt es t keys → AreGoneAt es fs t
gone_at es fs keys t h written y i = grind (arith, common_steps, eqb-true)

pub sound_drop : (es fs : Stored) (index index' : Index) (keys : List (List ℕ)) (t n horizon : ℕ) → AreChangedAt es fs keys t (λ _. None) → RisingKeys keys → ((y : List ℕ) → has y keys ≡ is_listed index y t)
    → ((y : List ℕ) (i : ℕ) → is_listed index' y i ≡ cond (t == i) false (is_listed index y i)) → (IsFilled index → IsFilled index') → IsSound es index n horizon → (length keys ≤ n) × IsSound fs index' (n - length keys) horizon
sound_drop es fs index index' keys t n horizon h rising listed less still s = let gone = gone_at es fs keys t h (λ y. listed y ∙ s.indexed y t) in let count = counted_gone es fs t n keys gone rising (λ y. listed y ∙ s.indexed y t) s.counted in (
  count.0,
  record {
    counted = count.1;
    indexed = λ y i. let at = gone y i in let was = s.indexed y i in let now = less y i in grind (arith, common_steps);
    filled = still s.filled;
    settled = settled_fewer es fs horizon (λ y i low done. let at = gone y i in grind (arith, common_steps)) s.settled;
  },
)

pub settled_max : (es : Stored) (a b : ℕ) → AreSettled es a → AreSettled es b → AreSettled es (max a b)
settled_max es a b first second = grind (arith, common_steps)
