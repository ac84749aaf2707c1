-- What a chain has after a version was put in, replaced, marked or taken out.
use Rattle.version_chain.proofs.Common.{by_test, common_steps, eqb-true, insert, remove}
use Rattle.std.proofs.lemmas.Grind.{elements}
use Rattle.std.proofs.Common.{rules}
use Rattle.std.proofs.Common.{◌≡◌, ℕ, zero, suc, ◌<◌, ◌≤◌, ◌-◌, ◌+◌, ◌==◌, false, cond, List, [], ◌∷◌, length, get_or, set, Some, None, refl, sym, ◌∙◌, ap, arith, subst}
use Rattle.std.specs.Prelude.{option_map}
use Rattle.version_chain.specs.declared.chain.Version.{Version}
use Rattle.version_chain.specs.Versions.{AreAbove, DoRise, version_of, as_committed, IsPlaceAbove, IsPlaceOf, IsFreePlace}
use Rattle.version_chain.proofs.Places.{above_at, rises_at, found, none_at, same_ts}

-- ---- the place of a timestamp

pub free_at_start : (vs : List Version) (t n : ℕ) → IsPlaceAbove vs t n → n ≡ 0 → IsFreePlace vs t 0
free_at_start vs t n p start = grind (arith, common_steps)

pub free_after : (vs : List Version) (t n : ℕ) (v : Version) → DoRise vs → IsPlaceAbove vs t n → 0 < n → v ≡ get_or vs (n - 1) v → (v.ts ≡ t → ⊥) → IsFreePlace vs t n
free_after vs t n v r p some is other = search (rises_at, same_ts, rules, arith)

pub place_is : (vs : List Version) (t n : ℕ) (v : Version) → IsPlaceAbove vs t n → 0 < n → v ≡ get_or vs (n - 1) v → v.ts ≡ t → IsPlaceOf vs t (n - 1)
place_is vs t n v p some is here = grind (arith, common_steps)

pub none_free : (vs : List Version) (t n : ℕ) → IsFreePlace vs t n → version_of vs t ≡ None
none_free vs t n p = grind (arith, common_steps, none_at)

pub some_placed : (vs : List Version) (t k : ℕ) (d : Version) → DoRise vs → IsPlaceOf vs t k → version_of vs t ≡ Some (get_or vs k d)
some_placed vs t k d r p = ap (version_of vs) (sym (p.here d)) ∙ found vs k d r p.within

-- ---- rising

from_places : (vs : List Version) (t : ℕ) → ((k : ℕ) (d : Version) → k < length vs → t < (get_or vs k d).ts) → AreAbove t vs
from_places [] t h = tt
from_places (v ∷ vs) t h = (h zero v (omega arith), from_places vs t (λ k d lt. h (suc k) d (omega arith)))

above_insert : (vs : List Version) (t k : ℕ) (v : Version) → k ≤ length vs → AreAbove t vs → t < v.ts → AreAbove t (insert vs k v)
above_insert vs t k v le a up = from_places (insert vs k v) t (λ j d lt. grind (arith, elements, above_at vs t (j - 1) d a, above_at vs t j d a))

free_behind : (w : Version) (vs : List Version) (t k : ℕ) → IsFreePlace (w ∷ vs) t (suc k) → IsFreePlace vs t k
free_behind w vs t k p = record {
  within = omega (arith, p.within);
  below = λ j d lt. p.below (suc j) d (omega arith);
  above = λ j d at lt. p.above (suc j) d (omega arith) (omega arith);
}

pub rises_insert : (vs : List Version) (k : ℕ) (v : Version) → DoRise vs → IsFreePlace vs v.ts k → DoRise (insert vs k v)
rises_insert vs zero v r p = (from_places vs v.ts (λ j d lt. p.above j d (omega arith) lt), r)
rises_insert [] (suc k) v r p = absurd (omega (arith, p.within))
rises_insert (w ∷ vs) (suc k) v r p =
    grind (arith, common_steps, above_insert vs w.ts k v, p.below 0 w, rises_insert vs k v r.1 (free_behind w vs v.ts k p))

above_set : (vs : List Version) (t k : ℕ) (v : Version) → AreAbove t vs → t < v.ts → AreAbove t (set vs k v)
above_set vs t k v a up = from_places (set vs k v) t (λ j d lt. grind (arith, elements, above_at vs t j d a))

pub rises_set : (vs : List Version) (k : ℕ) (v : Version) → DoRise vs → IsPlaceOf vs v.ts k → DoRise (set vs k v)
rises_set [] k v r p = tt
rises_set (w ∷ vs) zero v r p = (subst (λ t. AreAbove t vs) (p.here v) r.0, r.1)
rises_set (w ∷ vs) (suc k) v r p = grind (arith, common_steps, above_set, above_at vs w.ts k v r.0, rises_set vs k v r.1)

-- one to read a list by where there is none
pub some_version : Version
some_version = record { ts = 0; after = None; committed = false }

pub rises_commit : (vs : List Version) (k t : ℕ) (d : Version) → DoRise vs → IsPlaceOf vs t k → DoRise (set vs k (as_committed (get_or vs k d)))
rises_commit vs k t d r p = rises_set vs k (as_committed (get_or vs k d)) r (record { within = p.within; here = λ e. p.here e ∙ sym (p.here d) })

above_remove : (vs : List Version) (t k : ℕ) → AreAbove t vs → AreAbove t (remove vs k)
above_remove vs t k a = from_places (remove vs k) t (λ j d lt. grind (arith, elements, above_at vs t (j + 1) d a, above_at vs t j d a))

pub rises_remove : (vs : List Version) (k : ℕ) → DoRise vs → DoRise (remove vs k)
rises_remove [] zero r = tt
rises_remove [] (suc k) r = tt
rises_remove (w ∷ vs) zero r = r.1
rises_remove (w ∷ vs) (suc k) r = (above_remove vs w.ts k r.0, rises_remove vs k r.1)

-- ---- what is found

pub insert_finds : (vs : List Version) (k : ℕ) (v : Version) (i : ℕ) → IsFreePlace vs v.ts k → version_of (insert vs k v) i ≡ cond (v.ts == i) (Some v) (version_of vs i)
insert_finds vs zero v i p = refl
insert_finds [] (suc k) v i p = absurd (omega (arith, p.within))
insert_finds (w ∷ vs) (suc k) v i p = grind (arith, common_steps, p.below 0 w, insert_finds vs k v i (free_behind w vs v.ts k p))

pub set_finds : (vs : List Version) (k : ℕ) (v : Version) (i : ℕ) → DoRise vs → IsPlaceOf vs v.ts k → version_of (set vs k v) i ≡ cond (v.ts == i) (Some v) (version_of vs i)
set_finds [] k v i r p = absurd (omega (arith, p.within))
set_finds (w ∷ vs) zero v i r p = grind (arith, common_steps, p.here v)
set_finds (w ∷ vs) (suc k) v i r p = grind (arith, common_steps, above_at vs w.ts k v r.0, p.here v, p.within, set_finds vs k v i r.1)

pub commit_finds : (vs : List Version) (k : ℕ) (v : Version) (t i : ℕ) → DoRise vs → IsPlaceOf vs t k → v ≡ get_or vs k v
    → version_of (set vs k (as_committed v)) i ≡ cond (t == i) (option_map as_committed (version_of vs i)) (version_of vs i)
commit_finds vs k v t i r p is = grind (arith, common_steps, set_finds, by_test, eqb-true, some_placed)

pub remove_finds : (vs : List Version) (k t i : ℕ) → DoRise vs → IsPlaceOf vs t k → version_of (remove vs k) i ≡ cond (t == i) None (version_of vs i)
remove_finds [] k t i r p = absurd (omega (arith, p.within))
remove_finds (w ∷ vs) zero t i r p = grind (arith, common_steps, p.here w, none_at, above_at, eqb-true)
remove_finds (w ∷ vs) (suc k) t i r p = grind (arith, common_steps, above_at vs w.ts k w r.0, p.here w, p.within, remove_finds vs k t i r.1)

-- no version of t, and so nothing to mark or to take out
pub unmarked : (vs : List Version) (t i : ℕ) → version_of vs t ≡ None → version_of vs i ≡ cond (t == i) (option_map as_committed (version_of vs i)) (version_of vs i)
unmarked vs t i none = grind (arith, common_steps)

pub untaken : (vs : List Version) (t i : ℕ) → version_of vs t ≡ None → version_of vs i ≡ cond (t == i) None (version_of vs i)
untaken vs t i none = grind (arith, common_steps)
