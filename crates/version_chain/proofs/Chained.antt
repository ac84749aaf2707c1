-- A chain's versions up to a horizon, and its newest committed one there.
use Rattle.version_chain.proofs.Common.{and-false, or-false, common_steps, filter, newest_only}
use Rattle.std.proofs.Common.{◌≡◌, ℕ, suc, ◌<◌, ◌≤◌, ◌-◌, ◌==◌, Bool, true, false, ◌&&◌, List, [], ◌∷◌, length, take, drop, get_or, take-append-drop, All, None, refl, sym, ◌∙◌, ap, inr, arith}
use Rattle.std.specs.List.{list_any}
use Rattle.std.proofs.lemmas.List.Folds.{list_any-append, list_any_none}
use Rattle.version_chain.specs.declared.chain.Version.{Version}
use Rattle.version_chain.specs.Versions.{AreAbove, DoRise, version_of, IsPlaceAbove}
use Rattle.version_chain.specs.Dead.{after_if_committed, newest_of, is_dead_version, is_dead_at}
use Rattle.version_chain.proofs.Places.{rises_at, found}

above_filtered : (t : ℕ) (p : Version → Bool) (vs : List Version) → AreAbove t vs → AreAbove t (filter p vs)
above_filtered t p [] a = tt
above_filtered t p (v ∷ vs) a = grind (arith, common_steps, above_filtered t p vs a.1)

pub rises_kept : (p : Version → Bool) (vs : List Version) → DoRise vs → DoRise (filter p vs)
rises_kept p [] r = tt
rises_kept p (v ∷ vs) r = grind (arith, common_steps, above_filtered, rises_kept p vs r.1)

-- versions from the place above a horizon on live
pub live_above : (n top place : ℕ) (vs : List Version) → IsPlaceAbove vs n place → All (λ (v : Version). is_dead_version n top v ≡ false) (drop place vs)
live_above n top place vs p k d lt = grind (arith, common_steps)

-- what is dead stands before the place
pub dead_before : (n top place : ℕ) (vs : List Version) (i : ℕ) → IsPlaceAbove vs n place → is_dead_at n top (take place vs) i ≡ is_dead_at n top vs i
dead_before n top place vs i p =
    let dead = λ (v : Version). (v.ts == i) && is_dead_version n top v in
    let none = list_any_none dead (drop place vs) (λ k d lt. rw (live_above n top place vs p k d lt) (and-false _)) in
    sym (ap (list_any dead) (sym (take-append-drop place vs)) ∙ list_any-append dead (take place vs) (drop place vs) ∙ rw none (or-false _))

-- ---- the newest committed version

-- those from a place on, up to the horizon, are undecided, and those before it are at or below the horizon
pub record IsTopBelow (vs : List Version) (n place : ℕ) : Type 0 where
  pub within : place ≤ length vs
  pub below : (k : ℕ) (d : Version) → k < place → (get_or vs k d).ts ≤ n
  pub undone : (k : ℕ) (d : Version) → place ≤ k → k < length vs → (get_or vs k d).ts ≤ n → (get_or vs k d).committed ≡ false

pub top_from : (vs : List Version) (n place : ℕ) → IsPlaceAbove vs n place → IsTopBelow vs n place
top_from vs n place p = grind (arith, common_steps)

pub top_lower : (vs : List Version) (n place : ℕ) (v : Version) → IsTopBelow vs n place → 0 < place → v ≡ get_or vs (place - 1) v → v.committed ≡ false → IsTopBelow vs n (place - 1)
top_lower vs n place v p some is off = grind (arith, common_steps)

undone_at : (vs : List Version) (i : ℕ) → ((k : ℕ) (d : Version) → k < length vs → (get_or vs k d).ts ≡ i → (get_or vs k d).committed ≡ false) → after_if_committed (version_of vs i) ≡ None
undone_at [] i h = refl
undone_at (v ∷ vs) i h = grind (arith, common_steps, h 0 v, undone_at vs i (λ k d lt same. h (suc k) d (omega arith) same))

pub top_none : (vs : List Version) (n place : ℕ) → IsTopBelow vs n place → place ≡ 0 → newest_of vs n ≡ 0
top_none vs n place p none = ap (λ m. m.ts) (newest_only (λ i. after_if_committed (version_of vs i)) n 0 None (grind (arith, common_steps, undone_at)))

pub top_is : (vs : List Version) (n place : ℕ) (v : Version) → DoRise vs → IsTopBelow vs n place → 0 < place → v ≡ get_or vs (place - 1) v → v.committed ≡ true → 0 < v.ts → newest_of vs n ≡ v.ts
top_is vs n place v r p some is on pos =
    let lt : place - 1 < length vs = omega (arith, p.within) in
    let one = found vs (place - 1) v r lt in
    ap (λ m. m.ts) (newest_only (λ i. after_if_committed (version_of vs i)) n v.ts v.after (record {
      at_most = grind (arith, p.below (place - 1) v);
      gap = λ i low high. undone_at vs i (λ k d l same. grind (arith, common_steps, rises_at vs k (place - 1) d r));
      has = inr (pos, grind (arith, common_steps));
    }))
