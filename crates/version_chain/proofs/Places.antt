-- Versions by their places, and by their timestamps.
use Rattle.version_chain.proofs.Common.{common_steps, get_or_default, ne_eqb}
use Rattle.std.proofs.Common.{rules}
use Rattle.std.proofs.Common.{◌≡◌, ℕ, zero, suc, ◌<◌, ◌≤◌, ◌-◌, ◌==◌, true, List, [], ◌∷◌, length, get_or, Some, None, refl, sym, ◌∙◌, ap, arith, eq-eqb}
use Rattle.version_chain.specs.declared.chain.Version.{Version}
use Rattle.version_chain.specs.Versions.{AreAbove, DoRise, version_of, IsPlaceAbove, IsNoneUpTo, IsNewestOf, IsNoneAbove, IsLeastAbove}

pub above_at : (vs : List Version) (t k : ℕ) (d : Version) → AreAbove t vs → k < length vs → t < (get_or vs k d).ts
above_at [] t k d a lt = absurd (omega arith)
above_at (v ∷ vs) t zero d a lt = a.0
above_at (v ∷ vs) t (suc k) d a lt = above_at vs t k d a.1 (omega arith)

pub rises_at : (vs : List Version) (i j : ℕ) (d : Version) → DoRise vs → i < j → j < length vs → (get_or vs i d).ts < (get_or vs j d).ts
rises_at [] i j d r l lt = absurd (omega arith)
rises_at (v ∷ vs) i zero d r l lt = absurd (omega arith)
rises_at (v ∷ vs) zero (suc j) d r l lt = above_at vs v.ts j d r.0 (omega arith)
rises_at (v ∷ vs) (suc i) (suc j) d r l lt = rises_at vs i j d r.1 (omega arith) (omega arith)

pub up_to : (vs : List Version) (i j : ℕ) (d : Version) → DoRise vs → i ≤ j → j < length vs → (get_or vs i d).ts ≤ (get_or vs j d).ts
up_to vs i j d r l lt = search (rises_at, rules, arith)

-- each version is found by its timestamp
pub found : (vs : List Version) (k : ℕ) (d : Version) → DoRise vs → k < length vs → version_of vs (get_or vs k d).ts ≡ Some (get_or vs k d)
found [] k d r lt = absurd (omega arith)
found (v ∷ vs) zero d r lt = let e : (v.ts == v.ts) ≡ true = eq-eqb _ _ refl in rw e refl
found (v ∷ vs) (suc k) d r lt = grind (arith, common_steps, above_at, ne_eqb, found vs k d r.1)

pub none_at : (vs : List Version) (i : ℕ) → ((k : ℕ) (d : Version) → k < length vs → (get_or vs k d).ts ≡ i → ⊥) → version_of vs i ≡ None
none_at [] i h = refl
none_at (v ∷ vs) i h = grind (arith, common_steps, ne_eqb, h zero v, none_at vs i (λ k d lt same. h (suc k) d (omega arith) same))

-- a version at a place, whatever stands for one past the end
pub same_ts : (vs : List Version) (k : ℕ) (d e : Version) → k < length vs → (get_or vs k d).ts ≡ (get_or vs k e).ts
same_ts vs k d e lt = ap (λ v. v.ts) (get_or_default vs k d e lt)

-- the last is at or below t, and so all are
pub all_below : (vs : List Version) (t n : ℕ) (v : Version) → DoRise vs → n ≡ length vs → v ≡ get_or vs (n - 1) v → v.ts ≤ t → IsPlaceAbove vs t n
all_below vs t n v r end is low = record { within = omega arith; below = λ k d lt. grind (arith, common_steps, up_to vs k (n - 1) d r, same_ts); above = λ k d at lt. absurd (omega arith) }

pub none_up_to : (vs : List Version) (t n : ℕ) → IsPlaceAbove vs t n → n ≡ 0 → IsNoneUpTo vs t
none_up_to vs t n p none i low = none_at vs i (λ k d lt same. let up : t < (get_or vs k d).ts = p.above k d (omega arith) lt in omega arith)

pub is_newest : (vs : List Version) (t n : ℕ) (v : Version) → DoRise vs → IsPlaceAbove vs t n → 0 < n → v ≡ get_or vs (n - 1) v → IsNewestOf vs t v
is_newest vs t n v r p some is =
    let lt : n - 1 < length vs = omega (arith, p.within) in
    let here : v.ts ≡ (get_or vs (n - 1) v).ts = ap (λ w. w.ts) is in
    record {
      at_most = (let top : (get_or vs (n - 1) v).ts ≤ t = p.below (n - 1) v (omega arith) in omega arith);
      one = ap (version_of vs) here ∙ found vs (n - 1) v r lt ∙ ap Some (sym is);
      gap = λ i low high. none_at vs i (λ k d l same.
          let below : k < n - 1 → (get_or vs k d).ts < (get_or vs (n - 1) d).ts = λ m. rises_at vs k (n - 1) d r m lt in
          grind (arith, common_steps));
    }

pub none_above : (vs : List Version) (t n : ℕ) → IsPlaceAbove vs t n → length vs ≤ n → IsNoneAbove vs t
none_above vs t n p end i low = none_at vs i (λ k d lt same. let down : (get_or vs k d).ts ≤ t = p.below k d (omega arith) in omega arith)

pub is_least : (vs : List Version) (t n : ℕ) (v : Version) → DoRise vs → IsPlaceAbove vs t n → n < length vs → v ≡ get_or vs n v → IsLeastAbove vs t v
is_least vs t n v r p lt is =
    let here : v.ts ≡ (get_or vs n v).ts = ap (λ w. w.ts) is in
    record {
      above = (let up : t < (get_or vs n v).ts = p.above n v (omega arith) lt in omega arith);
      one = ap (version_of vs) here ∙ found vs n v r lt ∙ ap Some (sym is);
      gap = λ i low high. none_at vs i (λ k d l same.
          let below : k < n → (get_or vs k d).ts ≤ t = λ m. p.below k d m in
          let at : k ≡ n → (get_or vs k d).ts ≡ (get_or vs n d).ts = λ m. ap (λ j. (get_or vs j d).ts) m in
          grind (arith, common_steps, rises_at, same_ts));
    }
