-- All seats are gathered, and the value is at home.
use Rattle.std.proofs.Common.{◌≡◌, ℕ, ◌+◌, ◌<◌, ◌≤◌, ◌≢◌, cond, Bool, true, false, List, [], ◌∷◌, ◌++◌, map, length, sym, refl, ap, ◌∙◌, subst, ⊎_elim, arith, le_refl, append-nil, length-append, Option, Some, None}
use Rattle.ticket_lock.proofs.Common.{Enters, Final, Joins, Seen, cases_lt, length-map, step, sum_by, sum_by-append, sum_by-cons}
use mathlib.Core.Option.{some, some-injective, none}
use lib.ListN.{get_elem?}
use Rattle.ticket_lock.specs.declared.rule.SeatRecord.{SeatRecord}
use Rattle.ticket_lock.specs.declared.rule.View.{View}
use Rattle.ticket_lock.specs.declared.rule.Setup.{Setup}
use Rattle.ticket_lock.specs.Lists.{span}
use Rattle.ticket_lock.specs.Views.{setup, numbers, nobody, gathering, gatherer, IsProper, has, in_hand}
use Rattle.ticket_lock.specs.Rule.{Fits, Ordered}
use Rattle.ticket_lock.specs.Steps.{entered}
use Rattle.ticket_lock.proofs.ListFacts.{each_first, only_one, none_sum, ones_span, ones_length, either_way, two_in}
use Rattle.ticket_lock.proofs.Keeping.{Of, Mine, none_out, knows_nobody, came_new, joined}
use Rattle.ticket_lock.proofs.Merging.{Whole}

module _ {T E : Type 0} (stands : T → ℕ → List E → Type 0) (seat_of : E → ℕ) (floor_of : T → ℕ) (key : Setup) where
  abbrev Rule : Of T E → Type 0
  Rule = Ordered stands seat_of floor_of key

  gathering_sum : (f : ℕ → ℕ) (v u : View E) → v.unissued ≡ [] → u.sits ≡ true → u.gathered ≡ [] → u.unissued ≡ [] → sum_by f (numbers (gathering v u)) ≡ sum_by f (numbers v) + sum_by f (numbers u)
  gathering_sum f v u vm us uc um = let num : SeatRecord E → ℕ = λ c. c.number in let a : List ℕ = cond v.sits (v.kept.number ∷ []) [] in let b : List ℕ = map num v.gathered in let n : ℕ = u.kept.number in
      let mine : numbers u ≡ n ∷ [] = λ i. cond (us i) (n ∷ []) [] ++ (map num (uc i) ++ um i) in let old : numbers v ≡ a ++ (b ++ []) = λ i. a ++ (b ++ vm i) in
      let new : numbers (gathering v u) ≡ a ++ (n ∷ b ++ []) = λ i. a ++ (n ∷ b ++ vm i) in
      let p = ap (sum_by f) mine in let q = ap (sum_by f) old in let t = ap (sum_by f) new in
      omega (arith, sum_by-append f a (n ∷ b ++ []), sum_by-cons f n (b ++ []), sum_by-append f a (b ++ []), sum_by-cons f n [])

  pub absorbs : (id other : ℕ) (v u : View E) → v.unissued ≡ [] → u.sits ≡ true → u.gathered ≡ [] → u.unissued ≡ [] → u.ticket ≡ None → u.holds ≡ false → Joins Rule id v other u (gathering v u) nobody
  absorbs id other v u vm us uc um free idle s r at apart there = joined s r id other v u (gathering v u) at apart there refl refl refl free idle
      (λ ku. let k = r.each id v at in record {
        sees = k.sees;
        heard = k.heard;
        fits = k.fits;
        gathered = each_first (λ c. Fits seat_of key.first key.count r.ticket r.serving r.floor r.history c) v.gathered u.kept k.gathered (ku.fits us);
        unissued = k.unissued;
        low = k.low;
        cap = k.cap;
        out = k.out;
        holder = k.holder;
      })
      (λ f. gathering_sum f v u vm us uc um)

  pub absorbs_from : (id other number : ℕ) (m u : Mine T E) (records : List (SeatRecord E)) → m ≡ (gatherer records, []) → IsProper seat_of number u → u.0.ticket ≡ None → Joins Rule id m.0 other u.0 (gathering m.0 u.0) nobody
  absorbs_from id other number m u records e p free = absorbs id other m.0 u.0 (ap (λ (z : Mine T E). z.0.unissued) e) p.sits p.alone p.issued_all free (p.turn ∙ ap has free)

  pub empty_hand : (number : ℕ) (u : Mine T E) → IsProper seat_of number u → u.0.ticket ≡ None → u.1 ≡ []
  empty_hand number u p free = p.hand ∙ ap in_hand (p.turn ∙ ap has free)

  abbrev pub no_one : Mine T E
  no_one = (nobody, [])

  pub enters : (slots i : ℕ) → Enters Rule slots i (λ n w. entered (step slots i 0 0 none) no_one n (w, []))
  enters slots i s r _ _ = (nobody, came_new s r nobody (λ j. knows_nobody r.ticket r.serving r.floor r.history r.away r.owner j) (λ f. refl), refl)

  weight : View E → ℕ
  weight v = sum_by (λ (x : ℕ). 1) (numbers v)

  weighs_one : (v : View E) → v.sits ≡ true → 1 ≤ weight v
  unfolding weight
  weighs_one v sits = let rest : List ℕ = map (λ (c : SeatRecord E). c.number) v.gathered ++ v.unissued in
      subst (λ (b : Bool). 1 ≤ sum_by (λ (x : ℕ). 1) (cond b (v.kept.number ∷ []) [] ++ rest)) (sym sits) (omega (arith, sum_by-cons (λ (x : ℕ). 1) v.kept.number rest))

  -- whoever stands for all seats and has no ticket knows that none is out
  all_in : (s : Of T E) (r : Rule s) (id : ℕ) (records : List (SeatRecord E)) → get_elem? s.views id ≡ some (gatherer records) → length records ≡ key.count → (t : ℕ) → r.serving ≤ t → t < r.ticket → ⊥
  unfolding weight
  all_in s r id records at all t a b = let v : View E = gatherer records in let o = r.out t a b in let u = o.0 in let sits = (r.each (r.owner t) u o.1).out t o.2 in
      let ne : id ≢ r.owner t = λ e. let same : u ≡ v = some-injective u v (sym o.1 ∙ ap (get_elem? s.views) (sym e) ∙ at) in none_out v refl t (ap (λ (x : View E). x.ticket) (sym same) ∙ o.2) in
      let two = two_in weight s.views id (r.owner t) v u ne at o.1 in let one = weighs_one u sits.3 in let total = r.counted (λ (x : ℕ). 1) in let span_is = ones_span 0 key.count in
      let mine : weight v ≡ length (map (λ (c : SeatRecord E). c.number) records ++ []) = ones_length (map (λ (c : SeatRecord E). c.number) records ++ []) in
      omega (arith, length-append (map (λ (c : SeatRecord E). c.number) records) [], length-map records (λ (c : SeatRecord E). c.number))

  sums_up : (s : Of T E) (r : Rule s) (id : ℕ) (records : List (SeatRecord E)) → get_elem? s.views id ≡ some (gatherer records) → length records ≡ key.count → (f : ℕ → ℕ) → sum_by f (map (λ (c : SeatRecord E). c.number) records) ≡ sum_by f (span 0 key.count)
  unfolding weight
  sums_up s r id records at all f = let v : View E = gatherer records in let total = r.counted (λ (x : ℕ). 1) in let span_is = ones_span 0 key.count in let b : List ℕ = map (λ (c : SeatRecord E). c.number) records in
      let mine : weight v ≡ length (b ++ []) = ones_length (b ++ []) in
      let whole : sum_by weight s.views ≡ weight v = omega (arith, length-append b [], length-map records (λ (c : SeatRecord E). c.number)) in
      let q = only_one weight (λ (u : View E). sum_by f (numbers u)) s.views id v at (λ u z. none_sum f (numbers u) z) whole in
      ap (sum_by f) (sym (append-nil b)) ∙ (sym q ∙ r.counted f)

  pub finishes : (id : ℕ) (records : List (SeatRecord E)) (words : List ℕ) (slots : List (Option T)) → length records ≡ key.count → Final (Seen Rule id (gatherer records)) words slots
      → (x : T) × (get_elem? slots 0 ≡ some (Some x)) × Whole stands seat_of floor_of key.first key.count records x
  finishes id records words slots all end = let s = end.0 in let r = end.1.0 in let at = end.1.1 in let k = r.each id (gatherer records) at in
      let none_out_now = all_in s r id records at all in
      let even : r.ticket ≡ r.serving = (let a = r.ahead in ⊎_elim (λ (l : r.serving < r.ticket). absurd (none_out_now r.serving (le_refl r.serving) l)) (λ (l : r.ticket ≤ r.serving). omega arith) (cases_lt r.serving r.ticket)) in
      let home : r.away ≡ false = either_way r.away (λ w. let h = r.held w in let kh = r.each (r.owner r.serving) h.0 h.1 in let o = kh.out r.serving (kh.holder h.2.0).1 in none_out_now r.serving o.0 o.1) in
      let homes : s.homes ≡ some (Some r.last) ∷ [] = r.home ∙ ap (λ b. cond b none (some (Some r.last)) ∷ []) home in (
        r.last,
        end.4 0 (Some r.last) (ap (λ (hs : List _). get_elem? hs 0) homes),
        record {
          history = r.history;
          stood = r.stood;
          bounded = omega (arith, r.come, r.bounded, even);
          each = λ i c e. let f = k.gathered i c e in (f.sees, f.owns, (λ spent. let m = f.ended spent in let c = r.come in omega arith), (let q = r.capped home in let z = f.low in omega arith));
          numbered = sums_up s r id records at all;
          named = r.named;
        },
      )

  pub finishes_from : (first count id : ℕ) (m : Mine T E) (records : List (SeatRecord E)) (words : List ℕ) (slots : List (Option T)) (v : Option T) → key ≡ setup first count → m ≡ (gatherer records, []) → length records ≡ count → Final (Seen Rule id m.0) words slots → get_elem? slots 0 ≡ some v
      → (x : T) × (v ≡ Some x) × Whole stands seat_of floor_of first count records x
  finishes_from first count id m records words slots v known is all end there = let f : key.first ≡ first = ap (λ (k : Setup). k.first) known in let n : key.count ≡ count = ap (λ (k : Setup). k.count) known in
      let r = finishes id records words slots (all ∙ sym n) (subst (λ (z : Mine T E). Final (Seen Rule id z.0) words slots) is end) in
      (r.0, some-injective v (Some r.0) (sym there ∙ r.1), subst (λ (z : ℕ × ℕ). Whole stands seat_of floor_of z.0 z.1 records r.0) (λ i. (f i, n i)) r.2)
