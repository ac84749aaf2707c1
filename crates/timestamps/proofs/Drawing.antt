-- Each step keeps the rule of the oracle's word.
use Rattle.std.proofs.Common.{◌≡◌, ℕ, ◌+◌, ◌<◌, ◌≤◌, ◌≢◌, eqb, cond, List, [], ◌∷◌, ◌++◌, get_or, set, sym, refl, ap, ◌∙◌, subst, ⊎_elim, arith, le_refl, eq-eqb, ne_eqb}
use Rattle.timestamps.proofs.Common.{Contains, Contains-get_or, cases_lt, count_by, sum_by, sum_by-append, sum_by-cons}
use mathlib.Core.Option.{some, none}
use mathlib.Core.Logic.{dite}
use native.Mathlib.Decide.{ℕ_discrete}
use lib.ListN.{get_elem?}
use prog.Atomic.{either}
use Rattle.atomic_table.specs.Table.{State, Act, keeps, step, stepped, carried_after, Valid, Allows, Splits, Joins}
use Rattle.timestamps.specs.declared.blocks.Draws.{Draws}
use Rattle.timestamps.specs.Blocks.{NoSlot, Sat, blocks_with, times_drawn, IsDrawnOnce, nobody, newcomer, itself, without_drawn, only_drawn, borrowing, without_lent, only_lent, taking_back, loads, draws, Looks, DrawsNext, Compares, AreApart}
use Rattle.timestamps.proofs.Numbers.{counted_once}
use Rattle.timestamps.proofs.Views.{sum_set, one_of_sum, each_set, each_more}

-- how often a block stands with one view
abbrev times_with : ℕ → Draws → ℕ
times_with b v = count_by (λ (x : ℕ). eqb x b) (blocks_with v)

module _ (first : ℕ) where
  abbrev St : Type 0
  St = State NoSlot Draws

  abbrev Rule : St → Type 0
  Rule = IsDrawnOnce first

  -- other views that have each block as often, none of which knows too much
  other_views : (s : St) (r : Rule s) (views : List Draws) → ((j : ℕ) (v : Draws) → get_elem? views j ≡ some v → v.loaded ≤ r.next) → ((b : ℕ) → times_drawn b views ≡ times_drawn b s.views)
      → Rule record { words = r.next ∷ []; homes = s.homes; views = views }
  other_views s r views low same = record {
    next = r.next;
    words = refl;
    begun = r.begun;
    above = low;
    once = λ b l u. same b ∙ r.once b l u;
    earlier = λ b l. same b ∙ r.earlier b l;
    later = λ b l. same b ∙ r.later b l;
  }

  -- one view is another, with the same blocks
  changed : (s : St) (r : Rule s) (id : ℕ) (v w : Draws) → get_elem? s.views id ≡ some v → w.loaded ≤ r.next → ((b : ℕ) → times_with b w ≡ times_with b v)
      → Rule record { words = r.next ∷ []; homes = s.homes; views = set s.views id w }
  changed s r id v w at low same = other_views s r (set s.views id w) (each_set (λ u. u.loaded ≤ r.next) s.views id w low r.above)
      (λ b. let q = sum_set (times_with b) s.views id v w at in let e = same b in omega arith)

  at_words : (s : St) (r : Rule s) (F : List ℕ → Type 0) → F (r.next ∷ []) → F s.words
  at_words s r F x = subst F (sym r.words) x

  pub looks : (slots id : ℕ) (me : Sat) → Allows Rule slots id me 0 (λ n. n) (Looks (step slots 0 0 0 none) me)
  looks slots id me s r _ at _ = let v : Draws = me.0 in
      at_words s r (λ ws. (w : Draws) × (a : Act NoSlot) × Valid s.homes me.1 a × Rule (stepped record { words = ws; homes = s.homes; views = s.views } 0 (get_or ws 0 0) id me.1 w a) × Looks (step slots 0 0 0 none) me (get_or ws 0 0) (w, carried_after me.1 a))
      (loads v r.next, keeps, tt, changed s r id v (loads v r.next) at (le_refl r.next) (λ b. refl), (refl, r.above id v at))

  -- the blocks that a view has are below the word, and not in it twice
  blocks_below : (s : St) (r : Rule s) (id : ℕ) (v : Draws) → get_elem? s.views id ≡ some v → (b : ℕ) → Contains v.drawn b → b < r.next
  blocks_below s r id v at b c = ⊎_elim (λ (l : b < r.next). l)
      (λ (l : r.next ≤ b). let none_there = r.later b l in let some_there = one_of_sum (times_with b) s.views id v at in let here = counted_once v.drawn b c in
      absurd (omega (arith, sum_by-append (λ (x : ℕ). cond (eqb x b) 1 0) v.drawn v.lent)))
      (cases_lt b r.next)

  times_more : (b n : ℕ) (v : Draws) → times_with b (draws v n) ≡ times_with b v + cond (eqb n b) 1 0
  times_more b n v = let f : ℕ → ℕ = λ x. cond (eqb x b) 1 0 in omega (arith, sum_by-append f (v.drawn ++ n ∷ []) v.lent, sum_by-append f v.drawn (n ∷ []), sum_by-append f v.drawn v.lent, sum_by-cons f n [])

  drawn_now : (s : St) (r : Rule s) (id : ℕ) (v : Draws) → get_elem? s.views id ≡ some v → first ≤ r.next
      → Rule record { words = (r.next + 1) ∷ []; homes = s.homes; views = set s.views id (draws v r.next) }
  drawn_now s r id v at begun = let n : ℕ = r.next in let w : Draws = draws v n in
      let total : (b : ℕ) → times_drawn b (set s.views id w) ≡ times_drawn b s.views + cond (eqb n b) 1 0 = λ b. let q = sum_set (times_with b) s.views id v w at in let m = times_more b n v in omega arith in
      let same : (b : ℕ) → n ≢ b → times_drawn b (set s.views id w) ≡ times_drawn b s.views = λ b ne. let t = total b in let z : cond {A = ℕ} (eqb n b) 1 0 ≡ 0 = ap (λ c. cond c 1 0) (ne_eqb n b ne) in omega arith in record {
        next = n + 1;
        words = refl;
        begun = omega arith;
        above = each_set (λ u. u.loaded ≤ n + 1) s.views id w (omega arith) (λ j u e. let l = r.above j u e in omega arith);
        once = λ b l u. dite (ℕ_discrete n b)
            (λ e. let t = total b in let z : cond {A = ℕ} (eqb n b) 1 0 ≡ 1 = ap (λ c. cond c 1 0) (eq-eqb n b e) in let o = r.later b (omega arith) in omega arith)
            (λ ne. same b ne ∙ r.once b l (omega arith));
        earlier = λ b l. same b (λ e. omega arith) ∙ r.earlier b l;
        later = λ b l. same b (λ e. omega arith) ∙ r.later b (omega arith);
      }

  pub draws_next : (slots id : ℕ) (me : Sat) (old new : ℕ) → new ≡ old + 1 → Allows Rule slots id me 0 (λ n. either (eqb n old) new n) (DrawsNext (step slots 0 old new none) me)
  draws_next slots id me old new up s r _ at _ = let v : Draws = me.0 in let n : ℕ = r.next in let low = r.above id v at in
      at_words s r (λ ws. (w : Draws) × (a : Act NoSlot) × Valid s.homes me.1 a × Rule (stepped record { words = ws; homes = s.homes; views = s.views } 0 (either (eqb (get_or ws 0 0) old) new (get_or ws 0 0)) id me.1 w a)
      × DrawsNext (step slots 0 old new none) me (get_or ws 0 0) (w, carried_after me.1 a))
      (dite (ℕ_discrete n old)
      (λ is. (
        draws v n,
        keeps,
        tt,
        subst (λ k. Rule record { words = either k new n ∷ []; homes = s.homes; views = set s.views id (draws v n) }) (sym (eq-eqb n old is))
            (subst (λ (k : ℕ). Rule record { words = k ∷ []; homes = s.homes; views = set s.views id (draws v n) }) (let e : n + 1 ≡ new = omega arith in e) (drawn_now s r id v at r.begun)),
        (low, (λ _. (refl, λ k d l. blocks_below s r id v at (get_or v.drawn k d) (Contains-get_or v.drawn k d l))), (λ not. absurd (not is))),
      ))
      (λ not. (
        loads v n,
        keeps,
        tt,
        subst (λ k. Rule record { words = either k new n ∷ []; homes = s.homes; views = set s.views id (loads v n) }) (sym (ne_eqb n old not)) (changed s r id v (loads v n) at (le_refl n) (λ b. refl)),
        (low, (λ is. absurd (not is)), (λ _. refl)),
      )))

  -- no block is drawn by a view and lent to it
  two_lists : (s : St) (r : Rule s) (id : ℕ) (v : Draws) → get_elem? s.views id ≡ some v → AreApart v.drawn v.lent
  two_lists s r id v at b here there = let f : ℕ → ℕ = λ x. cond (eqb x b) 1 0 in let p = counted_once v.drawn b here in let q = counted_once v.lent b there in let t = one_of_sum (times_with b) s.views id v at in
      let two : 2 ≤ times_drawn b s.views = omega (arith, sum_by-append f v.drawn v.lent) in
      ⊎_elim (λ (l : b < first). let o = r.earlier b l in absurd (omega arith))
      (λ (l : first ≤ b). ⊎_elim (λ (u : b < r.next). let o = r.once b l u in absurd (omega arith)) (λ (u : r.next ≤ b). let o = r.later b u in absurd (omega arith)) (cases_lt b r.next))
      (cases_lt b first)

  pub compares : (slots id : ℕ) (me : Sat) → Allows Rule slots id me 0 (λ n. n) (Compares (step slots 0 0 0 none) me)
  compares slots id me s r _ at _ = let v : Draws = me.0 in
      at_words s r (λ ws. (w : Draws) × (a : Act NoSlot) × Valid s.homes me.1 a × Rule (stepped record { words = ws; homes = s.homes; views = s.views } 0 (get_or ws 0 0) id me.1 w a) × Compares (step slots 0 0 0 none) me (get_or ws 0 0) (w, carried_after me.1 a))
      (loads v r.next, keeps, tt, changed s r id v (loads v r.next) at (le_refl r.next) (λ b. refl), (refl, r.above id v at, two_lists s r id v at))

  -- a view is cut in two that have its blocks
  cut : (s : St) (r : Rule s) (id : ℕ) (v left right : Draws) → get_elem? s.views id ≡ some v → left.loaded ≤ r.next → right.loaded ≤ r.next → ((b : ℕ) → times_with b left + times_with b right ≡ times_with b v)
      → Rule record { words = s.words; homes = s.homes; views = set s.views id left ++ right ∷ [] }
  cut s r id v left right at low high same = at_words s r (λ ws. Rule record { words = ws; homes = s.homes; views = set s.views id left ++ right ∷ [] })
      (other_views s r (set s.views id left ++ right ∷ [])
      (each_more (λ u. u.loaded ≤ r.next) (set s.views id left) right high (each_set (λ u. u.loaded ≤ r.next) s.views id left low r.above))
      (λ b. let q = sum_set (times_with b) s.views id v left at in let e = same b in omega (arith, sum_by-append (times_with b) (set s.views id left) (right ∷ []), sum_by-cons (times_with b) right [])))

  pub enters : (id : ℕ) (v : Draws) → Splits Rule id v (itself v) (newcomer v)
  enters id v s r at = let l = r.above id v at in cut s r id v v (newcomer v) at l l (λ b. let z : times_with b (newcomer v) ≡ 0 = refl in omega arith)

  pub hands_out : (id : ℕ) (v : Draws) → v.lent ≡ [] → Splits Rule id v (without_drawn v) (only_drawn v)
  hands_out id v alone s r at = cut s r id v (without_drawn v) (only_drawn v) at (r.above id v at) (omega arith)
      (λ b. let f : ℕ → ℕ = λ x. cond (eqb x b) 1 0 in let z = ap (sum_by f) alone in omega (arith, sum_by-append f v.drawn v.lent, sum_by-append f v.drawn []))

  pub returns : (id : ℕ) (v : Draws) → Splits Rule id v (without_lent v) (only_lent v)
  returns id v s r at = cut s r id v (without_lent v) (only_lent v) at (r.above id v at) (omega arith)
      (λ b. let f : ℕ → ℕ = λ x. cond (eqb x b) 1 0 in omega (arith, sum_by-append f v.drawn v.lent, sum_by-append f v.drawn [], sum_by-append f v.lent []))

  -- a view takes in the blocks of another, which is left with none
  joined : (s : St) (r : Rule s) (id other : ℕ) (v w both : Draws) → get_elem? s.views id ≡ some v → ¬ (other ≡ id) → get_elem? (set s.views id both) other ≡ some w → both.loaded ≤ r.next
      → ((b : ℕ) → times_with b both ≡ times_with b v + times_with b w) → Rule record { words = s.words; homes = s.homes; views = set (set s.views id both) other nobody }
  joined s r id other v w both at apart there low same = at_words s r (λ ws. Rule record { words = ws; homes = s.homes; views = set (set s.views id both) other nobody })
      (other_views s r (set (set s.views id both) other nobody)
      (each_set (λ u. u.loaded ≤ r.next) (set s.views id both) other nobody (omega arith) (each_set (λ u. u.loaded ≤ r.next) s.views id both low r.above))
      (λ b. let p = sum_set (times_with b) s.views id v both at in let q = sum_set (times_with b) (set s.views id both) other w nobody there in let z : times_with b nobody ≡ 0 = refl in let e = same b in omega arith))

  pub borrows : (id other : ℕ) (v w : Draws) → v.lent ≡ [] → w.lent ≡ [] → Joins Rule id v other w (borrowing v w) nobody
  borrows id other v w alone bare s r at apart there = joined s r id other v w (borrowing v w) at apart there (r.above id v at)
      (λ b. let f : ℕ → ℕ = λ x. cond (eqb x b) 1 0 in let y = ap (sum_by f) alone in let z = ap (sum_by f) bare in omega (arith, sum_by-append f v.drawn v.lent, sum_by-append f v.drawn w.drawn, sum_by-append f w.drawn w.lent))

  pub takes_back : (id other : ℕ) (v w : Draws) → v.drawn ≡ [] → w.lent ≡ [] → Joins Rule id v other w (taking_back v w) nobody
  takes_back id other v w none_left bare s r at apart there = joined s r id other v w (taking_back v w) at apart there (r.above id v at)
      (λ b. let f : ℕ → ℕ = λ x. cond (eqb x b) 1 0 in let y = ap (sum_by f) none_left in let z = ap (sum_by f) bare in omega (arith, sum_by-append f v.drawn v.lent, sum_by-append f w.drawn v.lent, sum_by-append f w.drawn w.lent))
