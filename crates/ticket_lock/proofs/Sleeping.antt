-- A seat marks a bed.
use Rattle.std.proofs.Common.{◌≡◌, ℕ, suc, ◌+◌, ◌-◌, ◌≤◌, List, ◌∷◌, set, replicate, sym, refl, ap, ◌∙◌, subst, arith}
use mathlib.Core.Option.{some, none}
use lib.ListN.{get_elem?}
use Rattle.atomic_table.specs.Table.{keeps, step, Allows}
use Rattle.ticket_lock.specs.declared.rule.View.{View}
use Rattle.ticket_lock.specs.declared.rule.Setup.{Setup}
use Rattle.ticket_lock.specs.Views.{marked}
use Rattle.ticket_lock.specs.Rule.{Ordered}
use Rattle.ticket_lock.specs.Steps.{stored_bed}
use Rattle.ticket_lock.proofs.Keeping.{Mine, Of, unmoved_beds, knows_looking}

third : (i : ℕ) → 3 ≤ i → i ≡ suc (suc (suc (i - 3)))
third i far = omega arith

-- what the words are at first
pub laid : (first seats n : ℕ) (zeros : List ℕ) → n ≡ 3 + seats → zeros ≡ replicate n 0 → set (set zeros 0 first) 1 first ≡ first ∷ first ∷ 0 ∷ replicate seats 0
laid first seats n zeros many is = let e : n ≡ suc (suc (suc seats)) = omega arith in ap (λ (l : List ℕ). set (set l 0 first) 1 first) (is ∙ ap (λ (k : ℕ). replicate k 0) e)

module _ {T E : Type 0} (stands : T → ℕ → List E → Type 0) (seat_of : E → ℕ) (floor_of : T → ℕ) (key : Setup) where
  -- the words are known to have the three in front
  bed_rule : (s : Of T E) (r : Ordered stands seat_of floor_of key s) (id k n : ℕ) (v : View E) → get_elem? s.views id ≡ some v
      → Ordered stands seat_of floor_of key record { words = set (r.ticket ∷ r.serving ∷ r.floor ∷ r.beds) (suc (suc (suc k))) n; homes = s.homes; views = set s.views id (marked v) }
  bed_rule s r id k n v at = let w : View E = marked v in unmoved_beds s r (set r.beds k n) id v w at refl refl refl (knows_looking s r id v (r.each id v at) w.looks) (λ f. refl)

  pub marks_bed : (slots id : ℕ) (me : Mine T E) (i n : ℕ) → 3 ≤ i → Allows (Ordered stands seat_of floor_of key) slots id me i (λ _. n) (λ _. stored_bed (step slots i n 0 none) me n)
  marks_bed slots id me i n far s r _ at _ = (
    marked me.0,
    keeps,
    tt,
    subst (λ (z : List ℕ × ℕ). Ordered stands seat_of floor_of key record { words = set z.0 z.1 n; homes = s.homes; views = set s.views id (marked me.0) }) (λ j. (sym r.words j, sym (third i far) j)) (bed_rule s r id (i - 3) n me.0 at),
    refl,
  )
