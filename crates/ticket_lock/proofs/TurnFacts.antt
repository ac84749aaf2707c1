-- What a turn's steps tell, put together.
use Rattle.std.proofs.Common.{◌≡◌, ℕ, ◌<◌, ◌≤◌, ◌≢◌, List, [], ◌∷◌, sym, ap, ◌∙◌, subst, arith, Option, Some}
use Rattle.atomic_table.specs.Table.{rest}
use Rattle.ticket_lock.specs.declared.rule.View.{View}
use Rattle.ticket_lock.specs.declared.rule.SeatRecord.{SeatRecord}
use Rattle.ticket_lock.specs.Lists.{most, StartsWith, longer}
use Rattle.ticket_lock.specs.Views.{gathering, gatherer, looked, noted_serving, holding, telling}
use Rattle.ticket_lock.specs.Steps.{Finds, Waits, HearsOf}
use Rattle.ticket_lock.proofs.ListFacts.{longer_whole}
use Rattle.ticket_lock.proofs.Keeping.{Mine}

module _ {T E : Type 0} (stands : T → ℕ → List E → Type 0) (floor_of : T → ℕ) where
  abbrev pub Came : View E → ℕ → Mine T E → Type 0
  Came v t m = (found : List E) × (x : T) × (m ≡ (holding v t found, (0, Some x) ∷ [])) × Finds stands floor_of v t found x

  pub in_front : (v : View E) (t : ℕ) (m : Mine T E) → Came v t m → (x : Option T) × (m.1 ≡ (0, x) ∷ rest m.1)
  in_front v t m c = (Some c.1, let e = ap (λ (z : Mine T E). z.1) c.2 in e ∙ ap (λ (l : List (ℕ × Option T)). (0, Some c.1) ∷ rest l) (sym e))

  pub came_now : (t r : ℕ) (m m' : Mine T E) → m.0.ticket ≡ Some t → m.1 ≡ [] → m.0.loaded ≡ t → Waits stands floor_of m r m' → Came m.0 t m'
  came_now t r m m' mine empty looked a = let w = a.2 t mine in let l = a.0 in let u = w.0 in let c = w.1 (omega arith) in
      (c.0, c.1, c.2 ∙ ap (λ (l : List (ℕ × Option T)). (holding m.0 t c.0, (0, Some c.1) ∷ l)) empty, c.3)

  pub room_left : (s n : ℕ) (m m' : Mine T E) → m' ≡ (noted_serving m.0 s, m.1) → m'.0.loaded ≤ n → n ≤ s → n ≢ most → n < 18446744073709551616 → s < most
  room_left s n m m' is low back not fits = let e : m'.0.loaded ≡ s = ap (λ (z : Mine T E). z.0.loaded) is in omega arith

  pub grew : (m u m' : Mine T E) (records : List (SeatRecord E)) → m' ≡ (gathering m.0 u.0, m.1) → m ≡ (gatherer records, []) → m' ≡ (gatherer (u.0.kept ∷ records), [])
  grew m u m' records now is = now ∙ ap (λ (z : Mine T E). (gathering z.0 u.0, z.1)) is

  pub meets : (f : E → ℕ) (one other one1 other1 one2 other2 : Mine T E) → one1 ≡ (telling one.0, one.1) → HearsOf f one.0.kept.seen one.0.kept.known other other1 → other2 ≡ (telling other1.0, other1.1) → HearsOf f other1.0.kept.seen other1.0.kept.known one1 one2
      → (one2.0.kept.seen ≡ longer other.0.kept.seen one.0.kept.seen) × (other2.0.kept.seen ≡ one2.0.kept.seen)
  meets f one other one1 other1 one2 other2 same first still second = let seen : Mine T E → List E = λ m. m.0.kept.seen in
      let b : seen other1 ≡ longer (seen other) (seen one) = ap seen first.1 in let a : seen one2 ≡ longer (seen one1) (seen other1) = ap seen second.1 in
      let starts : StartsWith (seen other1) (seen one) = subst (λ (z : List E). StartsWith z (seen one)) (sym b) first.3 in
      let a' : seen one2 ≡ seen other1 = a ∙ (ap (λ (z : Mine T E). longer (seen z) (seen other1)) same ∙ longer_whole (seen one) (seen other1) starts) in (a' ∙ b, ap seen still ∙ sym a')
