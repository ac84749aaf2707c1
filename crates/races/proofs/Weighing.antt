-- The events of all sessions are those of the history, each once.
use Rattle.std.proofs.Common.{◌≡◌, ℕ, suc, ◌+◌, Bool, cond, List, [], ◌∷◌, ◌++◌, refl, ap, arith}
use Rattle.std.specs.Prelude.{◌==◌, count_by, flat_map, IsPermutation}
use Rattle.std.proofs.lemmas.Grind.{common_steps}
use Rattle.std.proofs.lemmas.Bool.Decides.{nat_tests}
use Rattle.std.proofs.lemmas.List.Sorted.{IsPermutation-refl, IsPermutation-trans, IsPermutation-cons, IsPermutation-append_right, IsPermutation-middle}
use mathlib.Core.Option.{some}
use lib.ListN.{get_elem?}
use Rattle.spans.proofs.Steps.{by_test}
use Rattle.races.proofs.Common.{Event, of_seat, sum_by-cons}

abbrev seat_of : Event → ℕ
seat_of e = e.seat

flip : (a b : ℕ) → (a == b) ≡ (b == a)
flip a b = grind (arith, nat_tests)

module _ {A : Type 0} where
  pub same_parts : (f g : A → List Event) (l : List A) → ((k : ℕ) (s : A) → get_elem? l k ≡ some s → f s ≡ g s) → flat_map f l ≡ flat_map g l
  same_parts f g [] same = refl
  same_parts f g (s ∷ ss) same = λ i. same 0 s refl i ++ same_parts f g ss (λ k x at. same (suc k) x at) i

  -- where one list has an element more, all of them have it once more
  module _ (p : A → Bool) (f g : A → List Event) (e : Event) (put : (s : A) → g s ≡ cond (p s) (e ∷ f s) (f s)) where
    put_nowhere : (l : List A) → count_by p l ≡ 0 → flat_map g l ≡ flat_map f l
    put_nowhere [] none = refl
    put_nowhere (s ∷ ss) none = grind (arith, common_steps, sum_by-cons (λ (y : A). cond (p y) 1 0) s ss, put s, put_nowhere ss)

    put_once : (l : List A) → count_by p l ≡ 1 → IsPermutation (flat_map g l) (e ∷ flat_map f l)
    put_once [] once = absurd (omega (arith, once))
    put_once (s ∷ ss) once = let c = sum_by-cons (λ (y : A). cond (p y) 1 0) s ss in by_test (p s)
        (λ yes. let a = ap {B = ℕ} (λ b. cond b 1 0) yes in rw (put s, yes, put_nowhere ss (omega (arith, a, c, once))) (IsPermutation-refl (e ∷ (f s ++ flat_map f ss))))
        (λ no. let a = ap {B = ℕ} (λ b. cond b 1 0) no in
        rw (put s, no) (IsPermutation-trans (f s ++ flat_map g ss) (f s ++ (e ∷ flat_map f ss)) (e ∷ (f s ++ flat_map f ss)) (IsPermutation-append_right (f s) (flat_map g ss) (e ∷ flat_map f ss) (put_once ss (omega (arith, a, c, once)))) (IsPermutation-middle (f s) e (flat_map f ss))))

  nothing : (l : List A) → flat_map (λ (s : A). []) l ≡ of_seat seat_of 0 []
  nothing [] = refl
  nothing (s ∷ ss) = nothing ss

  -- what each has of a history, put together, is the history
  pub parts_of : (num : A → ℕ) (l : List A) (h : List Event) → ((k : ℕ) (e : Event) → get_elem? h k ≡ some e → count_by (λ (s : A). num s == e.seat) l ≡ 1) → IsPermutation (flat_map (λ (s : A). of_seat seat_of (num s) h) l) h
  parts_of num l [] once = rw (nothing l) (IsPermutation-refl [])
  parts_of num l (e ∷ h) once =
      let parts = λ (s : A). of_seat seat_of (num s) h in
      IsPermutation-trans _ (e ∷ flat_map parts l) (e ∷ h)
      (put_once (λ (s : A). num s == e.seat) parts (λ (s : A). of_seat seat_of (num s) (e ∷ h)) e (λ s. ap (λ b. cond b (e ∷ parts s) (parts s)) (flip e.seat (num s))) l (once 0 e refl))
      (IsPermutation-cons e (flat_map parts l) h (parts_of num l h (λ k x at. once (suc k) x at)))
