-- The seats' entries make up the whole history.
use Rattle.std.proofs.Common.{◌≡◌, ℕ, suc, ◌+◌, ◌<◌, ◌≤◌, cond, true, List, [], ◌∷◌, map, length, sym, refl, ap, ◌∙◌, arith, eq-eqb, ne_eqb}
use Rattle.ticket_lock.proofs.Common.{at_map, sum_by, sum_by-cons}
use mathlib.Core.Option.{some}
use mathlib.Core.Logic.{dite}
use native.Mathlib.Decide.{ℕ_discrete}
use lib.ListN.{get_elem?}
use Rattle.ticket_lock.specs.declared.rule.SeatRecord.{SeatRecord}
use Rattle.ticket_lock.specs.declared.chronicle.Chronicle.{Ghosts}
use Rattle.ticket_lock.specs.declared.lock.Seat.{Seat}
use Rattle.ticket_lock.specs.Lists.{most, StartsWith, of_seat, span}
use Rattle.ticket_lock.specs.Seats.{number, mine, record_of, IsPartOf, IsMerge}
use Rattle.ticket_lock.proofs.ListFacts.{times, span_has}

module _ {A : Type 0} where
  sum_zero : (l : List A) → sum_by (λ (x : A). 0) l ≡ 0
  sum_zero [] = refl
  sum_zero (x ∷ xs) = let q = sum_zero xs in omega (arith, sum_by-cons (λ (y : A). 0) x xs)

  sum_same : (f g : A → ℕ) (l : List A) → ((x : A) → f x ≡ g x) → sum_by f l ≡ sum_by g l
  sum_same f g [] same = refl
  sum_same f g (x ∷ xs) same = let q = sum_same f g xs same in let p = same x in omega (arith, sum_by-cons f x xs, sum_by-cons g x xs)

  sum_plus : (f g h : A → ℕ) (l : List A) → ((x : A) → f x ≡ g x + h x) → sum_by f l ≡ sum_by g l + sum_by h l
  sum_plus f g h [] is = refl
  sum_plus f g h (x ∷ xs) is = let q = sum_plus f g h xs is in let p = is x in omega (arith, sum_by-cons f x xs, sum_by-cons g x xs, sum_by-cons h x xs)

  sum_map : {B : Type 0} (f : B → ℕ) (g : A → B) (l : List A) → sum_by f (map g l) ≡ sum_by (λ (x : A). f (g x)) l
  sum_map f g [] = refl
  sum_map f g (x ∷ xs) = let q = sum_map f g xs in omega (arith, sum_by-cons f (g x) (map g xs), sum_by-cons (λ (y : A). f (g y)) x xs)

  -- an entry adds one to what its own seat has
  one_more : (seat_of : A → ℕ) (n : ℕ) (e : A) (h : List A) → length (of_seat seat_of n (e ∷ h)) ≡ times (seat_of e) n + length (of_seat seat_of n h)
  one_more seat_of n e h = dite (ℕ_discrete (seat_of e) n)
      (λ is. let p = ap (λ b. length (cond b (e ∷ of_seat seat_of n h) (of_seat seat_of n h))) (eq-eqb (seat_of e) n is) in let q = ap {B = ℕ} (λ b. cond b 1 0) (eq-eqb n (seat_of e) (sym is)) in omega (arith, p, q))
      (λ not. let p = ap (λ b. length (cond b (e ∷ of_seat seat_of n h) (of_seat seat_of n h))) (ne_eqb (seat_of e) n not) in let q = ap {B = ℕ} (λ b. cond b 1 0) (ne_eqb n (seat_of e) (λ z. not (sym z))) in omega (arith, p, q))

module _ {A : Type 0} where
  -- what all seats have of a list that names no other is as long as the list
  pub covered : (seat_of : A → ℕ) (count : ℕ) (h : List A) → ((k : ℕ) (e : A) → get_elem? h k ≡ some e → seat_of e < count) → sum_by (λ n. length (of_seat seat_of n h)) (span 0 count) ≡ length h
  covered seat_of count [] named = sum_zero (span 0 count)
  covered seat_of count (e ∷ h) named = let q = covered seat_of count h (λ k x g. named (suc k) x g) in let one = span_has (seat_of e) 0 count (omega arith) (omega (arith, named 0 e refl)) in
      let p = sum_plus (λ n. length (of_seat seat_of n (e ∷ h))) (times (seat_of e)) (λ n. length (of_seat seat_of n h)) (span 0 count) (λ n. one_more seat_of n e h) in omega arith

module _ {T E : Type 0} (stands : T → ℕ → List E → Type 0) (seat_of : E → ℕ) (floor_of : T → ℕ) where
  -- what the table tells once all seats are gathered, by what they kept
  pub record Whole (first count : ℕ) (records : List (SeatRecord E)) (x : T) : Type 0 where
    pub history : List E
    pub stood : stands x first history
    pub bounded : first + length history ≤ most
    pub each : (k : ℕ) (c : SeatRecord E) → get_elem? records k ≡ some c → StartsWith history c.seen × (c.mine ≡ of_seat seat_of c.number history) × (c.spent ≡ true → first + length history ≡ most) × (c.known ≤ floor_of x)
    pub numbered : (f : ℕ → ℕ) → sum_by f (map (λ c. c.number) records) ≡ sum_by f (span 0 count)
    pub named : (k : ℕ) (e : E) → get_elem? history k ≡ some e → seat_of e < count

  module _ {C : Ghosts T E} where
    by_number : (f : ℕ → ℕ) (seats : List (Seat T E C)) → sum_by (λ s. f (number s)) seats ≡ sum_by f (map (λ (c : SeatRecord E). c.number) (map record_of seats))
    by_number f seats = sum_same (λ (s : Seat T E C). f (number s)) (λ (s : Seat T E C). f (record_of s).number) seats (λ s. ap f (sym s.proper.numbered))
        ∙ (sym (sum_map (λ (c : SeatRecord E). f c.number) record_of seats) ∙ sym (sum_map f (λ (c : SeatRecord E). c.number) (map record_of seats)))

    mine_of : (history : List E) (seats : List (Seat T E C)) → ((k : ℕ) (s : Seat T E C) → get_elem? seats k ≡ some s → mine s ≡ of_seat seat_of (number s) history)
        → sum_by (λ s. length (mine s)) seats ≡ sum_by (λ (s : Seat T E C). length (of_seat seat_of (number s) history)) seats
    mine_of history [] owns = refl
    mine_of history (s ∷ ss) owns = let q = mine_of history ss (λ k x g. owns (suc k) x g) in let p = ap length (owns 0 s refl) in
        omega (arith, sum_by-cons (λ (x : Seat T E C). length (mine x)) s ss, sum_by-cons (λ (x : Seat T E C). length (of_seat seat_of (number x) history)) s ss)

    pub merges : (first count : ℕ) (seats : List (Seat T E C)) (x : T) → length seats ≡ count → Whole first count (map record_of seats) x → IsMerge stands seat_of floor_of first count seats x
    merges first count seats x all w = let h : List E = w.history in
        let weighed : ((f : ℕ → ℕ) → sum_by (λ (s : Seat T E C). f (number s)) seats ≡ sum_by f (span 0 count)) = λ f. by_number f seats ∙ w.numbered f in
        let part : ((k : ℕ) (s : Seat T E C) → get_elem? seats k ≡ some s → IsPartOf seat_of first (floor_of x) h s) =
        (λ k s g. let e = w.each k (record_of s) (at_map record_of seats k s g) in record { sees = e.0; owns = e.1 ∙ ap (λ (n : ℕ). of_seat seat_of n h) s.proper.numbered; spent = e.2; known = e.3 }) in record {
          all = all;
          history = h;
          stood = w.stood;
          bounded = w.bounded;
          named = w.named;
          each = part;
          once = λ n l. weighed (times n) ∙ span_has n 0 count (omega arith) (omega (arith, l));
          weighed = weighed;
          total = mine_of h seats (λ k s g. (part k s g).owns) ∙ (weighed (λ n. length (of_seat seat_of n h)) ∙ covered seat_of count h w.named);
        }
