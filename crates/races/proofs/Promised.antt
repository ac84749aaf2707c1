-- What the threads of a race promised, at their places.
use Rattle.std.proofs.Common.{◌≡◌, ℕ, zero, suc, ◌<◌, List, [], ◌∷◌, length, map, get_or, Ok, Global, sym, ap, ◌∙◌, subst, arith, All}
use Rattle.std.specs.Prelude.{Result, Vec, vec_len, IfOk}
use Rattle.races.proofs.Common.{Cmd, Db, length-map}
use Rattle.races.specs.declared.ended.Ended.{Ended}
use Rattle.races.specs.declared.racing.Plays.{Plays}
use Rattle.races.specs.Racing.{IsPlayed, AreStarted, AreOk, AllEnded}
use mathlib.Core.Option.{some, some-injective, some-ne-none}
use lib.ListN.{get_elem?}

-- an element of a mapped list
pub of_map : {A B : Type 0} (f : A → B) (xs : List A) (k : ℕ) (a : A) → get_elem? xs k ≡ some a → get_elem? (map f xs) k ≡ some (f a)
of_map f [] k a e = absurd (some-ne-none a (sym e))
of_map f (x ∷ xs) zero a e = ap (λ y. some (f y)) (some-injective x a e)
of_map f (x ∷ xs) (suc k) a e = of_map f xs k a e

-- one that is read at a place stands there
pub found : {A : Type 0} (xs : List A) (k : ℕ) (a : A) → get_elem? xs k ≡ some a → (k < length xs) × ((d : A) → get_or xs k d ≡ a)
found [] k a e = absurd (some-ne-none a (sym e))
found (x ∷ xs) zero a e = (omega arith, λ d. some-injective x a e)
found (x ∷ xs) (suc k) a e = let rest = found xs k a e in (omega (arith, rest.0), rest.1)

-- and has what all have
pub all_at : {A : Type 0} (P : A → Type 0) (xs : List A) (k : ℕ) (a : A) → All P xs → get_elem? xs k ≡ some a → P a
all_at P xs k a all e = let f = found xs k a e in subst P (f.1 a) (all k a f.0)

-- what each thread promised, its session kept
pub all_ended : {H Z E : Type 0} (promise : H → Plays) (db : Db) (seats : List _) (lists : List (Vec Cmd Global)) (handles : List H) (results : List (Result Ended E)) (all : Vec Ended Z) → AreStarted promise db seats lists handles
    → ((k : ℕ) (r : Result Ended E) → get_elem? results k ≡ some r → (h : H) × (get_elem? handles k ≡ some h) × IfOk r (λ e. IsPlayed (promise h).db.value (promise h).seat.value (promise h).commands.value.items e.events.items e.spent e.seat))
    → length results ≡ length handles → AreOk results all.items → vec_len all ≡ length all.items → AllEnded db seats lists all
all_ended promise db seats lists handles results all started kept as_many ok whole = record {
  count = whole ∙ (sym (length-map all.items Ok) ∙ (ap length ok ∙ (as_many ∙ (sym (length-map handles (λ h. (promise h).seat.value)) ∙ ap length started.of_seats))));
  as_many = ap length (sym started.of_lists) ∙ (length-map handles (λ h. (promise h).commands.value) ∙ (sym (length-map handles (λ h. (promise h).seat.value)) ∙ ap length started.of_seats));
  each = λ k e at.
      let r = kept k (Ok e) (ap (λ xs. get_elem? xs k) (sym ok) ∙ of_map Ok all.items k e at) in
      let same : (promise r.0).db.value ≡ db = all_at (λ h. (promise h).db.value ≡ db) handles k r.0 started.same r.1 in
      record {
        seat = (promise r.0).seat.value;
        commands = (promise r.0).commands.value;
        at_seat = ap (λ xs. get_elem? xs k) (sym started.of_seats) ∙ of_map (λ h. (promise h).seat.value) handles k r.0 r.1;
        at_list = ap (λ xs. get_elem? xs k) (sym started.of_lists) ∙ of_map (λ h. (promise h).commands.value) handles k r.0 r.1;
        played = subst (λ d. IsPlayed d (promise r.0).seat.value (promise r.0).commands.value.items e.events.items e.spent e.seat) same r.2;
      };
}
