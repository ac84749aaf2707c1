-- The answers of a legal run are the ones that were foreseen, where none of them is a refusal.
use Rattle.restarts.proofs.Common.{After, Effect, Event, IsLegal, IsRightEvent, answer_of, common_steps, effects_of, event, is_accepted, write_of, written_value}
use Rattle.std.proofs.Common.{arith}
use Rattle.std.proofs.Common.{◌≡◌, ℕ, zero, suc, true, List, [], ◌∷◌, ◌++◌, length, map, Some, None, refl, sym, ◌∙◌, ap}
use Rattle.restarts.specs.Dump.{dump, end_steps, left_keys, transaction_steps, versions_through, write_step, write_steps}
use Rattle.restarts.specs.Running.{Step, run, with_steps}

-- none of the answers is a refusal
abbrev pub AreAccepted : List Step → Type 0
AreAccepted [] = Unit {0}
AreAccepted (s ∷ steps) = (is_accepted s.1 ≡ true) × AreAccepted steps

-- what came before is legal
legal_before : (h : List Event) (steps : List Step) → IsLegal (with_steps h steps) → IsLegal h
legal_before h [] legal = legal
legal_before h (s ∷ steps) legal = (legal_before (event (length h) 0 s.0 s.1 ∷ h) steps legal).1

pub run_is : (h : List Event) (steps : List Step) → AreAccepted steps → IsLegal (with_steps h steps) → run h (map (λ (s : Step). s.0) steps) ≡ with_steps h steps
run_is h [] accepted legal = refl
run_is h (s ∷ steps) accepted legal =
    let right : IsRightEvent (effects_of h) (event (length h) 0 s.0 s.1) = (legal_before (event (length h) 0 s.0 s.1 ∷ h) steps legal).0 in
    let answer : s.1 ≡ answer_of (effects_of h) 0 s.0 = grind (arith, common_steps) in
    ap (λ r. run (event (length h) 0 s.0 r ∷ h) (map (λ (s : Step). s.0) steps)) (sym answer)
    ∙ run_is (event (length h) 0 s.0 s.1 ∷ h) steps accepted.1 legal

both_accepted : (xs ys : List Step) → AreAccepted xs → AreAccepted ys → AreAccepted (xs ++ ys)
both_accepted [] ys a b = b
both_accepted (x ∷ xs) ys a b = (a.0, both_accepted xs ys a.1 b)

write_accepted : (t : ℕ) (x : List ℕ) (a : After) → is_accepted (write_step t x a).1 ≡ true
write_accepted t x None = refl
write_accepted t x (Some v) = refl

writes_accepted : (p : List Effect) (t : ℕ) (keys : List (List ℕ)) → AreAccepted (write_steps p t keys)
writes_accepted p t [] = tt
writes_accepted p t (x ∷ keys) = (write_accepted t x (written_value (write_of p t x)), writes_accepted p t keys)

transaction_accepted : (p : List Effect) (t : ℕ) (keys : List (List ℕ)) → AreAccepted (transaction_steps p t keys)
transaction_accepted p t [] = tt
transaction_accepted p t (x ∷ keys) = (refl, both_accepted (write_steps p t (x ∷ keys)) _ (writes_accepted p t (x ∷ keys)) (refl, tt))

through_accepted : (p : List Effect) (n : ℕ) → AreAccepted (versions_through p n)
through_accepted p zero = tt
through_accepted p (suc t) = both_accepted (versions_through p t) (transaction_steps p (suc t) (left_keys p (suc t))) (through_accepted p t) (transaction_accepted p (suc t) (left_keys p (suc t)))

pub dump_accepted : (p : List Effect) (m : ℕ) → AreAccepted (dump p m)
dump_accepted p m = both_accepted (versions_through p m) (end_steps p m) (through_accepted p m) (refl, (refl, tt))
