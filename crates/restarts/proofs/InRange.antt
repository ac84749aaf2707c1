-- In a legal history closed and all that began are in the range of timestamps.
use Rattle.restarts.proofs.Common.{Abort, Aborted, Begin, Begins, BelowClosed, Cancel, Cancelled, Close, CloseHard, Closed, Closes, Cmd, Collect, Collected, Commit, Committed, Del, Effect, Event, Found, Get, HardCloses, Has, IsLegal, IsRightEvent, MAX, Messages, Open, OpenEvery, OpenInitial, OpenInitialEvery, Opened, Poll, Protect, Protected, Put, ReadAt, Refused, Release, Released, Reply, Rows, Scan, ScanAt, Started, Stats, TooLate, TsRange, TsUsed, Written, among_has, answer_of, begun_of, closed_of, common_steps, decided_through, effect, effect_of, effects_of, is_timestamp, least_low, nat_tests, owner_of, undecided_timestamps, unless_is}
use Rattle.std.proofs.Common.{◌≡◌, ℕ, ◌≤◌, ◌-◌, ◌&&◌, length, map, false, not, List, [], ◌∷◌, refl, sym, subst, inl, inr, arith}
use Rattle.std.specs.Prelude.{filter, is_some, max, nat_le, nat_lt}
use Rattle.spans.proofs.Histories.{wanting_does_nothing}
use Rattle.spans.proofs.Open.{begun_among}
use Rattle.restarts.specs.Dump.{greatest_of}
use Rattle.restarts.specs.Restart.{HasMark}

-- what the effect begins or closes is in range
abbrev IsInRange : Effect → Type 0
IsInRange (Begins t seat) = t ≤ MAX
IsInRange (Closes at) = at ≤ MAX
IsInRange (HardCloses to at) = at ≤ MAX
IsInRange d = Unit {0}

answer_in_range : (p : List Effect) → closed_of p ≤ MAX → (seat : ℕ) (cmd : Cmd) (reply : Reply) → reply ≡ answer_of p seat cmd → IsInRange (effect seat cmd reply)
answer_in_range p low seat (Begin t) reply is = subst (λ r. IsInRange (effect seat (Begin t) r)) (sym is)
    (unless_is (λ r. IsInRange (effect seat (Begin t) r)) ((not (is_timestamp t), TsRange) ∷ (nat_le t (closed_of p), BelowClosed (closed_of p)) ∷ (is_some (owner_of p t), TsUsed) ∷ []) Started
    (λ _. tt, λ right. (λ _. tt, λ _. (λ _. tt, λ _. begins right))))
  where
    begins : not (nat_lt 0 t && nat_le t MAX) ≡ false → t ≤ MAX
    begins right = grind (arith, nat_tests)
answer_in_range p low seat (Close to) reply is = subst (λ r. IsInRange (effect seat (Close to) r)) (sym is)
    (unless_is (λ r. IsInRange (effect seat (Close to) r)) ((nat_lt MAX to, TsRange) ∷ []) (Closed (max (closed_of p) (decided_through p to)) 0) (λ _. tt, closes))
  where
    closes : nat_lt MAX to ≡ false → max (closed_of p) (decided_through p to) ≤ MAX
    closes right = let top : to ≤ MAX = grind (arith, nat_tests) in let down : decided_through p to ≤ to = least_low to (map (λ t. t - 1) (undecided_timestamps p)) in omega (arith, low, top, down)
answer_in_range p low seat (CloseHard to) reply is = subst (λ r. IsInRange (effect seat (CloseHard to) r)) (sym is)
    (unless_is (λ r. IsInRange (effect seat (CloseHard to) r)) ((nat_lt MAX to, TsRange) ∷ []) (Closed (max (closed_of p) to) (length (filter (λ t. nat_le t to) (undecided_timestamps p)))) (λ _. tt, closes))
  where
    closes : nat_lt MAX to ≡ false → max (closed_of p) to ≤ MAX
    closes right = let top : to ≤ MAX = grind (arith, nat_tests) in omega (arith, low, top)
answer_in_range p low seat (Get t x) (Found v) is = tt
answer_in_range p low seat (Scan t span) (Rows rows) is = tt
answer_in_range p low seat (Put t x v) Written is = tt
answer_in_range p low seat (Put t x v) (Refused TooLate) is = tt
answer_in_range p low seat (Del t x) Written is = tt
answer_in_range p low seat (Del t x) (Refused TooLate) is = tt
answer_in_range p low seat (Commit t) (Committed keys) is = tt
answer_in_range p low seat (Abort t) Aborted is = tt
answer_in_range p low seat (ReadAt t x) (Found v) is = tt
answer_in_range p low seat (ScanAt t span) (Rows rows) is = tt
answer_in_range p low seat (Protect t) (Protected id) is = tt
answer_in_range p low seat (Release id) Released is = tt
answer_in_range p low seat (Collect to) (Collected horizon removed) is = tt
answer_in_range p low seat (Open span cursor) (Opened feed) is = tt
answer_in_range p low seat (OpenInitial span cursor) (Opened feed) is = tt
answer_in_range p low seat (OpenEvery span cursor gap) (Opened feed) is = tt
answer_in_range p low seat (OpenInitialEvery span cursor gap) (Opened feed) is = tt
answer_in_range p low seat (Poll feed max) (Messages ms) is = tt
answer_in_range p low seat (Cancel feed) Cancelled is = tt
answer_in_range p low seat Stats (Opened feed) is = tt
answer_in_range p low seat cmd reply is = tt

effect_in_range : (p : List Effect) → closed_of p ≤ MAX → (e : Event) → IsRightEvent p e → IsInRange (effect_of e)
effect_in_range p low e right = grind (arith, common_steps, answer_in_range, wanting_does_nothing)

-- the greatest is at or above each
pub at_most : (n m : ℕ) (ms : List ℕ) → n ≤ m → ((k : ℕ) → Has k ms → k ≤ m) → greatest_of n ms ≤ m
at_most n m [] low each = low
at_most n m (k ∷ ms) low each = omega (arith, each k (inl refl), at_most n m ms low (λ j i. each j (inr i)))

pub first_low : (n : ℕ) (ms : List ℕ) → n ≤ greatest_of n ms
first_low n [] = omega arith
first_low n (m ∷ ms) = let more : n ≤ greatest_of n ms = first_low n ms in omega (arith, more)

pub each_low : (n k : ℕ) (ms : List ℕ) → Has k ms → k ≤ greatest_of n ms
each_low n k [] i = absurd i
each_low n k (m ∷ ms) i = grind (arith, common_steps, each_low n k ms)

-- all that began
begun_in_range : (d : Effect) (p : List Effect) → IsInRange d → ((t : ℕ) → Has t (begun_of p) → t ≤ MAX) → (t : ℕ) → Has t (begun_of (d ∷ p)) → t ≤ MAX
begun_in_range (Begins k seat) p here before t i = elim i [ inl same ↦ subst (λ n. n ≤ MAX) same here | inr there ↦ before t there ]
begun_in_range d p here before t i = before t i

closed_in_range : (d : Effect) (p : List Effect) → IsInRange d → closed_of p ≤ MAX → closed_of (d ∷ p) ≤ MAX
closed_in_range (Closes at) p here before = here
closed_in_range (HardCloses to at) p here before = here
closed_in_range d p here before = before

pub all_in_range : (h : List Event) → IsLegal h → (closed_of (effects_of h) ≤ MAX) × ((t : ℕ) → Has t (begun_of (effects_of h)) → t ≤ MAX)
all_in_range [] legal = (omega arith, λ t i. absurd i)
all_in_range (e ∷ h) legal =
    let before = all_in_range h legal.1 in
    let here : IsInRange (effect_of e) = effect_in_range (effects_of h) before.0 e legal.0 in
    (closed_in_range (effect_of e) (effects_of h) here before.0, begun_in_range (effect_of e) (effects_of h) here before.1)

pub has_mark : (h : List Event) (n : ℕ) → HasMark h n
has_mark h n legal low = grind (arith, common_steps, all_in_range, first_low, at_most, each_low, among_has, begun_among)
