-- What is kept, with its feeds and protections numbered after others.
use Rattle.restarts.proofs.Common.{AreDistinct, AreThose, Cmd, Has, IsLeastFloor, Kept, Opened, Place, Poll, Protected, Protection, Refused, Reply, by_test, common_steps, feed_refusal, first_refusal_or, is_accepted, list_any, may_lack_memory, nat_tests, unless_refused}
use Rattle.std.proofs.Common.{◌≡◌, ℕ, zero, suc, ◌+◌, ◌-◌, ◌<◌, ◌==◌, Bool, true, false, not, cond, ◌||◌, List, [], ◌∷◌, length, map, Option, Some, None, refl, sym, ◌∙◌, ap, subst, inl, inr, arith}
use Rattle.std.specs.Prelude.{filter, is_some, nat_le}
use Rattle.spans.specs.declared.calls.replies.Refusal.{Refusal}
use Rattle.restarts.specs.Restart.{number_from, renumbered_cmd, renumbered_reply}

-- ---- numbers

-- numbers that were alike stay so, and others too
pub same_number : (n f g : ℕ) → (number_from n f == number_from n g) ≡ (f == g)
same_number n zero zero = refl
same_number n zero (suc g) = grind (arith, nat_tests)
same_number n (suc f) zero = grind (arith, nat_tests)
same_number n (suc f) (suc g) = grind (arith, common_steps)

pub number_back : (n f : ℕ) → number_from n f - n ≡ f
number_back n zero = omega arith
number_back n (suc f) = omega arith

-- the reply before its numbers were shifted
abbrev original_reply : (n m : ℕ) → Reply → Reply
original_reply n m (Protected id) = Protected (id - m)
original_reply n m (Opened f) = Opened (f - n)
original_reply n m reply = reply

original_is : (n m : ℕ) (r : Reply) → original_reply n m (renumbered_reply n m r) ≡ r
original_is n m (Protected id) = ap Protected (number_back m id)
original_is n m (Opened f) = ap Opened (number_back n f)
original_is n m reply = refl

-- replies that are alike once they are renumbered were alike
pub reply_back : (n m : ℕ) (r s : Reply) → renumbered_reply n m r ≡ renumbered_reply n m s → r ≡ s
reply_back n m r s same = sym (original_is n m r) ∙ ap (original_reply n m) same ∙ original_is n m s

pub still_accepted : (n m : ℕ) (r : Reply) → is_accepted (renumbered_reply n m r) ≡ is_accepted r
still_accepted n m (Protected id) = refl
still_accepted n m reply = refl

pub still_may_lack : (n m : ℕ) (cmd : Cmd) → may_lack_memory (renumbered_cmd n m cmd) ≡ may_lack_memory cmd
still_may_lack n m (Poll f max) = refl
still_may_lack n m cmd = refl

-- ---- replies behind tests

pub renumbered_first : (n m : ℕ) (tests : List (Bool × Refusal)) (r : Reply) → renumbered_reply n m (first_refusal_or tests r) ≡ first_refusal_or tests (renumbered_reply n m r)
renumbered_first n m [] r = refl
renumbered_first n m (test ∷ tests) r = grind (arith, common_steps, renumbered_first n m tests r)

pub renumbered_unless : (n m : ℕ) (o : Option Refusal) (r : Reply) → renumbered_reply n m (unless_refused o r) ≡ unless_refused o (renumbered_reply n m r)
renumbered_unless n m None r = refl
renumbered_unless n m (Some why) r = refl

pub renumbered_either : (n m : ℕ) (b : Bool) (why : Refusal) (r : Reply) → renumbered_reply n m (cond b (Refused why) r) ≡ cond b (Refused why) (renumbered_reply n m r)
renumbered_either n m true why r = refl
renumbered_either n m false why r = refl

-- ---- what is kept

abbrev pub shifted_protection : ℕ → Protection → Protection
shifted_protection m w = record w { id = number_from m w.id }

-- after n feeds and m protections
abbrev pub shifted : (n m : ℕ) → Kept → Kept
shifted n m k = record k {
  protections = map (shifted_protection m) k.protections;
  protections_made = m + k.protections_made;
  feed = λ f. cond (nat_le f n) None (k.feed (f - n));
  feeds_opened = n + k.feeds_opened;
}

-- a feed is found by its number
pub feed_at : (n m : ℕ) (k : Kept) → k.feed 0 ≡ None → (f : ℕ) → (shifted n m k).feed (number_from n f) ≡ k.feed f
feed_at n m k zeroth zero = let low : nat_le 0 n ≡ true = grind (arith, nat_tests) in rw low (sym zeroth)
feed_at n m k zeroth (suc f) = let high : nat_le (suc (n + f)) n ≡ false = grind (arith, nat_tests) in let back : suc (n + f) - n ≡ suc f = omega arith in rw (high, back) refl

-- and of no feed but such a one
pub feed_from : (n m : ℕ) (k : Kept) (f : ℕ) (place : Place) → (shifted n m k).feed f ≡ Some place → (n < f) × (k.feed (f - n) ≡ Some place)
feed_from n m k f place at = grind (arith, common_steps)

-- why a feed isn't there
pub refusal_same : (n m : ℕ) (k : Kept) (f : ℕ) → feed_refusal (shifted n m k) (number_from n f) ≡ feed_refusal k f
refusal_same n m k zero = refl
refusal_same n m k (suc f) = grind (arith, common_steps)

-- the floors are the same
pub floor_same : (n m : ℕ) (k : Kept) → k.feed 0 ≡ None → (o : Option ℕ) → IsLeastFloor k.feed o → IsLeastFloor (shifted n m k).feed o
floor_same n m k zeroth None none = grind (arith, common_steps, none)
floor_same n m k zeroth (Some l) least = (
  (number_from n least.0.0, least.0.1, feed_at n m k zeroth least.0.0 ∙ least.0.2, least.0.3),
  λ f place at. least.1 (f - n) place (feed_from n m k f place at).1,
)

-- the protections
pub protections_at : (m : ℕ) (ns : List Protection) → map (λ (w : Protection). w.at) (map (shifted_protection m) ns) ≡ map (λ (w : Protection). w.at) ns
protections_at m [] = refl
protections_at m (w ∷ ns) = ap (λ l. w.at ∷ l) (protections_at m ns)

pub protected_same : (m id : ℕ) (ns : List Protection) → list_any (λ (w : Protection). w.id == number_from m id) (map (shifted_protection m) ns) ≡ list_any (λ (w : Protection). w.id == id) ns
protected_same m id [] = refl
protected_same m id (w ∷ ns) = ap (λ b. b || list_any (λ (w : Protection). w.id == number_from m id) (map (shifted_protection m) ns)) (same_number m w.id id) ∙ ap (λ b. (w.id == id) || b) (protected_same m id ns)

pub released_same : (m id : ℕ) (ns : List Protection) → map (shifted_protection m) (filter (λ (w : Protection). not (w.id == id)) ns) ≡ filter (λ (w : Protection). not (w.id == number_from m id)) (map (shifted_protection m) ns)
released_same m id [] = refl
released_same m id (w ∷ ns) = grind (arith, common_steps, released_same m id ns)

-- the feeds that live, by their numbers
number_again : (n f : ℕ) → n < f → number_from n (f - n) ≡ f
number_again n f above = by_number (f - n) refl
  where
    by_number : (g : ℕ) → f - n ≡ g → number_from n g ≡ f
    by_number zero e = absurd (omega (arith, above, e))
    by_number (suc g) e = omega (arith, above, e)

has_shifted : (n f : ℕ) (fs : List ℕ) → Has f fs → Has (number_from n f) (map (number_from n) fs)
has_shifted n f [] i = absurd i
has_shifted n f (g ∷ fs) i = grind (arith, common_steps, i, has_shifted n f fs)

shifted_has : (n f : ℕ) (fs : List ℕ) → Has f (map (number_from n) fs) → (g : ℕ) × Has g fs × (number_from n g ≡ f)
shifted_has n f [] i = absurd i
shifted_has n f (g ∷ fs) i = elim i [ inl here ↦ (g, inl refl, here) | inr there ↦ (let h = shifted_has n f fs there in (h.0, inr h.1, h.2)) ]

shifted_distinct : (n : ℕ) (fs : List ℕ) → AreDistinct fs → AreDistinct (map (number_from n) fs)
shifted_distinct n [] d = tt
shifted_distinct n (f ∷ fs) d = grind (arith, common_steps, shifted_has n (number_from n f) fs, number_back n, d, shifted_distinct n fs)

pub living_shifted : (n m : ℕ) (k : Kept) → k.feed 0 ≡ None → (fs : List ℕ) → AreThose (λ f. is_some (k.feed f)) fs → AreThose (λ f. is_some ((shifted n m k).feed f)) (map (number_from n) fs)
living_shifted n m k zeroth fs those = record {
  distinct = shifted_distinct n fs those.distinct;
  each = λ f. (
    λ i. let h = shifted_has n f fs i in grind (arith, common_steps, h, feed_at n m k zeroth h.0, those.each h.0),
    λ is. grind (arith, common_steps, nat_tests, is, those.each (f - n), has_shifted n (f - n) fs, number_again n f),
  );
}

pub same_count : (n : ℕ) (fs : List ℕ) → length (map (number_from n) fs) ≡ length fs
same_count n [] = refl
same_count n (f ∷ fs) = ap suc (same_count n fs)
