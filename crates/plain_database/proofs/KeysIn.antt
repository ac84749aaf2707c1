-- The keys of a span are those from its beginning on, up to the first that isn't below its end.
use Rattle.plain_database.proofs.Common.{IsIn, Less, RisingKeys, Span, Unbounded, and-false, and-true, and_parts, below_high, common_steps, entries_between, filter_rises, in_span, key_cmp, keys_of, range_contains, start_of}
use Rattle.std.proofs.Common.{◌≡◌, ℕ, ◌≤◌, Bool, true, false, List, [], ◌∷◌, length, Option, refl, sym, ◌∙◌, ap, arith}
use Rattle.std.specs.Prelude.{filter}
use Rattle.timestamps.specs.declared.key.TheConstants.{MAX_KEY_BYTES}
use Rattle.spans.specs.KeyOrder.{from_low}
use Rattle.spans.proofs.KeyOrder.{starts_before, starts_at, stays_above}
use Rattle.plain_database.specs.Replies.{AreFromLow, AreAhead}

-- ---- the range that begins there

abbrev is_ahead : Option (List ℕ) → List ℕ → Bool
is_ahead low x = range_contains key_cmp (start_of low) Unbounded x

keys_ahead : {A : Type 0} (low : Option (List ℕ)) (es : List (List ℕ × A)) → keys_of (entries_between key_cmp (start_of low) Unbounded es) ≡ filter (is_ahead low) (keys_of es)
keys_ahead low [] = refl
keys_ahead low (e ∷ es) = grind (arith, common_steps, keys_ahead low es)

from_ahead : (q : List ℕ → Bool) (low : Option (List ℕ)) → ((x : List ℕ) → q x ≡ true → length x ≤ MAX_KEY_BYTES → from_low low x ≡ true) → (xs : List (List ℕ)) → AreFromLow low (filter q xs)
from_ahead q low each [] = tt
from_ahead q low each (x ∷ xs) = grind (arith, common_steps, each x, from_ahead q low each xs)

-- what passes passes the wider test
both_pass : (p q : List ℕ → Bool) → ((x : List ℕ) → p x ≡ true → q x ≡ true) → (xs : List (List ℕ)) → filter p (filter q xs) ≡ filter p xs
both_pass p q wider [] = refl
both_pass p q wider (x ∷ xs) = grind (arith, common_steps, wider x, both_pass p q wider xs)

pub are_ahead : {A : Type 0} (low : Option (List ℕ)) (es : List (List ℕ × A)) → RisingKeys (keys_of es) → AreAhead low (keys_of (entries_between key_cmp (start_of low) Unbounded es))
are_ahead low es r = rw (keys_ahead low es) (record { rising = filter_rises (is_ahead low) (keys_of es) r; from = from_ahead (is_ahead low) low (λ x on short. starts_at low x short (sym (and-true _) ∙ on)) (keys_of es) })

pub all_ahead : {A : Type 0} (span : Span) (es : List (List ℕ × A)) → filter (in_span span) (keys_of (entries_between key_cmp (start_of span.lo) Unbounded es)) ≡ filter (in_span span) (keys_of es)
all_ahead span es = ap (filter (in_span span)) (keys_ahead span.lo es) ∙ both_pass (in_span span) (is_ahead span.lo) (λ x on. and-true _ ∙ starts_before span.lo x (and_parts _ _ on).0) (keys_of es)

-- ---- one step

pub step_inside : (span : Span) (x : List ℕ) (xs : List (List ℕ)) → AreAhead span.lo (x ∷ xs) → length x ≤ MAX_KEY_BYTES → below_high span.hi x ≡ true → filter (in_span span) (x ∷ xs) ≡ x ∷ filter (in_span span) xs
step_inside span x xs a short below = grind (arith, common_steps)

none_inside : (span : Span) (x : List ℕ) (xs : List (List ℕ)) → below_high span.hi x ≡ false → ((y : List ℕ) → IsIn y xs → key_cmp x y ≡ Less) → filter (in_span span) xs ≡ []
none_inside span x [] past above = refl
none_inside span x (y ∷ ys) past above = grind (arith, common_steps, stays_above, and-false, none_inside span x ys past)

pub step_past : (span : Span) (x : List ℕ) (xs : List (List ℕ)) → AreAhead span.lo (x ∷ xs) → below_high span.hi x ≡ false → (filter (in_span span) (x ∷ xs) ≡ []) × (filter (in_span span) xs ≡ [])
step_past span x xs a past = grind (arith, common_steps, and-false, none_inside)
