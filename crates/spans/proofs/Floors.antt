-- Messages that are taken are above the floor of those before them.
use Rattle.spans.proofs.Common.{Row, and_parts, append-nil, common_steps, le-leb, leb-true, ltb-true}
use Rattle.std.proofs.Common.{◌≡◌, ℕ, suc, ◌-◌, ◌<◌, ◌≤◌, Bool, true, false, cond, not, List, [], ◌∷◌, ◌++◌, Option, Some, None, refl, sym, subst, arith, append_assoc}
use Rattle.std.specs.Prelude.{max}
use Rattle.spans.specs.declared.span.Span.{Span}
use Rattle.spans.specs.declared.calls.messages.Message.{Message}
use Rattle.spans.specs.declared.calls.messages.Message.TheVariants as messages
use Rattle.spans.specs.Feeds.{rows_in, last_resolved}
use Rattle.spans.specs.Collection.{floor_after}
use Rattle.spans.specs.Consumer.{ApplyFault, last_row, is_after, reaches, apply_fault, AllTaken}
use Rattle.spans.specs.Completeness.{time_of, AllAbove}
use Rattle.spans.proofs.StreamOrder.{IsRowIn}
use Rattle.spans.proofs.RowOrder.{row_order}

-- the messages after some that were taken, and those before
pub taken_after : (span : Span) (start : ℕ) (taken before rest : List Message) → AllTaken span start taken (before ++ rest) → AllTaken span start (taken ++ before) rest
taken_after span start taken [] rest h = subst (λ ms. AllTaken span start ms rest) (sym (append-nil taken)) h
taken_after span start taken (m ∷ ms) rest h = subst (λ l. AllTaken span start l rest) (append_assoc taken (m ∷ []) ms) (taken_after span start (taken ++ m ∷ []) ms rest h.1)

pub taken_before : (span : Span) (start : ℕ) (taken before rest : List Message) → AllTaken span start taken (before ++ rest) → AllTaken span start taken before
taken_before span start taken [] rest h = tt
taken_before span start taken (m ∷ ms) rest h = (h.0, taken_before span start (taken ++ m ∷ []) ms rest h.1)

-- the floor by one message
abbrev pub floor_by : Message → ℕ
floor_by (messages.Row r) = r.ts - 1
floor_by (messages.Resolved t) = t

-- the floor after two lists of messages
pub floor_append : (n : ℕ) (ms ns : List Message) → floor_after n (ms ++ ns) ≡ floor_after (floor_after n ms) ns
floor_append n [] ns = refl
floor_append n (messages.Row r ∷ ms) ns = floor_append (r.ts - 1) ms ns
floor_append n (messages.Resolved t ∷ ms) ns = floor_append t ms ns

pub floor_join : (n : ℕ) (ms : List Message) (m : Message) → floor_after n (ms ++ m ∷ []) ≡ floor_by m
floor_join n ms (messages.Row r) = floor_append n ms (messages.Row r ∷ [])
floor_join n ms (messages.Resolved t) = floor_append n ms (messages.Resolved t ∷ [])

-- what is above all resolved timestamps, and not below the last row, is above the floor
floor_last : (n k : ℕ) (o : Option Row) (m : Message) (ms : List Message) (t : ℕ) → last_resolved k (m ∷ ms) < t → reaches (last_row o (m ∷ ms)) t ≡ true → floor_after n (m ∷ ms) < t
floor_last n k o (messages.Row r) [] t above high = let low : r.ts ≤ t = leb-true r.ts t high in omega arith
floor_last n k o (messages.Resolved u) [] t above high = omega arith
floor_last n k o (messages.Row r) (m ∷ ms) t above high = floor_last (r.ts - 1) k (Some r) m ms t above high
floor_last n k o (messages.Resolved u) (m ∷ ms) t above high = floor_last u (max k u) o m ms t above high

pub floor_below : (n : ℕ) (ms : List Message) (t : ℕ) → last_resolved n ms < t → reaches (last_row None ms) t ≡ true → floor_after n ms < t
floor_below n [] t above high = above
floor_below n (m ∷ ms) t above high = floor_last n n None m ms t above high

after_reaches : (o : Option Row) (r : Row) → is_after o r ≡ true → reaches o r.ts ≡ true
after_reaches None r after = refl
after_reaches (Some s) r after = le-leb s.ts r.ts (row_order s r after)

passes : (a : Bool) (f : ApplyFault) (o : Option ApplyFault) → cond (not a) (Some f) o ≡ None → a ≡ true
passes true f o none = refl
passes false f o none = cc

-- a message that is taken is above the floor
pub above_floor : (span : Span) (start : ℕ) (taken : List Message) (m : Message) → apply_fault span start taken m ≡ None → floor_after start taken < time_of m
above_floor span start taken (messages.Row r) none = grind (arith, common_steps, and_parts, passes, floor_below, ltb-true, after_reaches)
above_floor span start taken (messages.Resolved t) none = grind (arith, common_steps, and_parts, passes, floor_below, ltb-true)

-- so the floor doesn't fall
floor_rises : (span : Span) (start : ℕ) (taken : List Message) (m : Message) → apply_fault span start taken m ≡ None → floor_after start taken ≤ floor_after start (taken ++ m ∷ [])
floor_rises span start taken (messages.Row r) none = grind (arith, common_steps, floor_join, above_floor span start taken (messages.Row r) none)
floor_rises span start taken (messages.Resolved t) none = grind (arith, common_steps, floor_join, above_floor span start taken (messages.Resolved t) none)

pub floor_grows : (span : Span) (start : ℕ) (taken ms : List Message) → AllTaken span start taken ms → floor_after start taken ≤ floor_after start (taken ++ ms)
floor_grows span start taken [] h = rw (append-nil taken) (omega arith)
floor_grows span start taken (m ∷ ms) h = grind (arith, common_steps, floor_rises, floor_grows span start (taken ++ m ∷ []) ms h.1)

all_higher : (n k : ℕ) (ms : List Message) → n ≤ k → AllAbove k ms → AllAbove n ms
all_higher n k [] low h = tt
all_higher n k (m ∷ ms) low h = (omega (arith, h.0), all_higher n k ms low h.1)

-- all that is taken later is above the floor
pub all_above_floor : (span : Span) (start : ℕ) (taken ms : List Message) → AllTaken span start taken ms → AllAbove (floor_after start taken) ms
all_above_floor span start taken [] h = tt
all_above_floor span start taken (m ∷ ms) h = grind (arith, common_steps, above_floor, all_higher, floor_rises, all_above_floor span start (taken ++ m ∷ []) ms h.1)

-- a row that was taken is at most one above the floor
pub row_near_floor : (span : Span) (start : ℕ) (taken ms : List Message) (s : Row) → AllTaken span start taken ms → IsRowIn s (rows_in ms) → s.ts ≤ suc (floor_after start (taken ++ ms))
row_near_floor span start taken [] s h i = absurd i
row_near_floor span start taken (messages.Row r ∷ ms) s h i = grind (arith, common_steps, floor_join, floor_grows, row_near_floor span start (taken ++ messages.Row r ∷ []) ms s h.1)
row_near_floor span start taken (messages.Resolved t ∷ ms) s h i = subst (λ l. s.ts ≤ suc (floor_after start l)) (append_assoc taken (messages.Resolved t ∷ []) ms) (row_near_floor span start (taken ++ messages.Resolved t ∷ []) ms s h.1 i)
