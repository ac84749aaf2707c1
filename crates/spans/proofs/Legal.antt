-- A right reply's deed is allowed.
use Rattle.spans.proofs.Histories.{wanting_does_nothing}
use Rattle.spans.proofs.Common.{and_parts, both_ways, common_steps, leb-false, ltb-false, not-false, or_parts}
use Rattle.std.proofs.Common.{arith}
use Rattle.std.proofs.Common.{rules}
use Rattle.std.proofs.Common.{◌≡◌, ℕ, Bool, true, false, List, [], ◌∷◌, ◌++◌, Some}
use Rattle.std.specs.Prelude.{map, filter, nat_lt}
use Rattle.spans.specs.declared.calls.commands.Cmd.{Cmd}
use Rattle.spans.specs.declared.calls.commands.Cmd.TheVariants.{Scan, ScanAt}
use Rattle.spans.specs.declared.calls.replies.Reply.{Reply}
use Rattle.spans.specs.declared.calls.replies.Reply.TheVariants.{Rows, Refused}
use Rattle.spans.specs.declared.calls.replies.Refusal.{Refusal}
use Rattle.spans.specs.declared.calls.replies.Refusal.TheVariants.{Blocked, NoTxn, NotOwner, Ended, NotClosed, BelowHorizon}
use Rattle.spans.specs.declared.calls.events.Event.{Event}
use Rattle.spans.specs.Effects.{After, Effect, Writes, effect, effect_of, effects_of}
use Rattle.spans.specs.Transactions.{closed_of}
use Rattle.spans.specs.Versions.{visible, is_blocked, committed_value, written_keys, write_of}
use Rattle.spans.specs.Collection.{horizon_of}
use Rattle.spans.specs.Answer.{first_refusal_or, transaction_tests, answer_of}
use Rattle.spans.specs.Legal.{IsRightEvent, IsLegal}
use Rattle.spans.specs.Keys.{in_span, pairs_of}
use Rattle.spans.proofs.Steps.{by_test, same_key, newest_is, version_wrote}
use Rattle.spans.proofs.Keyed.{IsIn, RisingKeys, added_in, stays_in, add_rises, filter_in, are_rows}
use Rattle.spans.proofs.Copies.{IsActive, Allowed, AllAllowed}

-- each refusal of the tests has P where it is the first that is met, and so has the reply where none is
abbrev pub Follows : (Reply → Type 0) → List (Bool × Refusal) → Reply → Type 0
Follows P [] reply = P reply
Follows P (test ∷ tests) reply = (test.0 ≡ true → P (Refused test.1)) × (test.0 ≡ false → Follows P tests reply)

pub unless_is : (P : Reply → Type 0) (tests : List (Bool × Refusal)) (reply : Reply) → Follows P tests reply → P (first_refusal_or tests reply)
unless_is P [] reply follows = follows
unless_is P (test ∷ tests) reply follows = grind (arith, common_steps, unless_is P tests reply)

-- past its tests a transaction is open
pub in_txn : (P : Reply → Type 0) (p : List Effect) (seat t : ℕ) (more : List (Bool × Refusal)) (reply : Reply)
    → P (Refused Ended) → P (Refused NoTxn) → P (Refused NotOwner) → (IsActive p t → Follows P more reply) → P (first_refusal_or (transaction_tests p seat t ++ more) reply)
in_txn P p seat t more reply ended no_txn not_owner here = grind (arith, common_steps, unless_is, or_parts, leb-false, not-false)

-- what was written is among the keys
pub written_in : (p : List Effect) (t : ℕ) (x : List ℕ) (a : After) → write_of p t x ≡ Some a → IsIn x (written_keys p)
written_in [] t x a is = cc
written_in (Writes k y b ∷ p) t x a is = search (by_test, same_key, and_parts, added_in, stays_in, written_in p t x a, rules, arith)
written_in (_ ∷ p) t x a is = written_in p t x a is

pub keys_rise : (p : List Effect) → RisingKeys (written_keys p)
keys_rise [] = tt
keys_rise (_ ∷ p) = grind (arith, common_steps, add_rises, keys_rise p)

pub visible_in : (p : List Effect) (x : List ℕ) (t : ℕ) (v : List ℕ) → (visible p x t).after ≡ Some v → IsIn x (written_keys p)
visible_in p x t v is = grind (arith, common_steps, newest_is, written_in, version_wrote)

pub blocked_in : (p : List Effect) (x : List ℕ) (t : ℕ) → is_blocked p x t ≡ true → IsIn x (written_keys p)
blocked_in p x t is = grind (arith, common_steps, newest_is, both_ways, written_in, version_wrote)

pub settled_in : (p : List Effect) (x : List ℕ) (t : ℕ) (v : List ℕ) → committed_value p x t ≡ Some v → IsIn x (written_keys p)
settled_in p x t v is = grind (arith, common_steps, newest_is, by_test, written_in)

-- a test of each key
pub each_key : (P : Reply → Type 0) (test : List ℕ → Bool) (why : List ℕ → Refusal) (keys : List (List ℕ)) (reply : Reply) → ((x : List ℕ) → P (Refused (why x)))
    → (((x : List ℕ) → IsIn x keys → test x ≡ false) → P reply) → Follows P (map (λ x. (test x, why x)) keys) reply
each_key P test why [] reply refused here = here (λ x i. absurd i)
each_key P test why (y ∷ ys) reply refused here = grind (arith, common_steps, each_key P test why ys reply refused)

-- the answer's deed is allowed
pub answer_allowed : (p : List Effect) (seat : ℕ) (cmd : Cmd) → Allowed p (effect seat cmd (answer_of p seat cmd))
answer_allowed p seat (Scan t span) =
    let P : Reply → Type 0 = λ r. Allowed p (effect seat (Scan t span) r) in
    let reply : Reply = Rows (pairs_of (λ x. (visible p x t).after) (filter (in_span span) (written_keys p))) in
    in_txn P p seat t (map (λ x. (is_blocked p x t, Blocked (visible p x t).ts)) (filter (in_span span) (written_keys p))) reply tt tt tt
    (λ here. each_key P (λ x. is_blocked p x t) (λ x. Blocked (visible p x t).ts) (filter (in_span span) (written_keys p)) reply (λ x. tt)
    (λ free. (here, λ x inside. grind (arith, common_steps, filter_in, blocked_in), are_rows span (λ x. (visible p x t).after) (written_keys p) (keys_rise p) (λ x v is. visible_in p x t v is))))
answer_allowed p seat (ScanAt t span) = unless_is (λ r. Allowed p (effect seat (ScanAt t span) r)) ((nat_lt (closed_of p) t, NotClosed (closed_of p)) ∷ (nat_lt t (horizon_of p), BelowHorizon (horizon_of p)) ∷ []) (Rows (pairs_of (λ x. committed_value p x t) (filter (in_span span) (written_keys p))))
    (λ _. tt, λ low. (λ _. tt, λ _. (ltb-false (closed_of p) t low, are_rows span (λ x. committed_value p x t) (written_keys p) (keys_rise p) (λ x v is. settled_in p x t v is))))
answer_allowed p seat (_) = grind (arith, common_steps)

pub right_allowed : (p : List Effect) (e : Event) → IsRightEvent p e → Allowed p (effect_of e)
right_allowed p e right = grind (arith, common_steps, answer_allowed, wanting_does_nothing)

pub legal_allowed : (h : List Event) → IsLegal h → AllAllowed (effects_of h)
legal_allowed [] legal = tt
legal_allowed (e ∷ h) legal = (right_allowed (effects_of h) e legal.0, legal_allowed h legal.1)
