-- What refuses a transaction's reads, and what its write, its commit and its abort are answered and change.
use Rattle.mvto_rules.proofs.Common.{Abort, Aborted, After, Commit, Committed, Get, IsAbortedBy, IsAlike, IsAnswered, IsCommittedBy, IsLate, IsNumberOf, IsStep, IsWanting, IsWritten, Kept, NoMemory, Refusal, Refused, Reply, Scan, Span, TooLate, Written, common_steps, refusal, unless_refused}
use Rattle.std.proofs.Common.{arith}
use Rattle.std.proofs.Common.{Err, List, None, Ok, Result, Some, ap, false, inl, inr, refl, subst, sym, true, ℕ, ◌≡◌}
use Rattle.std.specs.Prelude.{IfOk, OnErr, is_some}
use Rattle.spans.specs.declared.calls.commands.Cmd.{Cmd}
use Rattle.mvto_rules.specs.Holding.{Changes, Steps, holding, write_of}
use Rattle.mvto_rules.specs.declared.rules.Rules.{Rules}

-- what was tried is a step, where it is answered or memory was wanting
pub tried_so : {E : Type 0} (r r' : Rules) (seat : ℕ) (cmd : Cmd) (o : Result Reply E) (reply : Reply) → IfOk o (λ a. reply ≡ a) → OnErr o (reply ≡ Refused NoMemory)
    → IfOk o (λ a. Changes r r' (λ k k'. IsAnswered k k' seat cmd a)) → OnErr o (Changes r r' (λ k k'. IsWanting k k' seat cmd)) → Steps r r' seat cmd reply
tried_so r r' seat cmd (Ok a) reply same none answered wanting = λ k. inl (subst (IsAnswered (holding k r) (holding k r') seat cmd) (sym same) (answered k))
tried_so r r' seat cmd (Err e) reply same none answered wanting = λ k. inr (none, wanting k)

-- ---- what the tests of its transaction refuse

pub get_refused : (k : Kept) (seat t : ℕ) (x : List ℕ) (q : Refusal) → refusal k seat t ≡ Some q → IsAnswered k k seat (Get t x) (Refused q)
get_refused k seat t x q is = grind (arith, common_steps)

pub scan_refused : (k : Kept) (seat t : ℕ) (span : Span) (q : Refusal) → refusal k seat t ≡ Some q → IsAnswered k k seat (Scan t span) (Refused q)
scan_refused k seat t span q is = grind (arith, common_steps)

pub write_refused : (k : Kept) (seat t : ℕ) (x : List ℕ) (a : After) (q : Refusal) → refusal k seat t ≡ Some q → (q ≡ TooLate → ⊥) → IsAnswered k k seat (write_of t x a) (Refused q)
write_refused k seat t x None q is other = grind (arith, common_steps)
write_refused k seat t x (Some v) q is other = grind (arith, common_steps)

-- ---- a write, by the test of its marks

pub write_late : (k k' : Kept) (seat t : ℕ) (x : List ℕ) (a : After) → refusal k seat t ≡ None → IsLate k x t true → IsAbortedBy k k' t → IsAnswered k k' seat (write_of t x a) (Refused TooLate)
write_late k k' seat t x None free late done = grind (arith, common_steps)
write_late k k' seat t x (Some v) free late done = grind (arith, common_steps)

pub write_done : (k k' : Kept) (seat t : ℕ) (x : List ℕ) (a : After) → refusal k seat t ≡ None → IsLate k x t false → IsWritten k k' t x a → IsAnswered k k' seat (write_of t x a) Written
write_done k k' seat t x None free late done = grind (arith, common_steps)
write_done k k' seat t x (Some v) free late done = grind (arith, common_steps)

pub write_wanting : (k k' : Kept) (seat t : ℕ) (x : List ℕ) (a : After) → refusal k seat t ≡ None → IsLate k x t false → IsAlike k k' → IsWanting k k' seat (write_of t x a)
write_wanting k k' seat t x None free late alike = record { may = refl; accepting = (Written, (false, (λ none. late), sym (ap (λ o. unless_refused o Written) free)), refl); alike = alike }
write_wanting k k' seat t x (Some v) free late alike = record { may = refl; accepting = (Written, (false, (λ none. late), sym (ap (λ o. unless_refused o Written) free)), refl); alike = alike }

-- ---- the end of a transaction

pub commit_refused : (k : Kept) (seat t : ℕ) (q : Refusal) → refusal k seat t ≡ Some q → IsStep k k seat (Commit t) (Refused q)
commit_refused k seat t q is = grind (arith, common_steps)

pub commit_done : (k k' : Kept) (seat t s keys : ℕ) → s ≡ t → refusal k seat t ≡ None → IsNumberOf (λ x. is_some (k.version x s)) keys → IsCommittedBy k k' s → IsStep k k' seat (Commit t) (Committed keys)
commit_done k k' seat t s keys same free counted done = inl (record {
  right = (keys, (λ none. subst (λ n. IsNumberOf (λ x. is_some (k.version x n)) keys) same counted), grind (arith, common_steps));
  change = subst (IsCommittedBy k k') same done;
})

pub abort_refused : (k : Kept) (seat t : ℕ) (q : Refusal) → refusal k seat t ≡ Some q → IsStep k k seat (Abort t) (Refused q)
abort_refused k seat t q is = grind (arith, common_steps)

pub abort_done : (k k' : Kept) (seat t s : ℕ) → s ≡ t → refusal k seat t ≡ None → IsAbortedBy k k' s → IsStep k k' seat (Abort t) Aborted
abort_done k k' seat t s same free done = grind (arith, common_steps)
