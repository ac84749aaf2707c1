-- A transaction that is written again, step by step, in what is kept.
use Rattle.restarts.proofs.Common.{After, AreThose, Begin, Commit, Committed, Del, Event, Kept, MAX, Put, RisingKeys, StandsFor, Started, Transaction, Written, by_test, common_steps, event, has, has_in, has_is, in_has, nat_tests, new_transaction, refusal, rising_distinct, same_key, step_stands}
use Rattle.std.proofs.Common.{◌≡◌, ℕ, ◌<◌, ◌≤◌, ◌==◌, Bool, true, false, cond, ◌&&◌, ◌||◌, List, [], ◌∷◌, ◌++◌, length, map, Some, None, refl, sym, ◌∙◌, ap, inl, arith}
use Rattle.std.specs.Prelude.{bytes_eq, is_some, nat_le, option_map}
use Rattle.spans.specs.declared.state.State.TheVariants as states
use Rattle.restarts.specs.Dump.{write_step}
use Rattle.restarts.specs.Running.{Step, with_steps}

-- steps one after the other
pub steps_append : (h : List Event) (xs ys : List Step) → with_steps h (xs ++ ys) ≡ with_steps (with_steps h xs) ys
steps_append h [] ys = refl
steps_append h (x ∷ xs) ys = steps_append (event (length h) 0 x.0 x.1 ∷ h) xs ys

-- ---- what is kept while a transaction of seat 0 is written

abbrev pub begun : Kept → ℕ → Kept
begun k t = record k { transaction = λ i. cond (t == i) (Some (new_transaction 0)) (k.transaction i) }

abbrev pub written : Kept → ℕ → List ℕ → After → Kept
written k t x a = record k { version = λ y i. cond ((t == i) && bytes_eq x y) (Some a) (k.version y i); committed = λ y i. cond ((t == i) && bytes_eq x y) false (k.committed y i) }

abbrev pub all_written : Kept → ℕ → (List ℕ → After) → List (List ℕ) → Kept
all_written k t after [] = k
all_written k t after (x ∷ xs) = all_written (written k t x (after x)) t after xs

abbrev pub ended : Transaction → Transaction
ended n = record n { state = states.Committed }

abbrev pub committed_at : Kept → ℕ → Kept
committed_at k t = record k {
  committed = λ y i. (t == i) || k.committed y i;
  transaction = λ i. cond (t == i) (option_map ended (k.transaction i)) (k.transaction i);
}

-- ---- its steps

-- nothing is closed or marked, and t is open
pub record IsOpenIn (k : Kept) (t : ℕ) : Type 0 where
  pub closed : k.closed ≡ 0
  pub some : 0 < t
  pub marks : (x : List ℕ) (n : ℕ) → k.marked x n ≡ false
  pub open' : k.transaction t ≡ Some (new_transaction 0)

pub begin_now : (k : Kept) (h : List Event) (t n : ℕ) → StandsFor k h → k.closed ≡ 0 → 0 < t → t ≤ MAX → k.transaction t ≡ None → StandsFor (begun k t) (event n 0 (Begin t) Started ∷ h)
begin_now k h t n stands zeroth some high none = step_stands k (begun k t) h n 0 (Begin t) Started stands (grind (arith, common_steps))

-- past the tests of its commands
not_refused : (k : Kept) (t : ℕ) → IsOpenIn k t → refusal k 0 t ≡ None
not_refused k t here = let above : nat_le t k.closed ≡ false = grind (arith, nat_tests, here.closed, here.some) in rw (above, here.open') refl

pub write_now : (k : Kept) (h : List Event) (t n : ℕ) (x : List ℕ) (a : After) → StandsFor k h → IsOpenIn k t → StandsFor (written k t x a) (event n 0 (write_step t x a).0 (write_step t x a).1 ∷ h)
write_now k h t n x None stands here = step_stands k (written k t x None) h n 0 (Del t x) Written stands (grind (arith, common_steps))
write_now k h t n x (Some v) stands here = step_stands k (written k t x (Some v)) h n 0 (Put t x v) Written stands (grind (arith, common_steps))

pub writes_now : (k : Kept) (h : List Event) (t : ℕ) (after : List ℕ → After) (xs : List (List ℕ)) → StandsFor k h → IsOpenIn k t
    → StandsFor (all_written k t after xs) (with_steps h (map (λ x. write_step t x (after x)) xs)) × IsOpenIn (all_written k t after xs) t
writes_now k h t after [] stands here = (stands, here)
writes_now k h t after (x ∷ xs) stands here =
    writes_now (written k t x (after x)) (event (length h) 0 (write_step t x (after x)).0 (write_step t x (after x)).1 ∷ h) t after xs
    (write_now k h t (length h) x (after x) stands here) (record { closed = here.closed; some = here.some; marks = here.marks; open' = here.open' })

pub commit_now : (k : Kept) (h : List Event) (t n : ℕ) (keys : List (List ℕ)) → StandsFor k h → IsOpenIn k t → AreThose (λ x. is_some (k.version x t)) keys → StandsFor (committed_at k t) (event n 0 (Commit t) (Committed (length keys)) ∷ h)
commit_now k h t n keys stands here those = step_stands k (committed_at k t) h n 0 (Commit t) (Committed (length keys)) stands (inl (record {
  right = (length keys, λ _. (keys, those, refl), (rw (not_refused k t here) refl));
  change = record { version = λ y i. refl; committed = λ y i b e. refl; transaction = λ i. refl; rest = refl };
}))

-- ---- and what they leave

-- all else stays
pub written_is : (k : Kept) (t : ℕ) (after : List ℕ → After) (xs : List (List ℕ))
    → all_written k t after xs ≡ record k { version = (all_written k t after xs).version; committed = (all_written k t after xs).committed }
written_is k t after [] = refl
written_is k t after (x ∷ xs) = written_is (written k t x (after x)) t after xs

-- each key has what was written
pub written_version : (k : Kept) (t : ℕ) (after : List ℕ → After) (xs : List (List ℕ)) (y : List ℕ) (i : ℕ) → (all_written k t after xs).version y i ≡ cond ((t == i) && has y xs) (Some (after y)) (k.version y i)
written_version k t after [] y i = by_test (t == i) (λ is. rw is refl) (λ isnt. rw isnt refl)
written_version k t after (x ∷ xs) y i = written_version (written k t x (after x)) t after xs y i ∙ grind (arith, common_steps, same_key x y)

-- none of them is committed yet
pub written_committed : (k : Kept) (t : ℕ) (after : List ℕ → After) (xs : List (List ℕ)) (y : List ℕ) (i : ℕ) → (all_written k t after xs).committed y i ≡ cond ((t == i) && has y xs) false (k.committed y i)
written_committed k t after [] y i = by_test (t == i) (λ is. rw is refl) (λ isnt. rw isnt refl)
written_committed k t after (x ∷ xs) y i = written_committed (written k t x (after x)) t after xs y i ∙ grind (arith, common_steps)

-- where t had no version, those at the keys are all that it has
pub written_are : (k : Kept) (t : ℕ) (after : List ℕ → After) (xs : List (List ℕ)) → ((y : List ℕ) → k.version y t ≡ None) → RisingKeys xs → AreThose (λ y. is_some ((all_written k t after xs).version y t)) xs
written_are k t after xs none rising = record {
  distinct = rising_distinct xs rising;
  each = λ y.
      let e : is_some ((all_written k t after xs).version y t) ≡ has y xs = grind (arith, common_steps, nat_tests, written_version k t after xs y t, none y) in
      let i = has_in y xs in (λ h. e ∙ i.0 (has_is y xs h), λ is. in_has y xs (i.1 (sym e ∙ is)));
}
