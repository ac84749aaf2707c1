-- The dump's run is legal, and what is kept of it: the versions that are left, and nothing else.
use Rattle.restarts.proofs.Common.{After, AllAllowed, Begin, Close, Closed, Collect, Collected, Commit, Commits, Committed, Effect, Event, IsAlike, Kept, MAX, RisingKeys, StandsFor, Started, Transaction, VersionName, alike_stands, and_parts, both_ways, by_test, closed_of, committed_version_of, common_steps, eqb-true, event, filter_rises, has, has_filtered, has_written, horizon_low, horizon_of, is_committed, is_dead, is_dead_in, is_delete, is_dropped, is_open, left_version_of, nat_tests, new_transaction, newest, newest_fewer, none_of, or_parts, step_stands, version_name, write_of, write_set, write_set_rises, written_value}
use Rattle.std.proofs.Common.{◌≡◌, ℕ, zero, suc, ◌≤◌, ◌==◌, Bool, true, false, cond, ◌&&◌, ◌||◌, List, [], ◌∷◌, length, Option, Some, None, refl, sym, ◌∙◌, ap, subst, inl, arith}
use Rattle.std.specs.Prelude.{filter, is_some, nat_le, nat_lt, option_map, max, min}
use Rattle.spans.specs.declared.state.State.TheVariants as states
use Rattle.kept.proofs.AfterBegins.{new_is_kept}
use Rattle.restarts.specs.Dump.{dump, end_steps, left_keys, transaction_steps, versions_through, write_steps}
use Rattle.restarts.specs.Running.{with_steps}
use Rattle.restarts.proofs.Blocks.{all_written, begin_now, begun, commit_now, committed_at, ended, steps_append, writes_now, written_are, written_committed, written_is, written_version}

-- ---- what is kept of the dump through a timestamp

abbrev pub again_with : List (List ℕ) → Option Transaction
again_with [] = None
again_with (x ∷ keys) = Some (record { seat = 0; state = states.Committed })

abbrev pub again : List Effect → ℕ → Option Transaction
again p t = again_with (left_keys p t)

abbrev pub through : List Effect → ℕ → Kept
through p n = record {
  closed = 0;
  horizon = 0;
  version = λ x t. cond (nat_le t n) (left_version_of p x t) None;
  committed = λ x t. true;
  marked = λ x t. false;
  transaction = λ t. cond (nat_le t n) (again p t) None;
  protections = [];
  protections_made = 0;
  feed = λ f. None;
  feeds_opened = 0;
}

-- ---- and of all of it

abbrev pub left_kept : List Effect → ℕ → Kept
left_kept p m = record {
  closed = m;
  horizon = horizon_of p;
  version = left_version_of p;
  committed = λ x t. true;
  marked = λ x t. false;
  transaction = λ t. None;
  protections = [];
  protections_made = 0;
  feed = λ f. None;
  feeds_opened = 0;
}

-- ---- the versions that are left

-- 0 is nobody's timestamp
pub none_at_zero : (p : List Effect) → AllAllowed p → is_committed p 0 ≡ false
none_at_zero [] all = refl
none_at_zero (Commits k ∷ p) all = let other : (k == 0) ≡ false = grind (arith, nat_tests, all.0.above) in rw other (none_at_zero p all.1)
none_at_zero (_ ∷ p) all = none_at_zero p all.1

-- of one that didn't commit none is left
pub none_left : (p : List Effect) (x : List ℕ) (t : ℕ) → is_committed p t ≡ false → left_version_of p x t ≡ None
none_left p x t open' = rw open' refl

-- what isn't committed isn't left
pub uncommitted_gone : (p : List Effect) (x : List ℕ) (t : ℕ) → committed_version_of p x t ≡ None → left_version_of p x t ≡ None
uncommitted_gone p x t none = grind (arith, common_steps, none)

-- what is left was written
left_wrote : (p : List Effect) (x : List ℕ) (t : ℕ) → is_some (left_version_of p x t) ≡ true → is_some (write_of p t x) ≡ true
left_wrote p x t is = grind (arith, common_steps, is)

-- and as it is left
pub left_value : (p : List Effect) (x : List ℕ) (t : ℕ) → is_some (left_version_of p x t) ≡ true → left_version_of p x t ≡ Some (written_value (write_of p t x))
left_value p x t is = grind (arith, common_steps, is)

-- a key is one of those that are left exactly where its version is
pub has_left : (p : List Effect) (x : List ℕ) (t : ℕ) → has x (left_keys p t) ≡ is_some (left_version_of p x t)
has_left p x t = grind (arith, common_steps, has_filtered, has_written, by_test, left_wrote)

-- so is each version that is left
pub left_of_key : (p : List Effect) (x : List ℕ) (t : ℕ) → left_version_of p x t ≡ cond (has x (left_keys p t)) (Some (written_value (write_of p t x))) None
left_of_key p x t = grind (arith, common_steps, by_test, has_left, left_value, none_of)

-- of one that didn't commit no key is left
pub none_kept : (p : List Effect) (t : ℕ) → is_committed p t ≡ false → (xs : List (List ℕ)) → filter (λ x. is_some (left_version_of p x t)) xs ≡ []
none_kept p t open' [] = refl
none_kept p t open' (x ∷ xs) = grind (arith, common_steps, none_left p x t open', none_kept p t open' xs)

pub none_again : (p : List Effect) (t : ℕ) → is_committed p t ≡ false → again p t ≡ None
none_again p t open' = ap again_with (none_kept p t open' (write_set p t))

-- ---- one more timestamp

-- at a timestamp of which nothing is left nothing changes
same_through : (p : List Effect) (t : ℕ) → left_keys p (suc t) ≡ [] → IsAlike (through p t) (through p (suc t))
same_through p t empty = grind (arith, common_steps, by_test, eqb-true, left_of_key)

-- what the transaction's steps leave
abbrev after_block : List Effect → ℕ → List (List ℕ) → Kept
after_block p t keys = committed_at (all_written (begun (through p t) (suc t)) (suc t) (λ x. written_value (write_of p (suc t) x)) keys) (suc t)

block_alike : (p : List Effect) (t : ℕ) (x : List ℕ) (xs : List (List ℕ)) → left_keys p (suc t) ≡ x ∷ xs
    → IsAlike (after_block p t (x ∷ xs)) (through p (suc t))
block_alike p t x xs keys =
    let k : Kept = begun (through p t) (suc t) in
    let after : List ℕ → After = λ x. written_value (write_of p (suc t) x) in
    let is = written_is k (suc t) after (x ∷ xs) in record {
      closed = ap (λ (k : Kept). 0) is ∙ sym (ap (λ (k : Kept). k.closed) is);
      horizon = sym (ap (λ (k : Kept). k.horizon) is);
      version = λ y i. sym (written_version k (suc t) after (x ∷ xs) y i ∙ ap (λ ks. cond ((suc t == i) && has y ks) (Some (after y)) (cond (nat_le i t) (left_version_of p y i) None)) (sym keys) ∙ by_test (suc t == i)
          (λ same. grind (arith, nat_tests, common_steps, eqb-true (suc t) i same, left_of_key p y (suc t)))
          (λ other. let alike : nat_le i (suc t) ≡ nat_le i t = grind (arith, nat_tests) in rw (other, alike) refl));
      committed = λ y i b there. grind (arith, common_steps, written_committed k (suc t) after (x ∷ xs) y i);
      marked = λ y n. sym (ap (λ (k : Kept). k.marked y n) is);
      transaction = λ i. sym (ap (λ (k : Kept). cond (suc t == i) (option_map ended (k.transaction i)) (k.transaction i)) is ∙ by_test (suc t == i)
          (λ same. grind (arith, nat_tests, common_steps, eqb-true (suc t) i same, ap again_with keys))
          (λ other. let alike : nat_le i (suc t) ≡ nat_le i t = grind (arith, nat_tests) in rw (other, alike) refl));
      protections = sym (ap (λ (k : Kept). k.protections) is);
      protections_made = sym (ap (λ (k : Kept). k.protections_made) is);
      feed = λ f. sym (ap (λ (k : Kept). k.feed f) is);
      feeds_opened = sym (ap (λ (k : Kept). k.feeds_opened) is);
    }

-- the transaction of one more timestamp
block_stands : (p : List Effect) (t : ℕ) (h : List Event) → suc t ≤ MAX → StandsFor (through p t) h → (keys : List (List ℕ)) → left_keys p (suc t) ≡ keys → StandsFor (through p (suc t)) (with_steps h (transaction_steps p (suc t) keys))
block_stands p t h low stands [] keys = alike_stands (through p t) (through p (suc t)) h stands (same_through p t keys)
block_stands p t h low stands (x ∷ xs) keys =
    let after : List ℕ → After = λ x. written_value (write_of p (suc t) x) in
    let past : nat_le (suc t) t ≡ false = grind (arith, nat_tests) in
    let same : (suc t == suc t) ≡ true = grind (arith, nat_tests) in
    let k : Kept = begun (through p t) (suc t) in
    let h' : List Event = event (length h) 0 (Begin (suc t)) Started ∷ h in
    let first : StandsFor k h' = begin_now (through p t) h (suc t) (length h) stands refl (omega arith) low (rw past refl) in
    let wrote = writes_now k h' (suc t) after (x ∷ xs) first (record { closed = refl; some = omega arith; marks = λ x n. refl; open' = rw same refl }) in
    let rising : RisingKeys (x ∷ xs) = subst RisingKeys keys (filter_rises (λ y. is_some (left_version_of p y (suc t))) (write_set p (suc t)) (write_set_rises p (suc t))) in
    let h'' : List Event = with_steps h' (write_steps p (suc t) (x ∷ xs)) in
    let last = commit_now (all_written k (suc t) after (x ∷ xs)) h'' (suc t) (length h'') (x ∷ xs) wrote.0 wrote.1 (written_are k (suc t) after (x ∷ xs) (λ y. rw past refl) rising) in
    subst (StandsFor (through p (suc t))) (sym (steps_append h' (write_steps p (suc t) (x ∷ xs)) ((Commit (suc t), Committed (length (x ∷ xs))) ∷ [])))
    (alike_stands (after_block p t (x ∷ xs)) (through p (suc t)) _ last (block_alike p t x xs keys))

-- all of them
through_stands : (p : List Effect) → AllAllowed p → (n : ℕ) → n ≤ MAX → StandsFor (through p n) (with_steps [] (versions_through p n))
through_stands p all zero low = grind (arith, common_steps, alike_stands, new_is_kept, by_test, eqb-true, none_left, none_at_zero, none_again)
through_stands p all (suc t) low = grind (arith, common_steps, steps_append, block_stands, through_stands p all t)

-- ---- the end

-- every version that is left lies at or below m
pub record AllBelow (p : List Effect) (m : ℕ) : Type 0 where
  pub in_range : m ≤ MAX
  pub closed : closed_of p ≤ m
  pub committed : (t : ℕ) → is_committed p t ≡ true → t ≤ m

-- nothing of the dump is undecided
none_open : (p : List Effect) (n t : ℕ) → is_open ((through p n).transaction t) ≡ false
none_open p n t = grind (arith, common_steps)

-- what is kept once it is closed
abbrev closed_through : List Effect → ℕ → Kept
closed_through p m = record (through p m) { closed = m; transaction = λ i. cond (nat_lt m i) ((through p m).transaction i) None }

close_now : (p : List Effect) (m n : ℕ) (h : List Event) → m ≤ MAX → StandsFor (through p m) h → StandsFor (closed_through p m) (event n 0 (Close m) (Closed m 0) ∷ h)
close_now p m n h low stands = step_stands (through p m) (closed_through p m) h n 0 (Close m) (Closed m 0) stands (inl (record {
  right = (None, λ _ t. none_open p m t, (let in' : nat_lt MAX m ≡ false = grind (arith, nat_tests) in let top : max 0 m ≡ m = omega arith in rw (in', top) refl));
  change = record { marked = λ y j. grind (arith, common_steps); transaction = λ i. refl; rest = refl };
}))

closed_alike : (p : List Effect) (m : ℕ) → AllBelow p m → IsAlike (closed_through p m) (record (left_kept p m) { horizon = 0 })
closed_alike p m below = grind (arith, common_steps)

-- what is left isn't dead by the same horizon
left_live : (p : List Effect) (m : ℕ) (x : List ℕ) (t : ℕ) (a : After) → left_version_of p x t ≡ Some a → is_dead_in (record (left_kept p m) { horizon = 0 }) (horizon_of p) x t ≡ false
left_live p m x t a is =
    let fewer = newest_fewer (committed_version_of p x) (left_version_of p x) (horizon_of p) (λ j _ none. uncommitted_gone p x j none) in
    grind (arith, common_steps, nat_tests, none_left p x t, is, fewer)

collect_now : (p : List Effect) (m n : ℕ) (h : List Event) → AllAllowed p → AllBelow p m → StandsFor (record (left_kept p m) { horizon = 0 }) h
    → StandsFor (left_kept p m) (event n 0 (Collect (horizon_of p)) (Collected (horizon_of p) 0) ∷ h)
collect_now p m n h all below stands =
    let k : Kept = record (left_kept p m) { horizon = 0 } in
    let low : horizon_of p ≤ m = omega (arith, horizon_low p all, below.closed) in
    let reach : max 0 (min (horizon_of p) m) ≡ horizon_of p = omega (arith, low) in
    step_stands k (left_kept p m) h n 0 (Collect (horizon_of p)) (Collected (horizon_of p) 0) stands (inl (record {
      right = (
        None,
        None,
        [],
        λ _. rw reach (record { least_protection = λ n. refl; lowest_floor = λ f. refl; drops = record { distinct = tt; each = λ v. (λ i. absurd i, λ is. none_dropped v is) } }),
        (let in' : nat_lt MAX (horizon_of p) ≡ false = grind (arith, nat_tests, below.in_range) in rw (in', reach) refl),
      );
      change = record { version = λ y i. each y i (left_version_of p y i) refl; committed = λ y i b e. refl; rest = refl };
    }))
  where
    each : (y : List ℕ) (i : ℕ) (o : Option After) → left_version_of p y i ≡ o → left_version_of p y i ≡ cond (is_dead_in (record (left_kept p m) { horizon = 0 }) (horizon_of p) y i) None (left_version_of p y i)
    each y i None e = grind (arith, common_steps, e)
    each y i (Some a) e = rw (left_live p m y i a e) refl

    none_dropped : (v : VersionName) → is_dropped (record (left_kept p m) { horizon = 0 }) (horizon_of p) v ≡ true → ⊥
    none_dropped v is = by_version (left_version_of p v.key v.ts) refl
      where
        by_version : (o : Option After) → left_version_of p v.key v.ts ≡ o → ⊥
        by_version None e = grind (arith, common_steps, e, is)
        by_version (Some a) e = both_ways _ (left_live p m v.key v.ts a e) (and_parts _ _ is).1

-- the dump's run is legal, and of it the versions are kept that are left
pub rebuilt_stands : (p : List Effect) (m : ℕ) → AllAllowed p → AllBelow p m → StandsFor (left_kept p m) (with_steps [] (dump p m))
rebuilt_stands p m all below =
    let h : List Event = with_steps [] (versions_through p m) in
    let closed : StandsFor (closed_through p m) (event (length h) 0 (Close m) (Closed m 0) ∷ h) = close_now p m (length h) h below.in_range (through_stands p all m below.in_range) in
    subst (StandsFor (left_kept p m)) (sym (steps_append [] (versions_through p m) (end_steps p m)))
    (collect_now p m (suc (length h)) (event (length h) 0 (Close m) (Closed m 0) ∷ h) all below (alike_stands (closed_through p m) (record (left_kept p m) { horizon = 0 }) _ closed (closed_alike p m below)))
