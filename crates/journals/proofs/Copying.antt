-- What the lines of a copy leave, and that it is what is left.
use Rattle.std.proofs.Common.{◌≡◌, ℕ, zero, suc, ◌<◌, ◌≤◌, ◌==◌, true, false, List, [], ◌∷◌, ◌++◌, map, None, refl, sym, ◌∙◌, subst, arith}
use Rattle.std.specs.Prelude.{max}
use Rattle.restarts.proofs.Common.{AllAllowed, Begins, Close, Cmd, Collect, Collects, Effect, MAX, by_test, closed_of, committed_version_of, common_steps, effect_of, eqb-true, horizon_low, horizon_of, is_committed, left_version_of, nat_tests, newest_same}
use Rattle.restarts.specs.Dump.{left_keys, transaction_steps}
use Rattle.restarts.specs.Running.{Step}
use Rattle.restarts.proofs.Alike.{committed_begun}
use Rattle.restarts.proofs.Rebuilding.{left_of_key, none_at_zero, none_left}
use Rattle.spans.proofs.Horizon.{horizon_grows}
use Rattle.journals.specs.Batches.{BeginsWith, Noted, did}
use Rattle.journals.specs.Copies.{Copy, IsCopied, copy_lines, pieces}
use Rattle.journals.proofs.Left.{all_left, left_like}
use Rattle.journals.proofs.Parting.{closed_begins}
use Rattle.journals.proofs.Reading.{closed_same}
use Rattle.journals.proofs.Recovering.{IsGiven}
use Rattle.journals.proofs.Replaying.{Given, IsBelow, IsLeft, IsQuiet, IsReplay, closes_quiet, collection_ran, committed_now, committed_to, made_version, none_quiet, other_version, transaction_block, transaction_quiet, wrote_same}
use Rattle.journals.proofs.Running.{AreRight, ran, ran_append, right_append}

-- ---- a longer history

all_begins : (ns old : List Noted) → BeginsWith ns old → AllAllowed (did ns) → AllAllowed (did old)
all_begins ns old b all = part b.0 (subst (λ ws. AllAllowed (did ws)) b.1 all)
  where
    part : (later : List Noted) → AllAllowed (did (later ++ old)) → AllAllowed (did old)
    part [] all = all
    part (n ∷ later) all = part later all.1

closed_later : (ns old : List Noted) → BeginsWith ns old → AllAllowed (did ns) → closed_of (did old) ≤ closed_of (did ns)
closed_later ns old b all = subst (λ ws. closed_of (did old) ≤ closed_of (did ws)) (sym b.1) (closed_begins b.0 old (subst (λ ws. AllAllowed (did ws)) b.1 all))

horizon_later : (ns old : List Noted) → BeginsWith ns old → AllAllowed (did ns) → horizon_of (did old) ≤ horizon_of (did ns)
horizon_later ns old b all = subst (λ ws. horizon_of (did old) ≤ horizon_of (did ws)) (sym b.1) (part b.0 (subst (λ ws. AllAllowed (did ws)) b.1 all))
  where
    part : (later : List Noted) → AllAllowed (did (later ++ old)) → horizon_of (did old) ≤ horizon_of (did (later ++ old))
    part [] all = omega arith
    part (n ∷ later) all = omega (arith, horizon_grows (did (later ++ old)) (effect_of n.event) all.0, part later all.1)

-- ---- the pieces

-- what the pieces through n leave
record IsCopyOf (taken : ℕ → List Noted) (n : ℕ) (q : List Effect) : Type 0 where
  quiet : IsQuiet q
  horizon : horizon_of q ≡ 0
  closed : closed_of q ≡ 0
  committed : (t : ℕ) → is_committed q t ≡ true → t ≤ n
  versions : (x : List ℕ) (t : ℕ) → t ≤ n → committed_version_of q x t ≡ left_version_of (did (taken t)) x t

record IsPiece (taken : ℕ → List Noted) (n : ℕ) (q : List Effect) (lines : List Cmd) : Type 0 where
  right : (from b : ℕ) → AreRight from b q lines
  copied : IsCopyOf taken n (ran q lines)

uncommitted_above : (taken : ℕ → List Noted) (n : ℕ) (q : List Effect) → IsCopyOf taken n q → (t : ℕ) → n < t → is_committed q t ≡ false
uncommitted_above taken n q is t above = by_test (is_committed q t) (λ done. absurd (omega (arith, above, is.committed t done))) (λ isnt. isnt)

piece : (taken : ℕ → List Noted) (n : ℕ) (q : List Effect) → IsCopyOf taken n q → suc n ≤ MAX → (keys : List (List ℕ)) → left_keys (did (taken (suc n))) (suc n) ≡ keys
    → IsPiece taken (suc n) q (map (λ (s : Step). s.0) (transaction_steps (did (taken (suc n))) (suc n) keys))
piece taken n q is low [] keys = record {
  right = λ from b. tt;
  copied = record {
    quiet = is.quiet;
    horizon = is.horizon;
    closed = is.closed;
    committed = λ t done. omega (arith, is.committed t done);
    versions = λ x t below. by_test (suc n == t)
        (λ same.
        let new : is_committed q (suc n) ≡ false = uncommitted_above taken n q is (suc n) (omega arith) in
        let none : left_version_of (did (taken (suc n))) x (suc n) ≡ None = left_of_key (did (taken (suc n))) x (suc n) ∙ rw keys refl in
        let here : committed_version_of q x (suc n) ≡ left_version_of (did (taken (suc n))) x (suc n) = rw new (sym none) in
        subst (λ i. committed_version_of q x i ≡ left_version_of (did (taken i)) x i) (eqb-true (suc n) t same) here)
        (λ other. is.versions x t (grind (arith, nat_tests, below, other)));
  };
}
piece taken n q is low (y ∷ ys) keys =
    let p : List Effect = did (taken (suc n)) in
    let t : ℕ = suc n in
    let new : is_committed q t ≡ false = uncommitted_above taken n q is t (omega arith) in
    let block = transaction_block p q t is.quiet (omega (arith, is.closed)) low new y ys in
    let s = wrote_same (Begins t 0 ∷ q) p t (y ∷ ys) in
    let here : (x : List ℕ) → committed_version_of (committed_to q p t (y ∷ ys)) x t ≡ left_version_of p x t = λ x. made_version p q t (y ∷ ys) is.quiet new x ∙ sym (left_of_key p x t ∙ rw keys refl) in record {
      right = block.right;
      copied = subst (IsCopyOf taken t) (sym block.ran') (record {
        quiet = transaction_quiet p q t (y ∷ ys) is.quiet;
        horizon = s.horizon ∙ is.horizon;
        closed = s.closed ∙ is.closed;
        committed = λ i done. by_test (t == i) (λ same. grind (arith, nat_tests, same)) (λ other. grind (arith, common_steps, committed_now p q t (y ∷ ys) i, is.committed i, other, done));
        versions = λ x i below. by_test (t == i)
            (λ same. subst (λ i. committed_version_of (committed_to q p t (y ∷ ys)) x i ≡ left_version_of (did (taken i)) x i) (eqb-true t i same) (here x))
            (λ other. other_version p q t (y ∷ ys) x i other ∙ is.versions x i (grind (arith, nat_tests, below, other)));
      });
    }

all_pieces : (taken : ℕ → List Noted) → ((t : ℕ) → AllAllowed (did (taken t))) → (n : ℕ) → n ≤ MAX → IsPiece taken n [] (pieces taken n)
all_pieces taken all zero low = record {
  right = λ from b. tt;
  copied = record {
    quiet = none_quiet;
    horizon = refl;
    closed = refl;
    committed = λ t done. cc;
    versions = λ x t below.
        let e : 0 ≡ t = omega (arith, below) in
        subst (λ i. committed_version_of [] x i ≡ left_version_of (did (taken i)) x i) e (sym (none_left (did (taken 0)) x 0 (none_at_zero (did (taken 0)) (all 0))));
  };
}
all_pieces taken all (suc n) low =
    let before = all_pieces taken all n (omega (arith, low)) in
    let lines : List Cmd = pieces taken n in
    let more : List Cmd = map (λ (s : Step). s.0) (transaction_steps (did (taken (suc n))) (suc n) (left_keys (did (taken (suc n))) (suc n))) in
    let now = piece taken n (ran [] lines) before.copied low (left_keys (did (taken (suc n))) (suc n)) refl in record {
      right = λ from b. right_append from b [] lines more (before.right from b) (now.right from b);
      copied = subst (IsCopyOf taken (suc n)) (sym (ran_append [] lines more)) now.copied;
    }

-- ---- all of it

abbrev pub given_of : Copy → Given
given_of c = record { from = suc c.to; horizon = c.horizon; version = λ x t. left_version_of (did (c.taken t)) x t }

pub copied_left : (ns : List Noted) (c : Copy) (k m : ℕ) → IsCopied ns c k → AllAllowed (did ns) → IsBelow (did ns) m → IsLeft (given_of c) (did c.first) [] (copy_lines c)
copied_left ns c k m is all below =
    let lines : List Cmd = pieces c.taken c.to in
    let end : List Cmd = Close c.to ∷ Collect c.horizon ∷ [] in
    let old : List Noted = c.taken c.to in
    let all' = all_begins ns old (is.taken c.to) all in
    let low : c.to ≤ MAX = omega (arith, is.closed c.to (omega arith), closed_later ns old (is.taken c.to) all, below.closed, below.in_range) in
    let each = all_pieces c.taken (λ t. all_begins ns (c.taken t) (is.taken t) all) c.to low in
    let q : List Effect = ran [] lines in
    let closes = collection_ran q c.to c.horizon each.copied.quiet is.low low in
    let under : horizon_of (did c.first) ≤ horizon_of (did old) = horizon_later old c.first (is.behind c.to) all' in
    let still : horizon_of (did old) ≡ c.horizon = is.horizon c.to in record {
      right = right_append (suc c.to) c.horizon [] lines end (each.right (suc c.to) c.horizon) (closes.right (suc c.to) c.horizon
          (let e : max (closed_of q) c.to ≡ c.to = omega (arith, each.copied.closed) in grind (arith, nat_tests, common_steps, e))
          (let e : max (horizon_of q) c.horizon ≡ c.horizon = omega (arith, each.copied.horizon) in grind (arith, nat_tests, common_steps, e)));
      replay = subst (IsReplay (given_of c) (did c.first)) (sym (ran_append [] lines end ∙ closes.ran')) (record {
        quiet = closes_quiet q (max (closed_of q) c.to) (max (horizon_of q) c.horizon) each.copied.quiet;
        horizon = omega (arith, each.copied.horizon, under, still);
        reached = omega arith;
        closed = omega (arith, each.copied.closed);
        committed = λ t high done. absurd (omega (arith, high, each.copied.committed t done));
        versions = λ x t high.
            let none : is_committed q t ≡ false = uncommitted_above c.taken c.to q each.copied t (omega (arith, high)) in
            let none' : is_committed (did c.first) t ≡ false = by_test (is_committed (did c.first) t)
            (λ done. absurd (omega (arith, high, is.begun t (committed_begun (did c.first) (all_begins old c.first (is.behind c.to) all') t done))))
            (λ isnt. isnt) in
            rw (none, none') refl;
        copied = λ x t under. each.copied.versions x t (omega (arith, under));
      });
    }

-- it is what is left of each longer history
pub copied_given : (ns : List Noted) (c : Copy) (k : ℕ) → IsCopied ns c k → (part : List Noted) → AllAllowed (did part) → ((t : ℕ) → BeginsWith part (c.taken t)) → IsGiven (given_of c) (did part)
copied_given ns c k is part all begins = record {
  horizon = let e = is.horizon c.to in omega (arith, e, horizon_later part (c.taken c.to) (begins c.to) all);
  reached = omega (arith, is.closed c.to (omega arith), closed_later part (c.taken c.to) (begins c.to) all);
  left = λ x t under. each x t (omega (arith, under));
  all = λ x t high. sym (all_left (Collects c.horizon ∷ did part) x t (omega (arith, high, is.low)));
}
  where
    each : (x : List ℕ) (t : ℕ) → t ≤ c.to → left_version_of (did (c.taken t)) x t ≡ left_version_of (Collects c.horizon ∷ did part) x t
    each x t low =
        let old : List Noted = c.taken t in
        let b = begins t in
        let same : (i : ℕ) → i ≤ closed_of (did old) → committed_version_of (did old) x i ≡ committed_version_of (did part) x i =
        λ i under. sym (subst (λ ws. committed_version_of (did ws) x i ≡ committed_version_of (did old) x i) (sym b.1) (closed_same b.0 old (subst (λ ws. AllAllowed (did ws)) b.1 all) x i under)) in
        let h : horizon_of (did old) ≡ c.horizon = is.horizon t in
        let reach : horizon_of (did old) ≤ closed_of (did old) = horizon_low (did old) (all_begins part old b all) in
        left_like (did old) (Collects c.horizon ∷ did part) x t h (same t (is.closed t low))
        (newest_same (committed_version_of (did old) x) (committed_version_of (did part) x) c.horizon (λ i under. same i (omega (arith, under, h, reach))))
