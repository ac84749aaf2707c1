-- What was told beside what is lost is the answer beside what survives.
use Rattle.std.proofs.Common.{◌≡◌, ℕ, ◌==◌, Bool, true, false, not, List, [], ◌∷◌, ◌++◌, map, Option, Some, None, refl, sym, ◌∙◌, ap, subst, arith}
use Rattle.std.specs.Prelude.{filter, max, nat_lt}
use Rattle.restarts.proofs.Common.{Abort, AllAllowed, Begin, BelowHorizon, Blocked, Cancel, Close, CloseHard, Cmd, Collect, Collected, Commit, Del, Effect, Found, Get, Kind, MAX, Messages, Open, OpenEvery, OpenInitial, OpenInitialEvery, Poll, Protect, Put, ReadAt, Refused, Release, Reply, Rows, Scan, ScanAt, Span, Stats, TooLate, Version, Written, answer_of, begun_of, both_ways, by_test, closed_of, committed_version_of, common_steps, feed_of, first_refusal_or, horizon_of, in_span, kind_of, nat_tests, newest_same, not_both, pairs_of, too_late, undecided_timestamps, version_of, version_wrote, written_keys}
use Rattle.spans.specs.Answer.{is_gap, opening_answer, transaction_tests, with_feed}
use Rattle.spans.specs.declared.calls.replies.Refusal.{Refusal}
use Rattle.spans.specs.Feeds.{Feed, is_cancelled, next_messages}
use Rattle.spans.specs.Transactions.{is_undecided}
use Rattle.spans.specs.Versions.{committed_value, is_blocked, visible}
use Rattle.spans.proofs.Steps.{newest_is, newest_only}
use Rattle.spans.specs.declared.calls.replies.Reply.TheVariants as replies
use Rattle.journals.proofs.Surviving.{IsSurviving, same_visible}

-- what may be told: what rests on no lost record
abbrev pub IsTold : (List ℕ → Bool) → Cmd → Reply → Type 0
IsTold safe (Get t x) (Found v) = safe x ≡ true
IsTold safe (ReadAt t x) (Found v) = safe x ≡ true
IsTold safe (Scan t span) (Rows rows) = (x : List ℕ) → safe x ≡ true
IsTold safe (Scan t span) (Refused (Blocked n)) = (x : List ℕ) → safe x ≡ true
IsTold safe (ScanAt t span) (Rows rows) = (x : List ℕ) → safe x ≡ true
IsTold safe (Collect to) (Collected n m) = ⊥
IsTold safe (Poll f max) (Messages ms) = ⊥
IsTold safe cmd (replies.Stats a b c d e) = ⊥
IsTold safe cmd (Refused TooLate) = ⊥
IsTold safe cmd (Refused (BelowHorizon n)) = ⊥
IsTold safe cmd reply = Unit {0}

-- behind the same tests
past : (P : Reply → Type 0) (tests rest : List (Bool × Refusal)) (rest' : List (Bool × Refusal)) (reply reply' : Reply)
    → (P (first_refusal_or rest reply) → first_refusal_or rest' reply' ≡ first_refusal_or rest reply)
    → P (first_refusal_or (tests ++ rest) reply) → first_refusal_or (tests ++ rest') reply' ≡ first_refusal_or (tests ++ rest) reply
past P [] rest rest' reply reply' same told = same told
past P (test ∷ tests) rest rest' reply reply' same told = by_test test.0
    (λ is. rw is refl)
    (λ isnt. rw isnt (past P tests rest rest' reply reply' same (rw isnt at told)))

tests_same : (safe : List ℕ → Bool) (p g : List Effect) (seat t : ℕ) → IsSurviving safe p g → transaction_tests g seat t ≡ transaction_tests p seat t
tests_same safe p g seat t s = rw (s.closed, s.owner t, s.ended t) refl

behind : (safe : List ℕ → Bool) (p g : List Effect) (seat t : ℕ) → IsSurviving safe p g → (P : Reply → Type 0) (rest rest' : List (Bool × Refusal)) (reply reply' : Reply)
    → (P (first_refusal_or rest reply) → first_refusal_or rest' reply' ≡ first_refusal_or rest reply)
    → P (first_refusal_or (transaction_tests p seat t ++ rest) reply) → first_refusal_or (transaction_tests g seat t ++ rest') reply' ≡ first_refusal_or (transaction_tests p seat t ++ rest) reply
behind safe p g seat t s P rest rest' reply reply' same told =
    subst (λ ts. first_refusal_or (ts ++ rest') reply' ≡ first_refusal_or (transaction_tests p seat t ++ rest) reply) (sym (tests_same safe p g seat t s)) (past P (transaction_tests p seat t) rest rest' reply reply' same told)

-- what blocks a read in p blocks it in g
blocked_same : (safe : List ℕ → Bool) (p g : List Effect) → AllAllowed p → AllAllowed g → IsSurviving safe p g → (x : List ℕ) (t : ℕ) → is_blocked p x t ≡ true → visible g x t ≡ visible p x t
blocked_same safe p g all all' s x t blocked =
    let n = newest_is (version_of p x) t in
    let k : ℕ = (visible p x t).ts in
    newest_only (version_of g x) t k (visible p x t).after (record {
      at_most = n.at_most;
      gap = λ i above low. gone i (n.gap i above low);
      has = grind (arith, common_steps, nat_tests, n.has, blocked, s.ended k, s.fewer k, s.write k x, version_wrote p x k);
    })
  where
    gone : (i : ℕ) → version_of p x i ≡ None → version_of g x i ≡ None
    gone i none = grind (arith, common_steps, by_test, none, s.write i x, s.ended i, s.fewer i, not_both p all i)

same_blocked : (safe : List ℕ → Bool) (p g : List Effect) → AllAllowed p → AllAllowed g → IsSurviving safe p g → (x : List ℕ) → safe x ≡ true → (t : ℕ) → is_blocked g x t ≡ is_blocked p x t
same_blocked safe p g all all' s x is t =
    let v = same_visible safe p g all all' s x is t in
    let n = newest_is (version_of p x) t in
    rw v (grind (arith, common_steps, by_test, nat_tests, n.has, version_wrote p x (visible p x t).ts, s.same x (visible p x t).ts is))

get_same : (safe : List ℕ → Bool) (p g : List Effect) → AllAllowed p → AllAllowed g → IsSurviving safe p g → (t : ℕ) (x : List ℕ)
    → IsTold safe (Get t x) (first_refusal_or ((is_blocked p x t, Blocked (visible p x t).ts) ∷ []) (Found (visible p x t).after))
    → first_refusal_or ((is_blocked g x t, Blocked (visible g x t).ts) ∷ []) (Found (visible g x t).after) ≡ first_refusal_or ((is_blocked p x t, Blocked (visible p x t).ts) ∷ []) (Found (visible p x t).after)
get_same safe p g all all' s t x told = by_test (is_blocked p x t)
    (λ is. let v = blocked_same safe p g all all' s x t is in
    let is' : is_blocked g x t ≡ true = rw v (grind (arith, common_steps, is, s.fewer (visible p x t).ts)) in
    rw (is, is', v) refl)
    (λ isnt. let ok : safe x ≡ true = rw isnt at told in rw (same_blocked safe p g all all' s x ok t, isnt, same_visible safe p g all all' s x ok t) refl)

write_same : (safe : List ℕ → Bool) (p g : List Effect) → IsSurviving safe p g → (cmd : Cmd) (t : ℕ) (x : List ℕ) → (IsTold safe cmd (Refused TooLate) → ⊥)
    → IsTold safe cmd (first_refusal_or ((too_late p x t, TooLate) ∷ []) Written) → first_refusal_or ((too_late g x t, TooLate) ∷ []) Written ≡ first_refusal_or ((too_late p x t, TooLate) ∷ []) Written
write_same safe p g s cmd t x never told = by_test (too_late p x t)
    (λ is. absurd (never (rw is at told)))
    (λ isnt. let isnt' : too_late g x t ≡ false = by_test (too_late g x t) (λ is. absurd (both_ways _ isnt (s.late x t is))) (λ no'. no') in rw (isnt, isnt') refl)

filter_same : (f h : ℕ → Bool) → ((t : ℕ) → f t ≡ h t) → (ts : List ℕ) → filter f ts ≡ filter h ts
filter_same f h same [] = refl
filter_same f h same (t ∷ ts) = rw (same t, filter_same f h same ts) refl

undecided_same : (safe : List ℕ → Bool) (p g : List Effect) → IsSurviving safe p g → undecided_timestamps g ≡ undecided_timestamps p
undecided_same safe p g s = filter_same (is_undecided g) (is_undecided p) (λ t. grind (arith, common_steps, by_test, s.owner t, s.ended t)) (begun_of g) ∙ ap (filter (is_undecided p)) s.begun

value_same : (safe : List ℕ → Bool) (p g : List Effect) → IsSurviving safe p g → (x : List ℕ) → safe x ≡ true → (t : ℕ) → committed_value g x t ≡ committed_value p x t
value_same safe p g s x is t = ap (λ (n : Version). n.after) (newest_same (committed_version_of g x) (committed_version_of p x) t (λ i low. grind (arith, common_steps, by_test, s.write i x, s.same x i is, s.fewer i)))

pairs_same : (f h : List ℕ → Option (List ℕ)) → ((x : List ℕ) → f x ≡ h x) → (xs : List (List ℕ)) → pairs_of f xs ≡ pairs_of h xs
pairs_same f h same [] = refl
pairs_same f h same (x ∷ xs) = rw (same x, pairs_same f h same xs) refl

blocks_same : (f h : List ℕ → Bool) (m n : List ℕ → ℕ) → ((x : List ℕ) → f x ≡ h x) → ((x : List ℕ) → m x ≡ n x) → (xs : List (List ℕ)) → map {B = Bool × Refusal} (λ x. (f x, Blocked (m x))) xs ≡ map {B = Bool × Refusal} (λ x. (h x, Blocked (n x))) xs
blocks_same f h m n same same' [] = refl
blocks_same f h m n same same' (x ∷ xs) = rw (same x, same' x, blocks_same f h m n same same' xs) refl

-- a scan that passed the tests was told by all its keys
scan_told : (safe : List ℕ → Bool) (t : ℕ) (span : Span) (f : List ℕ → Bool) (m : List ℕ → ℕ) (rows : List (List ℕ × List ℕ)) (xs : List (List ℕ))
    → IsTold safe (Scan t span) (first_refusal_or (map {B = Bool × Refusal} (λ x. (f x, Blocked (m x))) xs) (Rows rows)) → (x : List ℕ) → safe x ≡ true
scan_told safe t span f m rows [] told = told
scan_told safe t span f m rows (x ∷ xs) told = by_test (f x) (λ is. rw is at told) (λ isnt. scan_told safe t span f m rows xs (rw isnt at told))

opened_same : (safe : List ℕ → Bool) (p g : List Effect) → IsSurviving safe p g → (cmd : Cmd) (kind : Kind) (cursor : ℕ) → ((n : ℕ) → IsTold safe cmd (Refused (BelowHorizon n)) → ⊥)
    → IsTold safe cmd (opening_answer kind p cursor) → opening_answer kind g cursor ≡ opening_answer kind p cursor
opened_same safe p g s cmd kind cursor never told = by_test (nat_lt MAX cursor)
    (λ is. rw is refl)
    (λ low. by_test (not (is_gap kind.gap))
    (λ is. rw (low, is) refl)
    (λ gap. by_test (nat_lt cursor (horizon_of p))
    (λ below. absurd (never (horizon_of p) (rw (low, gap, below) at told)))
    (λ above. let above' : nat_lt cursor (horizon_of g) ≡ false = grind (arith, nat_tests, above, s.horizon) in rw (low, gap, above, above', s.closed, s.opened) refl)))

-- so each such answer is the same
pub told_same : (safe : List ℕ → Bool) (p g : List Effect) → AllAllowed p → AllAllowed g → IsSurviving safe p g → (seat : ℕ) (cmd : Cmd) → IsTold safe cmd (answer_of p seat cmd) → answer_of g seat cmd ≡ answer_of p seat cmd
told_same safe p g all all' s seat (Begin t) told = rw (s.closed, s.owner t) refl
told_same safe p g all all' s seat (Get t x) told = behind safe p g seat t s (IsTold safe (Get t x))
    ((is_blocked p x t, Blocked (visible p x t).ts) ∷ []) ((is_blocked g x t, Blocked (visible g x t).ts) ∷ []) (Found (visible p x t).after) (Found (visible g x t).after)
    (get_same safe p g all all' s t x) told
told_same safe p g all all' s seat (Scan t span) told = behind safe p g seat t s (IsTold safe (Scan t span))
    (map {B = Bool × Refusal} (λ x. (is_blocked p x t, Blocked (visible p x t).ts)) (filter (in_span span) (written_keys p)))
    (map {B = Bool × Refusal} (λ x. (is_blocked g x t, Blocked (visible g x t).ts)) (filter (in_span span) (written_keys g)))
    (Rows (pairs_of (λ x. (visible p x t).after) (filter (in_span span) (written_keys p))))
    (Rows (pairs_of (λ x. (visible g x t).after) (filter (in_span span) (written_keys g))))
    (λ told. let ok = scan_told safe t span (λ x. is_blocked p x t) (λ x. (visible p x t).ts) (pairs_of (λ x. (visible p x t).after) (filter (in_span span) (written_keys p))) (filter (in_span span) (written_keys p)) told in
    rw (
      s.keys,
      blocks_same (λ x. is_blocked g x t) (λ x. is_blocked p x t) (λ x. (visible g x t).ts) (λ x. (visible p x t).ts) (λ x. same_blocked safe p g all all' s x (ok x) t) (λ x. ap (λ (n : Version). n.ts) (same_visible safe p g all all' s x (ok x) t)) (filter (in_span span) (written_keys p)),
      pairs_same (λ x. (visible g x t).after) (λ x. (visible p x t).after) (λ x. ap (λ (n : Version). n.after) (same_visible safe p g all all' s x (ok x) t)) (filter (in_span span) (written_keys p)),
    ) refl)
    told
told_same safe p g all all' s seat (Put t x v) told = behind safe p g seat t s (IsTold safe (Put t x v)) ((too_late p x t, TooLate) ∷ []) ((too_late g x t, TooLate) ∷ []) Written Written (write_same safe p g s (Put t x v) t x (λ (no' : ⊥). no')) told
told_same safe p g all all' s seat (Del t x) told = behind safe p g seat t s (IsTold safe (Del t x)) ((too_late p x t, TooLate) ∷ []) ((too_late g x t, TooLate) ∷ []) Written Written (write_same safe p g s (Del t x) t x (λ (no' : ⊥). no')) told
told_same safe p g all all' s seat (Commit t) told = rw (s.closed, s.owner t, s.ended t, s.count t) refl
told_same safe p g all all' s seat (Abort t) told = rw (s.closed, s.owner t, s.ended t) refl
told_same safe p g all all' s seat (Close to) told = rw (s.closed, undecided_same safe p g s) refl
told_same safe p g all all' s seat (CloseHard to) told = rw (s.closed, undecided_same safe p g s) refl
told_same safe p g all all' s seat (ReadAt t x) told = by_test (nat_lt (closed_of p) t)
    (λ is. rw (s.closed, is) refl)
    (λ low. by_test (nat_lt t (horizon_of p))
    (λ below. absurd (rw (low, below) at told))
    (λ above. let above' : nat_lt t (horizon_of g) ≡ false = grind (arith, nat_tests, above, s.horizon) in rw (s.closed, low, above, above', value_same safe p g s x (rw (low, above) at told) t) refl))
told_same safe p g all all' s seat (ScanAt t span) told = by_test (nat_lt (closed_of p) t)
    (λ is. rw (s.closed, is) refl)
    (λ low. by_test (nat_lt t (horizon_of p))
    (λ below. absurd (rw (low, below) at told))
    (λ above. let above' : nat_lt t (horizon_of g) ≡ false = grind (arith, nat_tests, above, s.horizon) in
    let ok : (x : List ℕ) → safe x ≡ true = rw (low, above) at told in
    rw (s.closed, low, above, above', s.keys, pairs_same (λ x. committed_value g x t) (λ x. committed_value p x t) (λ x. value_same safe p g s x (ok x) t) (filter (in_span span) (written_keys p))) refl))
told_same safe p g all all' s seat (Protect t) told = by_test (nat_lt MAX t)
    (λ is. rw is refl)
    (λ low. by_test (nat_lt t (horizon_of p))
    (λ below. absurd (rw (low, below) at told))
    (λ above. let above' : nat_lt t (horizon_of g) ≡ false = grind (arith, nat_tests, above, s.horizon) in rw (low, above, above', s.made) refl))
told_same safe p g all all' s seat (Release id) told = rw s.protections refl
told_same safe p g all all' s seat (Collect to) told = by_test (nat_lt MAX to) (λ is. rw is refl) (λ low. absurd (rw low at told))
told_same safe p g all all' s seat (Open span cursor) told = opened_same safe p g s (Open span cursor) (kind_of false None) cursor (λ n (no' : ⊥). no') told
told_same safe p g all all' s seat (OpenInitial span cursor) told = opened_same safe p g s (OpenInitial span cursor) (kind_of true None) cursor (λ n (no' : ⊥). no') told
told_same safe p g all all' s seat (OpenEvery span cursor gap) told = opened_same safe p g s (OpenEvery span cursor gap) (kind_of false (Some gap)) cursor (λ n (no' : ⊥). no') told
told_same safe p g all all' s seat (OpenInitialEvery span cursor gap) told = opened_same safe p g s (OpenInitialEvery span cursor gap) (kind_of true (Some gap)) cursor (λ n (no' : ⊥). no') told
told_same safe p g all all' s seat (Poll f max) told = ap (λ o. with_feed g seat f o (λ feed. Messages (next_messages g f feed max))) (s.feed f) ∙ by_feed (feed_of p f) told
  where
    by_feed : (o : Option Feed) → IsTold safe (Poll f max) (with_feed p seat f o (λ feed. Messages (next_messages p f feed max))) → with_feed g seat f o (λ feed. Messages (next_messages g f feed max)) ≡ with_feed p seat f o (λ feed. Messages (next_messages p f feed max))
    by_feed None told = refl
    by_feed (Some feed) told = by_test (is_cancelled p f)
        (λ is. rw (s.cancelled f, is) refl)
        (λ lives. by_test (not (feed.seat == seat)) (λ is. rw (s.cancelled f, lives, is) refl) (λ own. absurd (rw (lives, own) at told)))
told_same safe p g all all' s seat (Cancel f) told = grind (arith, common_steps, s.feed f, s.cancelled f)
told_same safe p g all all' s seat Stats told = absurd told
