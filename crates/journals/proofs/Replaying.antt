-- What lines leave: the committed versions and the horizon of the history, and nothing else.
use Rattle.std.proofs.Common.{◌≡◌, ℕ, suc, ◌<◌, ◌≤◌, ◌==◌, true, false, cond, ◌&&◌, ◌||◌, List, [], ◌∷◌, ◌++◌, map, Option, Some, None, refl, sym, ◌∙◌, ap, subst, arith}
use Rattle.std.specs.Prelude.{filter, is_some, length, ◌-◌, max, min, nat_le, nat_lt}
use Rattle.spans.specs.Collection.{dead_of}
use Rattle.spans.specs.Transactions.{is_undecided}
use Rattle.spans.specs.Versions.{write_count}
use Rattle.restarts.proofs.Common.{After, AllAllowed, Allowed, Begin, Begins, Close, Closes, Cmd, Collect, Collects, Commit, Commits, Del, Effect, HardCloses, MAX, NoEffect, Put, Started, Writes, Written, Committed, answer_of, by_test, closed_of, committed_version_of, common_steps, effect, effect_of, feed_of, feeds_opened, both_ways, Closed, Collected, has, has_written, horizon_of, is_aborted, is_committed, is_timestamp, live_feeds, nat_tests, none_of, owner_of, protections_made, protections_of, same_key, too_late, undecided_timestamps, write_of, write_set, written_value, horizon_low, begun_of}
use Rattle.restarts.specs.Dump.{write_step, write_steps, transaction_steps}
use Rattle.restarts.specs.Running.{Step}
use Rattle.spans.proofs.Copies.{closed_grows}
use Rattle.spans.proofs.Horizon.{horizon_grows}
use Rattle.journals.specs.Recorded.{collection, is_foreseen, recorded}
use Rattle.journals.specs.Batches.{AreInOrder, Noted, did, kept_lines, kept_part, last_record, lines_beyond, lines_of}
use Rattle.journals.proofs.Parting.{empty_end, kept_now, kept_whole, lost_now, record_before}
use Rattle.journals.proofs.Running.{AreRight, ran, ran_append, right_append}

-- q has whole transactions of one seat, and nothing else
pub record IsQuiet (q : List Effect) : Type 0 where
  pub begun : (t : ℕ) → is_some (owner_of q t) ≡ is_committed q t
  pub live : (t : ℕ) → is_aborted q t ≡ false
  pub early : (x : List ℕ) (i : ℕ) → too_late q x i ≡ false
  pub wrote : (t : ℕ) (x : List ℕ) → is_committed q t ≡ false → write_of q t x ≡ None
  pub no_feed : (f : ℕ) → feed_of q f ≡ None
  pub opened : feeds_opened q ≡ 0
  pub feeds : live_feeds q ≡ []
  pub protections : protections_of q ≡ []
  pub made : protections_made q ≡ 0

-- what a copy gave: all versions below `from`, and the horizon. A journal without a copy has all from 0 on
pub record Given : Type 0 where
  pub from : ℕ
  pub horizon : ℕ
  pub version : List ℕ → ℕ → Option After

abbrev pub none_given : Given
none_given = record { from = 0; horizon = 0; version = λ x t. None }

-- q is what a copy and the lines behind it leave of p
pub record IsReplay (c : Given) (p q : List Effect) : Type 0 where
  pub quiet : IsQuiet q
  pub horizon : horizon_of q ≡ max c.horizon (horizon_of p)
  pub reached : c.from ≤ suc (closed_of q)
  pub closed : suc (closed_of q) ≤ max c.from (suc (closed_of p))
  pub committed : (t : ℕ) → c.from ≤ t → is_committed q t ≡ true → is_committed p t ≡ true
  pub versions : (x : List ℕ) (t : ℕ) → c.from ≤ t → committed_version_of q x t ≡ committed_version_of p x t
  pub copied : (x : List ℕ) (t : ℕ) → t < c.from → committed_version_of q x t ≡ c.version x t

-- p stays below m
pub record IsBelow (p : List Effect) (m : ℕ) : Type 0 where
  pub in_range : m ≤ MAX
  pub closed : closed_of p ≤ m
  pub begun : (t : ℕ) → is_some (owner_of p t) ≡ true → t ≤ m

pub below_before : (p : List Effect) (d : Effect) (m : ℕ) → Allowed p d → IsBelow (d ∷ p) m → IsBelow p m
below_before p d m allowed below = record { in_range = below.in_range; closed = omega (arith, closed_grows p d allowed, below.closed); begun = λ t is. below.begun t (still d t is) }
  where
    still : (d : Effect) (t : ℕ) → is_some (owner_of p t) ≡ true → is_some (owner_of (d ∷ p) t) ≡ true
    still (Begins k seat) t is = by_test (k == t) (λ same. rw same refl) (λ other. rw other is)
    still (_) t is = is

-- ---- a transaction

-- effects that write keys of t
abbrev pub with_writes : List Effect → List Effect → ℕ → List (List ℕ) → List Effect
with_writes q p t [] = q
with_writes q p t (x ∷ xs) = with_writes (Writes t x (written_value (write_of p t x)) ∷ q) p t xs

-- all but the writes is as it was
pub record IsSameBut (q q' : List Effect) : Type 0 where
  pub closed : closed_of q' ≡ closed_of q
  pub horizon : horizon_of q' ≡ horizon_of q
  pub owner : (i : ℕ) → owner_of q' i ≡ owner_of q i
  pub committed : (i : ℕ) → is_committed q' i ≡ is_committed q i
  pub aborted : (i : ℕ) → is_aborted q' i ≡ is_aborted q i
  pub late : (x : List ℕ) (i : ℕ) → too_late q' x i ≡ too_late q x i
  pub no_feed : (f : ℕ) → feed_of q' f ≡ feed_of q f
  pub opened : feeds_opened q' ≡ feeds_opened q
  pub feeds : live_feeds q' ≡ live_feeds q
  pub protections : protections_of q' ≡ protections_of q
  pub made : protections_made q' ≡ protections_made q

same_itself : (q : List Effect) → IsSameBut q q
same_itself q = record { closed = refl; horizon = refl; owner = λ i. refl; committed = λ i. refl; aborted = λ i. refl; late = λ x i. refl; no_feed = λ f. refl; opened = refl; feeds = refl; protections = refl; made = refl }

pub wrote_same : (q p : List Effect) (t : ℕ) (xs : List (List ℕ)) → IsSameBut q (with_writes q p t xs)
wrote_same q p t [] = same_itself q
wrote_same q p t (x ∷ xs) = let s = wrote_same (Writes t x (written_value (write_of p t x)) ∷ q) p t xs in
    record { closed = s.closed; horizon = s.horizon; owner = s.owner; committed = s.committed; aborted = s.aborted; late = s.late; no_feed = s.no_feed; opened = s.opened; feeds = s.feeds; protections = s.protections; made = s.made }

pub wrote_write : (q p : List Effect) (t : ℕ) (xs : List (List ℕ)) (i : ℕ) (y : List ℕ)
    → write_of (with_writes q p t xs) i y ≡ cond ((t == i) && has y xs) (Some (written_value (write_of p t y))) (write_of q i y)
wrote_write q p t [] i y = by_test (t == i) (λ is. rw is refl) (λ isnt. rw isnt refl)
wrote_write q p t (x ∷ xs) i y = wrote_write (Writes t x (written_value (write_of p t x)) ∷ q) p t xs i y ∙ grind (arith, common_steps, same_key x y)

-- t may write, and no write is too late
pub record IsWriting (q : List Effect) (t : ℕ) : Type 0 where
  pub above : closed_of q < t
  pub owner : owner_of q t ≡ Some 0
  pub uncommitted : is_committed q t ≡ false
  pub live : is_aborted q t ≡ false
  pub early : (x : List ℕ) (i : ℕ) → too_late q x i ≡ false

write_answer : (q : List Effect) (t : ℕ) (x : List ℕ) (a : After) → IsWriting q t → answer_of q 0 (write_step t x a).0 ≡ Written
write_answer q t x None here = let past : nat_le t (closed_of q) ≡ false = grind (arith, nat_tests, here.above) in rw (past, here.owner, here.uncommitted, here.live, here.early x t) refl
write_answer q t x (Some v) here = let past : nat_le t (closed_of q) ≡ false = grind (arith, nat_tests, here.above) in rw (past, here.owner, here.uncommitted, here.live, here.early x t) refl

write_effect : (q : List Effect) (t : ℕ) (x : List ℕ) (a : After) → IsWriting q t → effect 0 (write_step t x a).0 (answer_of q 0 (write_step t x a).0) ≡ Writes t x a
write_effect q t x None here = rw (write_answer q t x None here) refl
write_effect q t x (Some v) here = rw (write_answer q t x (Some v) here) refl

write_foreseen : (from b : ℕ) (q : List Effect) (t : ℕ) (x : List ℕ) (a : After) → IsWriting q t → is_foreseen from b (write_step t x a).0 (answer_of q 0 (write_step t x a).0) ≡ true
write_foreseen from b q t x None here = rw (write_answer q t x None here) refl
write_foreseen from b q t x (Some v) here = rw (write_answer q t x (Some v) here) refl

still_writing : (q : List Effect) (t : ℕ) (x : List ℕ) (a : After) → IsWriting q t → IsWriting (Writes t x a ∷ q) t
still_writing q t x a here = record { above = here.above; owner = here.owner; uncommitted = here.uncommitted; live = here.live; early = here.early }

pub record IsBlock (q q' : List Effect) (cs : List Cmd) : Type 0 where
  pub right : (from b : ℕ) → AreRight from b q cs
  pub ran' : ran q cs ≡ q'

commit_answer : (q : List Effect) (t : ℕ) → IsWriting q t → answer_of q 0 (Commit t) ≡ Committed (write_count q t)
commit_answer q t here = let past : nat_le t (closed_of q) ≡ false = grind (arith, nat_tests, here.above) in rw (past, here.owner, here.uncommitted, here.live) refl

-- the writes of the keys, and the commit
abbrev rest_then : List Effect → ℕ → List (List ℕ) → ℕ → List Cmd
rest_then p t xs n = map (λ (s : Step). s.0) (write_steps p t xs ++ (Commit t, Committed n) ∷ [])

writes_block : (q p : List Effect) (t n : ℕ) (xs : List (List ℕ)) → IsWriting q t → IsBlock q (Commits t ∷ with_writes q p t xs) (rest_then p t xs n)
writes_block q p t n [] here =
    let is = commit_answer q t here in record {
      right = λ from b. (ap (is_foreseen from b (Commit t)) is, tt);
      ran' = ap (λ r. effect 0 (Commit t) r ∷ q) is;
    }
writes_block q p t n (x ∷ xs) here =
    let a : After = written_value (write_of p t x) in
    let is = write_effect q t x a here in
    let more = writes_block (Writes t x a ∷ q) p t n xs (still_writing q t x a here) in record {
      right = λ from b. (write_foreseen from b q t x a here, subst (λ d. AreRight from b (d ∷ q) (rest_then p t xs n)) (sym is) (more.right from b));
      ran' = ap (λ d. ran (d ∷ q) (rest_then p t xs n)) is ∙ more.ran';
    }

begin_answer : (q : List Effect) (t : ℕ) → closed_of q < t → t ≤ MAX → owner_of q t ≡ None → answer_of q 0 (Begin t) ≡ Started
begin_answer q t above low none =
    let past : nat_le t (closed_of q) ≡ false = grind (arith, nat_tests, above) in
    let some : nat_lt 0 t ≡ true = grind (arith, nat_tests, above) in
    let in' : nat_le t MAX ≡ true = grind (arith, nat_tests, low) in rw (some, in', past, none) refl

-- what a commit leaves
abbrev pub committed_to : List Effect → List Effect → ℕ → List (List ℕ) → List Effect
committed_to q p t xs = Commits t ∷ with_writes (Begins t 0 ∷ q) p t xs

now_writing : (q : List Effect) (t : ℕ) → IsQuiet q → closed_of q < t → is_committed q t ≡ false → IsWriting (Begins t 0 ∷ q) t
now_writing q t quiet above new = record {
  above = above;
  owner = let same : (t == t) ≡ true = grind (arith, nat_tests) in rw same refl;
  uncommitted = new;
  live = quiet.live t;
  early = quiet.early;
}

pub transaction_block : (p q : List Effect) (t : ℕ) → IsQuiet q → closed_of q < t → t ≤ MAX → is_committed q t ≡ false
    → (x : List ℕ) (xs : List (List ℕ)) → IsBlock q (committed_to q p t (x ∷ xs)) (map (λ (s : Step). s.0) (transaction_steps p t (x ∷ xs)))
transaction_block p q t quiet above low new x xs =
    let none : owner_of q t ≡ None = none_of (owner_of q t) (quiet.begun t ∙ new) in
    let starts = begin_answer q t above low none in
    let more = writes_block (Begins t 0 ∷ q) p t (length (x ∷ xs)) (x ∷ xs) (now_writing q t quiet above new) in record {
      right = λ from b. (ap (is_foreseen from b (Begin t)) starts, subst (λ r. AreRight from b (effect 0 (Begin t) r ∷ q) (rest_then p t (x ∷ xs) (length (x ∷ xs)))) (sym starts) (more.right from b));
      ran' = ap (λ r. ran (effect 0 (Begin t) r ∷ q) (rest_then p t (x ∷ xs) (length (x ∷ xs)))) starts ∙ more.ran';
    }

-- what is committed then
pub committed_now : (p q : List Effect) (t : ℕ) (keys : List (List ℕ)) (i : ℕ) → is_committed (committed_to q p t keys) i ≡ ((t == i) || is_committed q i)
committed_now p q t keys i = ap (λ b. (t == i) || b) ((wrote_same (Begins t 0 ∷ q) p t keys).committed i)

pub transaction_quiet : (p q : List Effect) (t : ℕ) (keys : List (List ℕ)) → IsQuiet q → IsQuiet (committed_to q p t keys)
transaction_quiet p q t keys quiet =
    let s = wrote_same (Begins t 0 ∷ q) p t keys in record {
      begun = λ i. by_test (t == i)
          (λ same. rw (s.owner i, same) refl)
          (λ other. rw (s.owner i, s.committed i, other) (quiet.begun i));
      live = λ i. s.aborted i ∙ quiet.live i;
      early = λ x i. s.late x i ∙ quiet.early x i;
      wrote = λ i x open'. by_test (t == i)
          (λ same. grind (arith, common_steps, same, open'))
          (λ other. rw (wrote_write (Begins t 0 ∷ q) p t keys i x, other) (quiet.wrote i x (grind (arith, common_steps, s.committed i, other, open'))));
      no_feed = λ f. s.no_feed f ∙ quiet.no_feed f;
      opened = s.opened ∙ quiet.opened;
      feeds = s.feeds ∙ quiet.feeds;
      protections = s.protections ∙ quiet.protections;
      made = s.made ∙ quiet.made;
    }

-- the version that it makes of a key
pub made_version : (p q : List Effect) (t : ℕ) (keys : List (List ℕ)) → IsQuiet q → is_committed q t ≡ false → (x : List ℕ) → committed_version_of (committed_to q p t keys) x t ≡ cond (has x keys) (Some (written_value (write_of p t x))) None
made_version p q t keys quiet new x =
    let same : (t == t) ≡ true = grind (arith, nat_tests) in
    rw (same, wrote_write (Begins t 0 ∷ q) p t keys t x, same, quiet.wrote t x new) refl

-- and the others
pub other_version : (p q : List Effect) (t : ℕ) (keys : List (List ℕ)) (x : List ℕ) (i : ℕ) → (t == i) ≡ false → committed_version_of (committed_to q p t keys) x i ≡ committed_version_of q x i
other_version p q t keys x i other = rw ((wrote_same (Begins t 0 ∷ q) p t keys).committed i, wrote_write (Begins t 0 ∷ q) p t keys i x, other) refl

-- a key that was written has its value
pub written_again : (p : List Effect) (t : ℕ) (x : List ℕ) → write_of p t x ≡ cond (has x (write_set p t)) (Some (written_value (write_of p t x))) None
written_again p t x = rw (has_written p t x) (by_option (write_of p t x))
  where
    by_option : (o : Option After) → o ≡ cond (is_some o) (Some (written_value o)) None
    by_option None = refl
    by_option (Some a) = refl

-- and then it is what the lines leave
transaction_replay : (c : Given) (p q : List Effect) (t : ℕ) → IsReplay c p q → c.from ≤ t → is_committed q t ≡ false → IsReplay c (Commits t ∷ p) (committed_to q p t (write_set p t))
transaction_replay c p q t is from new =
    let s = wrote_same (Begins t 0 ∷ q) p t (write_set p t) in
    let same : closed_of (with_writes (Begins t 0 ∷ q) p t (write_set p t)) ≡ closed_of q = s.closed in record {
      quiet = transaction_quiet p q t (write_set p t) is.quiet;
      horizon = s.horizon ∙ is.horizon;
      reached = omega (arith, same, is.reached);
      closed = omega (arith, same, is.closed);
      committed = λ i high done. by_test (t == i) (λ same. rw same refl) (λ other. grind (arith, common_steps, committed_now p q t (write_set p t) i, is.committed i high, other, done));
      versions = λ x i high. by_test (t == i)
          (λ same. let at : t ≡ i = grind (arith, nat_tests) in subst (λ i. committed_version_of (committed_to q p t (write_set p t)) x i ≡ committed_version_of (Commits t ∷ p) x i) at (here x))
          (λ other. other_version p q t (write_set p t) x i other ∙ is.versions x i high ∙ sym (rw other refl));
      copied = λ x i low. let other : (t == i) ≡ false = grind (arith, nat_tests, from, low) in other_version p q t (write_set p t) x i other ∙ is.copied x i low;
    }
  where
    here : (x : List ℕ) → committed_version_of (committed_to q p t (write_set p t)) x t ≡ committed_version_of (Commits t ∷ p) x t
    here x = made_version p q t (write_set p t) is.quiet new x ∙ sym (written_again p t x) ∙ (let same : (t == t) ≡ true = grind (arith, nat_tests) in rw same refl)

-- ---- a collection

pub none_undecided : (q : List Effect) → IsQuiet q → undecided_timestamps q ≡ []
none_undecided q quiet = none (begun_of q)
  where
    none : (ts : List ℕ) → filter (is_undecided q) ts ≡ []
    none [] = refl
    none (t ∷ ts) = let no' : is_undecided q t ≡ false = grind (arith, common_steps, quiet.begun t, quiet.live t) in rw no' (none ts)

close_answer : (q : List Effect) (c : ℕ) → IsQuiet q → c ≤ MAX → answer_of q 0 (Close c) ≡ Closed (max (closed_of q) c) 0
close_answer q c quiet in_range = let in' : nat_lt MAX c ≡ false = grind (arith, nat_tests, in_range) in rw (in', none_undecided q quiet) refl

collect_answer : (q : List Effect) (n : ℕ) → IsQuiet q → n ≤ closed_of q → n ≤ MAX → (removed : ℕ) × (answer_of q 0 (Collect n) ≡ Collected (max (horizon_of q) n) removed)
collect_answer q n quiet low in_range =
    let in' : nat_lt MAX n ≡ false = grind (arith, nat_tests, in_range) in
    let least : min n (closed_of q) ≡ n = omega (arith, low) in
    (length (dead_of (Collects (max (horizon_of q) n) ∷ q)) - length (dead_of q), rw (in', quiet.protections, quiet.feeds, least) refl)

-- what a closing and a collection leave
abbrev pub collected_to : List Effect → ℕ → ℕ → List Effect
collected_to q c n = Collects (max (horizon_of q) n) ∷ Closes (max (closed_of q) c) ∷ q

closed_quiet : (q : List Effect) (c : ℕ) → IsQuiet q → IsQuiet (Closes c ∷ q)
closed_quiet q c is = record { begun = is.begun; live = is.live; early = is.early; wrote = is.wrote; no_feed = is.no_feed; opened = is.opened; feeds = is.feeds; protections = is.protections; made = is.made }

pub closes_quiet : (q : List Effect) (c n : ℕ) → IsQuiet q → IsQuiet (Collects n ∷ Closes c ∷ q)
closes_quiet q c n is = record { begun = is.begun; live = is.live; early = is.early; wrote = is.wrote; no_feed = is.no_feed; opened = is.opened; feeds = is.feeds; protections = is.protections; made = is.made }

pub record IsCollection (q : List Effect) (c n : ℕ) : Type 0 where
  pub ran' : ran q (Close c ∷ Collect n ∷ []) ≡ collected_to q c n
  pub right : (from b : ℕ) → ((max (closed_of q) c == c) || (max (closed_of q) c == max c (from - 1))) ≡ true → ((max (horizon_of q) n == n) || (max (horizon_of q) n == max n b)) ≡ true → AreRight from b q (Close c ∷ Collect n ∷ [])

pub collection_ran : (q : List Effect) (c n : ℕ) → IsQuiet q → n ≤ c → c ≤ MAX → IsCollection q c n
collection_ran q c n quiet low in_range =
    let q' : List Effect = Closes (max (closed_of q) c) ∷ q in
    let closes = close_answer q c quiet in_range in
    let collects = collect_answer q' n (closed_quiet q (max (closed_of q) c) quiet) (omega (arith, low)) (omega (arith, low, in_range)) in record {
      ran' = ap (λ r. ran (effect 0 (Close c) r ∷ q) (Collect n ∷ [])) closes ∙ ap (λ r. effect 0 (Collect n) r ∷ q') collects.1;
      right = λ from b one other. (rw (closes, one) refl, subst (λ r. AreRight from b (effect 0 (Close c) r ∷ q) (Collect n ∷ [])) (sym closes) (rw (collects.1, other) refl, tt));
    }

-- ---- any event

more : (p : List Effect) (d : Effect) (t : ℕ) → is_committed p t ≡ true → is_committed (d ∷ p) t ≡ true
more p (Commits k) t done = by_test (k == t) (λ same. rw same refl) (λ other. rw other done)
more p (_) t done = done

-- an event of which nothing is left leaves the replay as it is
still : (c : Given) (p q : List Effect) (d : Effect) → IsReplay c p q → Allowed p d → horizon_of (d ∷ p) ≡ horizon_of p
    → ((x : List ℕ) (t : ℕ) → c.from ≤ t → committed_version_of (d ∷ p) x t ≡ committed_version_of p x t) → IsReplay c (d ∷ p) q
still c p q d is allowed same versions = record {
  quiet = is.quiet;
  horizon = is.horizon ∙ ap (max c.horizon) (sym same);
  reached = is.reached;
  closed = omega (arith, is.closed, closed_grows p d allowed);
  committed = λ t high done. more p d t (is.committed t high done);
  versions = λ x t high. is.versions x t high ∙ sym (versions x t high);
  copied = is.copied;
}

-- what isn't recorded makes no version
stays : (c : Given) (p q : List Effect) (d : Effect) → IsReplay c p q → Allowed p d → horizon_of (d ∷ p) ≡ horizon_of p → ((t : ℕ) → d ≡ Commits t → write_set p t ≡ []) → IsReplay c (d ∷ p) q
stays c p q d is allowed same none = still c p q d is allowed same (λ x t high. alike d allowed none x t)
  where
    alike : (d : Effect) → Allowed p d → ((t : ℕ) → d ≡ Commits t → write_set p t ≡ []) → (x : List ℕ) (t : ℕ) → committed_version_of (d ∷ p) x t ≡ committed_version_of p x t
    alike (Commits k) allowed none x t = by_test (k == t)
        (λ at. let e : k ≡ t = grind (arith, nat_tests) in let nothing : write_of p k x ≡ None = none_of (write_of p k x) (sym (has_written p k x) ∙ ap (has x) (none k refl)) in grind (arith, common_steps, e, nothing))
        (λ other. rw other refl)
    alike (Writes k y a) allowed none x t = by_test (k == t)
        (λ at. let e : k ≡ t = grind (arith, nat_tests) in grind (arith, common_steps, e, allowed.0.uncommitted))
        (λ other. rw other refl)
    alike (_) allowed none x t = refl

-- ---- lines that the copy has

idle : (c : Given) (p q : List Effect) → IsReplay c p q → IsReplay c p (NoEffect ∷ q)
idle c p q is = record {
  quiet = let i = is.quiet in record { begun = i.begun; live = i.live; early = i.early; wrote = i.wrote; no_feed = i.no_feed; opened = i.opened; feeds = i.feeds; protections = i.protections; made = i.made };
  horizon = is.horizon;
  reached = is.reached;
  closed = is.closed;
  committed = is.committed;
  versions = is.versions;
  copied = is.copied;
}

-- what is answered so leaves what the lines leave
pub record IsLeft (c : Given) (p q : List Effect) (lines : List Cmd) : Type 0 where
  pub right : AreRight c.from c.horizon q lines
  pub replay : IsReplay c p (ran q lines)

-- a line that does nothing comes first
passed_one : (c : Given) (p q : List Effect) (cmd : Cmd) (lines : List Cmd) → is_foreseen c.from c.horizon cmd (answer_of q 0 cmd) ≡ true → effect 0 cmd (answer_of q 0 cmd) ≡ NoEffect → IsLeft c p (NoEffect ∷ q) lines → IsLeft c p q (cmd ∷ lines)
passed_one c p q cmd lines right none more = record {
  right = (right, subst (λ d. AreRight c.from c.horizon (d ∷ q) lines) (sym none) more.right);
  replay = subst (λ d. IsReplay c p (ran (d ∷ q) lines)) (sym none) more.replay;
}

passed_write : (c : Given) (p q : List Effect) (t : ℕ) (x : List ℕ) (a : After) (lines : List Cmd) → nat_lt t c.from ≡ true → nat_le t (closed_of q) ≡ true → IsLeft c p (NoEffect ∷ q) lines → IsLeft c p q ((write_step t x a).0 ∷ lines)
passed_write c p q t x None lines low past more = passed_one c p q (Del t x) lines (rw (past, low) refl) (rw past refl) more
passed_write c p q t x (Some v) lines low past more = passed_one c p q (Put t x v) lines (rw (past, low) refl) (rw past refl) more

passed : (c : Given) (p p' q : List Effect) (t n : ℕ) → IsReplay c p' q → nat_lt t c.from ≡ true → nat_le t (closed_of q) ≡ true → (xs : List (List ℕ)) → IsLeft c p' q (rest_then p t xs n)
passed c p p' q t n is low past [] = passed_one c p' q (Commit t) [] (rw (past, low) refl) (rw past refl) (record { right = tt; replay = idle c p' q is })
passed c p p' q t n is low past (x ∷ xs) = passed_write c p' q t x (written_value (write_of p t x)) (rest_then p t xs n) low past (passed c p p' (NoEffect ∷ q) t n (idle c p' q is) low past xs)

all_passed : (c : Given) (p p' q : List Effect) (t : ℕ) → IsReplay c p' q → is_timestamp t ≡ true → nat_lt t c.from ≡ true → nat_le t (closed_of q) ≡ true → (x : List ℕ) (xs : List (List ℕ)) → IsLeft c p' q (map (λ (s : Step). s.0) (transaction_steps p t (x ∷ xs)))
all_passed c p p' q t is in' low past x xs =
    passed_one c p' q (Begin t) (rest_then p t (x ∷ xs) (length (x ∷ xs))) (rw (in', past, low) refl) (rw (in', past) refl) (passed c p p' (NoEffect ∷ q) t (length (x ∷ xs)) (idle c p' q is) low past (x ∷ xs))

-- ---- the lines of an event

commit_next : (c : Given) (p q : List Effect) (m t : ℕ) → IsReplay c p q → IsBelow p m → Allowed p (Commits t) → (keys : List (List ℕ)) → write_set p t ≡ keys
    → IsLeft c (Commits t ∷ p) q (map (λ (s : Step). s.0) (transaction_steps p t keys))
commit_next c p q m t is below allowed [] keys = record { right = tt; replay = stays c p q (Commits t) is allowed refl (λ i e. none i e) }
  where
    none : (i : ℕ) → Commits t ≡ Commits i → write_set p i ≡ []
    none i e = let at : t ≡ i = cc in subst (λ i. write_set p i ≡ []) at keys
commit_next c p q m t is below allowed (x ∷ xs) keys =
    let low : t ≤ MAX = omega (arith, below.begun t allowed.begun, below.in_range) in by_test (nat_lt t c.from)
    (λ given.
    let low' : t < c.from = grind (arith, nat_tests, given) in
    let past : nat_le t (closed_of q) ≡ true = grind (arith, nat_tests, low', is.reached) in
    let some : nat_lt 0 t ≡ true = grind (arith, nat_tests, allowed.above) in
    let in' : nat_le t MAX ≡ true = grind (arith, nat_tests, low) in
    all_passed c p (Commits t ∷ p) q t (still c p q (Commits t) is allowed refl (λ y i high. let other : (t == i) ≡ false = grind (arith, nat_tests, low', high) in rw other refl)) (rw (some, in') refl) given past x xs)
    (λ isnt.
    let high : c.from ≤ t = grind (arith, nat_tests, isnt) in
    let above : closed_of q < t = omega (arith, is.closed, allowed.above, high) in
    let new : is_committed q t ≡ false = by_test (is_committed q t) (λ done. absurd (both_ways _ allowed.uncommitted (is.committed t high done))) (λ isnt. isnt) in
    let block = transaction_block p q t is.quiet above low new x xs in record {
      right = block.right c.from c.horizon;
      replay = subst (IsReplay c (Commits t ∷ p)) (ap (committed_to q p t) keys ∙ sym block.ran') (transaction_replay c p q t is high new);
    })

collection_next : (c : Given) (p q : List Effect) (n : ℕ) → Allowed p (Collects n) → IsReplay c p q → horizon_of p < n → n ≤ closed_of p → closed_of p ≤ MAX → IsLeft c (Collects n ∷ p) q (Close (closed_of p) ∷ Collect n ∷ [])
collection_next c p q n allowed is moved low in_range =
    let a : ℕ = closed_of p in
    let all = collection_ran q a n is.quiet low in_range in record {
      right = all.right c.from c.horizon
          (let e : max (closed_of q) a ≡ max a (c.from - 1) = omega (arith, is.reached, is.closed) in grind (arith, nat_tests, common_steps, e))
          (let e : max (horizon_of q) n ≡ max n c.horizon = omega (arith, is.horizon, moved) in grind (arith, nat_tests, common_steps, e));
      replay = subst (IsReplay c (Collects n ∷ p)) (sym all.ran') (record {
        quiet = closes_quiet q (max (closed_of q) a) (max (horizon_of q) n) is.quiet;
        horizon = omega (arith, is.horizon, moved);
        reached = omega (arith, is.reached);
        closed = omega (arith, is.closed);
        committed = is.committed;
        versions = is.versions;
        copied = is.copied;
      });
    }

collect_next : (c : Given) (p q : List Effect) (m n : ℕ) → AllAllowed (Collects n ∷ p) → IsReplay c p q → IsBelow p m → IsLeft c (Collects n ∷ p) q (collection p n)
collect_next c p q m n all is below = by_test (nat_lt (horizon_of p) n)
    (λ moved.
    let above : horizon_of p < n = grind (arith, nat_tests, moved) in
    rw moved (collection_next c p q n all.0 is above (horizon_low (Collects n ∷ p) all) (omega (arith, below.closed, below.in_range))))
    (λ stood.
    let same : n ≡ horizon_of p = grind (arith, nat_tests, horizon_grows p (Collects n) all.0, stood) in
    rw stood (record { right = tt; replay = stays c p q (Collects n) is all.0 same (λ t e. cc) }))

pub next : (c : Given) (p q : List Effect) (m : ℕ) (d : Effect) → AllAllowed (d ∷ p) → IsReplay c p q → IsBelow p m → IsLeft c (d ∷ p) q (recorded p d)
next c p q m (Commits t) all is below = commit_next c p q m t is below all.0 (write_set p t) refl
next c p q m (Collects n) all is below = collect_next c p q m n all is below
next c p q m (d) all is below = record { right = tt; replay = stays c p q d is all.0 refl (λ t e. cc) }

pub none_quiet : IsQuiet []
none_quiet = record { begun = λ t. refl; live = λ t. refl; early = λ x i. refl; wrote = λ t x is. refl; no_feed = λ f. refl; opened = refl; feeds = refl; protections = refl; made = refl }

-- what a recovery has is what its lines leave
pub itself : (q : List Effect) (m : ℕ) → IsQuiet q → closed_of q ≤ m → IsReplay none_given (HardCloses m m ∷ q) q
itself q m quiet low = record { quiet = quiet; horizon = omega arith; reached = omega arith; closed = omega (arith, low); committed = λ t high done. done; versions = λ x t high. refl; copied = λ x t low. absurd (omega (arith, low)) }

pub none_replay : IsReplay none_given [] []
none_replay = record { quiet = none_quiet; horizon = refl; reached = omega arith; closed = omega arith; committed = λ t high is. is; versions = λ x t high. refl; copied = λ x t low. absurd (omega (arith, low)) }

-- ---- all lines

-- what is noted behind a base of which no record is lost
pub replayed : (c : Given) (q : List Effect) (k m : ℕ) (later base : List Noted) → AreInOrder (later ++ base) → AllAllowed (did (later ++ base)) → IsBelow (did (later ++ base)) m → last_record base ≤ k → IsReplay c (did base) q
    → IsLeft c (did (kept_part k (later ++ base))) q (lines_beyond k later base)
replayed c q k m [] base ordered all below all_kept is = record { right = tt; replay = subst (λ ws. IsReplay c (did ws) q) (sym (kept_whole k base all_kept)) is }
replayed c q k m (n ∷ later) base ordered all below all_kept is =
    let ns : List Noted = later ++ base in
    let lines : List Cmd = lines_beyond k later base in
    let below' : IsBelow (did ns) m = below_before (did ns) (effect_of n.event) m all.0 below in
    let before = replayed c q k m later base ordered.1 all.1 below' all_kept is in by_test (nat_le (last_record (n ∷ ns)) k)
    (λ kept.
    let low : last_record (n ∷ ns) ≤ k = grind (arith, nat_tests, kept) in
    let is' : IsReplay c (did ns) (ran q lines) = subst (λ ws. IsReplay c (did ws) (ran q lines)) (kept_whole k ns (record_before n ns k ordered low)) before.replay in
    let now = next c (did ns) (ran q lines) m (effect_of n.event) all is' below' in
    rw kept (subst (λ cs. IsLeft c (did (n ∷ ns)) q (lines ++ cs)) (sym (kept_now n ns k low)) (record {
      right = right_append c.from c.horizon q lines (lines_of n ns) before.right now.right;
      replay = subst (IsReplay c (did (n ∷ ns))) (sym (ran_append q lines (lines_of n ns))) now.replay;
    })))
    (λ lost.
    let none : kept_lines k n ns ≡ [] = lost_now n ns k (grind (arith, nat_tests, lost)) in
    rw lost (subst (IsLeft c (did (kept_part k ns)) q) (sym (ap (λ cs. lines ++ cs) none ∙ empty_end lines)) before))
