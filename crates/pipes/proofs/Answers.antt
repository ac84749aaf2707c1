-- Each answer after a history whose commands keep the limits keeps them too, and is short.
use Rattle.std.proofs.Common.{◌≡◌, ℕ, suc, ◌+◌, ◌*◌, ◌-◌, ◌<◌, ◌≤◌, Bool, true, false, not, ◌++◌, List, [], ◌∷◌, length, map, Option, Some, None, refl, sym, subst, inl, inr, arith}
use Rattle.std.specs.Prelude.{filter, is_some, max, nat_le, nat_lt, ◌==◌}
use Rattle.pipes.proofs.Common.{Abort, Aborted, After, AllAllowed, AllByRecursion, Begin, BelowClosed, BelowHorizon, Blocked, Cancel, Cancelled, Close, CloseHard, Closed, Cmd, Collect, Collected, Collects, Commit, Committed, Del, Effect, Ended, Event, Feed, FeedCancelled, Follows, Format, Found, GapRange, Get, IsAfter, IsCommand, IsLegal, IsMessage, IsNumber, IsPair, IsRefusal, IsReply, IsRightEvent, MAX, Message, Messages, NoFeed, NoMemory, NoProtection, NoTxn, NotClosed, NotOwner, Open, OpenEvery, OpenInitial, OpenInitialEvery, Opened, Poll, Protect, Protected, Put, ReadAt, Refused, Release, Released, Reply, Rows, Scan, ScanAt, Span, Started, Stats, TooLate, TsRange, TsUsed, Written, bytes_few, closed_of, collection_horizon, committed_value, dead_of, decided_through, due_message, each_key, effect_count, effects_of, feed_of, feeds_opened, filter_in, horizon_low, horizon_of, in_span, in_txn, is_blocked, is_cancelled, is_protected, kind_of, least_low, legal_allowed, letters, live_feeds, made_at_most, newest_is, next_messages, number_length, opened_at_most, owner_of, pairs_of, protections_made, recursion_from_All, refusal_words, reply_words, undecided_timestamps, unless_is, untold_rows, value_limit, version_of, versions_of, visible, write_count, written_keys}
use Rattle.spans.specs.declared.calls.messages.Message.TheVariants as messages
use Rattle.spans.specs.declared.calls.replies.Refusal.{Refusal}
use Rattle.spans.specs.declared.calls.replies.Reply.TheVariants as replies
use Rattle.spans.specs.declared.kind.Kind.{Kind}
use Rattle.spans.specs.Answer.{answer_of, first_refusal_or, horizon_tests, is_timestamp, opening_answer, opening_tests, snapshot_tests, transaction_tests, with_feed}
use Rattle.spans.specs.Reads.{too_late}
use Rattle.spans.proofs.Lists.{take_few}
use Rattle.plain_database.proofs.ClosedRange.{closed_in_range}
use Rattle.plain_database.proofs.Counting.{dead_few, versions_few}
use Rattle.pipes.specs.Texts.{KeepsFormat}
use Rattle.pipes.proofs.Numbers.{collection_low, filter_few, keys_few, live_few, pairs_few, undecided_few, write_count_few}
use Rattle.pipes.proofs.Told.{next_are}
use Rattle.pipes.proofs.Written.{KeepsWrite, committed_keeps, effects_keep, key_keeps, pairs_keep, visible_keeps}

-- the words of a refusal are one number's at most, and a name's
refusal_few : (r : Refusal) → IsRefusal r → letters (refusal_words r) ≤ 60
refusal_few (BelowClosed n) is = omega (arith, number_length n is)
refusal_few (Blocked n) is = omega (arith, number_length n is)
refusal_few (NotClosed n) is = omega (arith, number_length n is)
refusal_few (BelowHorizon n) is = omega (arith, number_length n is)
refusal_few _ is = omega arith

-- the effects of a history so far: of one that is legal, that a number counts, and whose commands keep the limits
pub record IsSoFar (format : Format) (p : List Effect) : Type 0 where
  pub allowed : AllAllowed p
  pub closed : closed_of p ≤ MAX
  pub few : length p < 18446744073709551615
  pub keeps : AllByRecursion (KeepsWrite format) p

module _ (format : Format) where
  -- the reply to a command that has a value has room for it, and so has that of the statistics for theirs
  abbrev pub room_of : Cmd → ℕ
  room_of (Get t x) = 3 * value_limit format
  room_of (ReadAt t x) = 3 * value_limit format
  room_of Stats = 60
  room_of c = 0

  -- the reply keeps the limits, and its words have room behind the command
  abbrev pub Suits : Cmd → Reply → Type 0
  Suits c r = IsReply format r × (letters (reply_words r) ≤ 60 + room_of c)

  refused_suits : (c : Cmd) (r : Refusal) → IsRefusal r → Suits c (Refused r)
  unfolding IsReply reply_words
  refused_suits c r is = (is, omega (arith, refusal_few r is))

  -- ---- what each reply has to keep

  committed_suits : (c : Cmd) (n : ℕ) → IsNumber n → Suits c (Committed n)
  unfolding IsReply reply_words
  committed_suits c n is = (is, omega (arith, number_length n is))

  closed_suits : (c : Cmd) (n m : ℕ) → IsNumber n → IsNumber m → Suits c (Closed n m)
  unfolding IsReply reply_words
  closed_suits c n m is is' = ((is, is'), omega (arith, number_length n is, number_length m is'))

  collected_suits : (c : Cmd) (n m : ℕ) → IsNumber n → IsNumber m → Suits c (Collected n m)
  unfolding IsReply reply_words
  collected_suits c n m is is' = ((is, is'), omega (arith, number_length n is, number_length m is'))

  protected_suits : (c : Cmd) (n : ℕ) → IsNumber n → Suits c (Protected n)
  unfolding IsReply reply_words
  protected_suits c n is = (is, omega (arith, number_length n is))

  opened_suits : (c : Cmd) (n : ℕ) → IsNumber n → Suits c (Opened n)
  unfolding IsReply reply_words
  opened_suits c n is = (is, omega (arith, number_length n is))

  rows_suits : (c : Cmd) (pairs : List (List ℕ × List ℕ)) → IsNumber (length pairs) → AllByRecursion (IsPair format) pairs → Suits c (Rows pairs)
  unfolding IsReply reply_words
  rows_suits c pairs is are = ((is, are), omega (arith, number_length (length pairs) is))

  told_suits : (c : Cmd) (ms : List Message) → IsNumber (length ms) → AllByRecursion (IsMessage format) ms → Suits c (Messages ms)
  unfolding IsReply reply_words
  told_suits c ms is are = ((is, are), omega (arith, number_length (length ms) is))

  found_few : (a : After) → IsAfter format a → letters (reply_words (Found a)) ≤ 60 + 3 * value_limit format
  unfolding reply_words
  found_few None is = omega arith
  found_few (Some v) is = omega (arith, bytes_few v (value_limit format) is.1 is.0)

  counted_suits : (a b c d e : ℕ) → IsNumber a → IsNumber b → IsNumber c → IsNumber d → IsNumber e → Suits Stats (replies.Stats a b c d e)
  unfolding IsReply reply_words
  counted_suits a b c d e ia ib ic id ie = ((ia, ib, ic, id, ie), omega (arith, number_length a ia, number_length b ib, number_length c ic, number_length d id, number_length e ie))

  -- ---- the tests before it

  -- past the tests of a transaction
  past_txn : (c : Cmd) (p : List Effect) (seat t : ℕ) (more : List (Bool × Refusal)) (reply : Reply) → Follows (Suits c) more reply → Suits c (first_refusal_or (transaction_tests p seat t ++ more) reply)
  past_txn c p seat t more reply here = in_txn (Suits c) p seat t more reply (refused_suits c Ended tt) (refused_suits c NoTxn tt) (refused_suits c NotOwner tt) (λ _. here)

  module _ (p : List Effect) (so : IsSoFar format p) where
    closed_number : IsNumber (closed_of p)
    closed_number = omega (arith, so.closed)

    horizon_number : IsNumber (horizon_of p)
    horizon_number = omega (arith, horizon_low p so.allowed, so.closed)

    blocked_number : (x : List ℕ) (t : ℕ) → IsNumber t → IsNumber (visible p x t).ts
    blocked_number x t is = let low : (visible p x t).ts ≤ t = (newest_is (version_of p x) t).at_most in omega arith

    -- the rows of a span
    span_rows : (c : Cmd) (m : List ℕ → After) (span : Span) → ((x : List ℕ) → IsAfter format (m x)) → Suits c (Rows (pairs_of m (filter (in_span span) (written_keys p))))
    span_rows c m span values =
        let keys : List (List ℕ) = filter (in_span span) (written_keys p) in
        rows_suits c (pairs_of m keys) (omega (arith, pairs_few m keys, filter_few (in_span span) (written_keys p), keys_few p, so.few))
        (pairs_keep format m keys (λ x i. key_keeps format p so.keeps x ((filter_in (in_span span) x (written_keys p)).0 i).1) values)

    -- past the tests of a read at a closed timestamp
    past_snapshot : (c : Cmd) (t : ℕ) (reply : Reply) → Suits c reply → Suits c (first_refusal_or (snapshot_tests p t) reply)
    past_snapshot c t reply here = unless_is (Suits c) (snapshot_tests p t) reply (λ _. refused_suits c (NotClosed (closed_of p)) closed_number, λ _. (λ _. refused_suits c (BelowHorizon (horizon_of p)) horizon_number, λ _. here))

    opening_suits : (c : Cmd) (kind : Kind) (cursor : ℕ) → Suits c (opening_answer kind p cursor)
    opening_suits c kind cursor = unless_is (Suits c) (opening_tests kind p cursor) (Opened (suc (feeds_opened p))) (
      λ _. refused_suits c TsRange tt,
      λ _. (
        λ _. refused_suits c GapRange tt,
        λ _. (
          λ _. refused_suits c (BelowHorizon (horizon_of p)) horizon_number,
          λ _. (λ _. refused_suits c (NotClosed (closed_of p)) closed_number, λ _. opened_suits c (suc (feeds_opened p)) (omega (arith, opened_at_most p, so.few))),
        ),
      ),
    )

    poll_suits : (seat f most : ℕ) → IsNumber most → (o : Option Feed) → feed_of p f ≡ o → Suits (Poll f most) (with_feed p seat f o (λ feed. Messages (next_messages p f feed most)))
    poll_suits seat f most small None is = refused_suits (Poll f most) NoFeed tt
    poll_suits seat f most small (Some feed) is = let c : Cmd = Poll f most in let ms : List Message = next_messages p f feed most in
        unless_is (Suits c) ((is_cancelled p f, FeedCancelled) ∷ (not (feed.seat == seat), NotOwner) ∷ []) (Messages ms) (
          λ _. refused_suits c FeedCancelled tt,
          λ _. (λ _. refused_suits c NotOwner tt, λ _. told_suits c ms (fewer feed) (recursion_from_All (IsMessage format) ms (next_are format p so.allowed so.closed so.keeps f most feed is))),
        )
      where
        fewer : (feed : Feed) → IsNumber (length (next_messages p f feed most))
        fewer feed = omega (arith, small, take_few most (map messages.Row (untold_rows p f feed) ++ due_message p f feed))

    -- the answer to each command
    pub answer_suits : (seat : ℕ) (c : Cmd) → IsCommand format c → Suits c (answer_of p seat c)
    unfolding IsCommand IsReply reply_words
    answer_suits seat (Begin t) is = unless_is (Suits (Begin t)) ((not (is_timestamp t), TsRange) ∷ (nat_le t (closed_of p), BelowClosed (closed_of p)) ∷ (is_some (owner_of p t), TsUsed) ∷ []) Started
        (λ _. refused_suits (Begin t) TsRange tt, λ _. (λ _. refused_suits (Begin t) (BelowClosed (closed_of p)) closed_number, λ _. (λ _. refused_suits (Begin t) TsUsed tt, λ _. (tt, omega arith))))
    answer_suits seat (Get t x) is = past_txn (Get t x) p seat t ((is_blocked p x t, Blocked (visible p x t).ts) ∷ []) (Found (visible p x t).after)
        (λ _. refused_suits (Get t x) (Blocked (visible p x t).ts) (blocked_number x t is.0), λ _. (visible_keeps format p so.keeps x t, found_few (visible p x t).after (visible_keeps format p so.keeps x t)))
    answer_suits seat (Scan t span) is =
        let reply : Reply = Rows (pairs_of (λ x. (visible p x t).after) (filter (in_span span) (written_keys p))) in
        past_txn (Scan t span) p seat t (map (λ x. (is_blocked p x t, Blocked (visible p x t).ts)) (filter (in_span span) (written_keys p))) reply
        (each_key (Suits (Scan t span)) (λ x. is_blocked p x t) (λ x. Blocked (visible p x t).ts) (filter (in_span span) (written_keys p)) reply (λ x. refused_suits (Scan t span) (Blocked (visible p x t).ts) (blocked_number x t is.0))
        (λ _. span_rows (Scan t span) (λ x. (visible p x t).after) span (λ x. visible_keeps format p so.keeps x t)))
    answer_suits seat (Put t x v) is = past_txn (Put t x v) p seat t ((too_late p x t, TooLate) ∷ []) Written (λ _. refused_suits (Put t x v) TooLate tt, λ _. (tt, omega arith))
    answer_suits seat (Del t x) is = past_txn (Del t x) p seat t ((too_late p x t, TooLate) ∷ []) Written (λ _. refused_suits (Del t x) TooLate tt, λ _. (tt, omega arith))
    answer_suits seat (Commit t) is = past_txn (Commit t) p seat t [] (Committed (write_count p t)) (committed_suits (Commit t) (write_count p t) (omega (arith, write_count_few p t, so.few)))
    answer_suits seat (Abort t) is = past_txn (Abort t) p seat t [] Aborted (tt, omega arith)
    answer_suits seat (Close to) is = unless_is (Suits (Close to)) ((nat_lt MAX to, TsRange) ∷ []) (Closed (max (closed_of p) (decided_through p to)) 0)
        (λ _. refused_suits (Close to) TsRange tt, λ _. closed_suits (Close to) (max (closed_of p) (decided_through p to)) 0 (omega (arith, so.closed, least_low to (map (λ t. t - 1) (undecided_timestamps p)))) (omega arith))
    answer_suits seat (CloseHard to) is = unless_is (Suits (CloseHard to)) ((nat_lt MAX to, TsRange) ∷ []) (Closed (max (closed_of p) to) (length (filter (λ t. nat_le t to) (undecided_timestamps p))))
        (λ _. refused_suits (CloseHard to) TsRange tt, λ _. closed_suits (CloseHard to) (max (closed_of p) to) (length (filter (λ t. nat_le t to) (undecided_timestamps p))) (omega (arith, so.closed)) (omega (arith, filter_few (λ t. nat_le t to) (undecided_timestamps p), undecided_few p, so.few)))
    answer_suits seat (ReadAt t x) is = past_snapshot (ReadAt t x) t (Found (committed_value p x t)) (committed_keeps format p so.keeps x t, found_few (committed_value p x t) (committed_keeps format p so.keeps x t))
    answer_suits seat (ScanAt t span) is = past_snapshot (ScanAt t span) t (Rows (pairs_of (λ x. committed_value p x t) (filter (in_span span) (written_keys p))))
        (span_rows (ScanAt t span) (λ x. committed_value p x t) span (λ x. committed_keeps format p so.keeps x t))
    answer_suits seat (Protect t) is = unless_is (Suits (Protect t)) (horizon_tests p t) (Protected (suc (protections_made p)))
        (λ _. refused_suits (Protect t) TsRange tt, λ _. (λ _. refused_suits (Protect t) (BelowHorizon (horizon_of p)) horizon_number, λ _. protected_suits (Protect t) (suc (protections_made p)) (omega (arith, made_at_most p, so.few))))
    answer_suits seat (Release id) is = unless_is (Suits (Release id)) ((not (is_protected p id), NoProtection) ∷ []) Released (λ _. refused_suits (Release id) NoProtection tt, λ _. (tt, omega arith))
    answer_suits seat (Collect to) is =
        let n : ℕ = collection_horizon p to in
        let low : n ≤ max (horizon_of p) (closed_of p) = collection_low p to in
        let dead : length (dead_of (Collects n ∷ p)) ≤ length (versions_of p) = dead_few (Collects n ∷ p) in
        unless_is (Suits (Collect to)) ((nat_lt MAX to, TsRange) ∷ []) (Collected n (length (dead_of (Collects n ∷ p)) - length (dead_of p)))
        (λ _. refused_suits (Collect to) TsRange tt, λ _. collected_suits (Collect to) n (length (dead_of (Collects n ∷ p)) - length (dead_of p)) (omega (arith, low, horizon_number, closed_number)) (omega (arith, dead, versions_few p so.allowed, so.few)))
    answer_suits seat (Open span cursor) is = opening_suits (Open span cursor) (kind_of false None) cursor
    answer_suits seat (OpenInitial span cursor) is = opening_suits (OpenInitial span cursor) (kind_of true None) cursor
    answer_suits seat (OpenEvery span cursor gap) is = opening_suits (OpenEvery span cursor gap) (kind_of false (Some gap)) cursor
    answer_suits seat (OpenInitialEvery span cursor gap) is = opening_suits (OpenInitialEvery span cursor gap) (kind_of true (Some gap)) cursor
    answer_suits seat (Poll f most) is = poll_suits seat f most is.1 (feed_of p f) refl
    answer_suits seat (Cancel f) is = unless_is (Suits (Cancel f)) ((not (is_some (feed_of p f)), NoFeed) ∷ (is_cancelled p f, FeedCancelled) ∷ []) Cancelled
        (λ _. refused_suits (Cancel f) NoFeed tt, λ _. (λ _. refused_suits (Cancel f) FeedCancelled tt, λ _. (tt, omega arith)))
    answer_suits seat Stats is =
        counted_suits (length (versions_of p) - length (dead_of p)) (length (undecided_timestamps p)) (length (live_feeds p)) (closed_of p) (horizon_of p)
        (omega (arith, versions_few p so.allowed, so.few)) (omega (arith, undecided_few p, so.few)) (omega (arith, live_few p, so.few)) closed_number horizon_number

    -- so does the reply of a right event
    pub event_suits : (e : Event) → IsRightEvent p e → IsCommand format e.cmd → Suits e.cmd e.reply
    event_suits e right is = elim right [
      | inl answer ↦ subst (Suits e.cmd) (sym answer) (answer_suits e.seat e.cmd is)
      | inr wanting ↦ subst (Suits e.cmd) (sym wanting.0) (refused_suits e.cmd NoMemory tt)
    ]

  -- ---- histories

  so_far : (h : List Event) → IsLegal h → AllByRecursion (KeepsFormat format) h → length h < 18446744073709551615 → IsSoFar format (effects_of h)
  so_far h legal keeps few = record {
    allowed = legal_allowed h legal;
    closed = closed_in_range h legal;
    few = omega (arith, effect_count h);
    keeps = effects_keep format h keeps;
  }

  -- the reply of each event suits its command
  abbrev pub HasReply : Event → Type 0
  HasReply e = Suits e.cmd e.reply

  pub replies_suit : (h : List Event) → IsLegal h → AllByRecursion (KeepsFormat format) h → length h ≤ 18446744073709551615 → AllByRecursion HasReply h
  replies_suit [] legal keeps few = tt
  replies_suit (e ∷ h) legal keeps few =
      (event_suits (effects_of h) (so_far h legal.1 keeps.1 (omega arith)) e legal.0 keeps.0.1, replies_suit h legal.1 keeps.1 (omega arith))
