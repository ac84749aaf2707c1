-- What is kept answers as it does with its numbers shifted: each reply can be found, and is the same but for its numbers.
use Rattle.std.proofs.Common.{◌≡◌, ℕ, suc, ◌==◌, true, false, not, cond, List, [], ◌∷◌, length, map, take, Option, Some, None, refl, sym, ◌∙◌, ap, arith}
use Rattle.restarts.proofs.Common.{Abort, Aborted, AllAllowed, AreKeysOf, AreNext, Begin, BelowClosed, BelowHorizon, Blocked, Cancel, Cancelled, Close, CloseHard, Closed, Cmd, Collect, Collected, Commit, Committed, Del, Effect, Event, Found, Get, IsKeptOf, IsReplyOf, Kept, Kind, MAX, Messages, NoProtection, NotClosed, NotOwner, Open, OpenEvery, OpenInitial, OpenInitialEvery, Opened, Place, Poll, Protect, Protected, Protection, Put, ReadAt, Refused, Release, Released, Reply, Row, Rows, Scan, ScanAt, Span, StandsFor, Started, Stats, TooLate, TsRange, TsUsed, Written, abort_reply, answer_of, begin_reply, cancel_reply, close_hard_reply, common_steps, close_reply, collect_reply, commit_reply, effects_of, feed_refusal, first_refusal_or, get_reply, is_seen_blocked, is_timestamp, kept_opening_tests, kind_of, known_is, legal_allowed, list_any, messages_left, open_reply, pairs_of, placed_by, poll_place, poll_reply, protect_reply, reach, read_at_reply, refusal, release_reply, reply_is_answer, scan_at_reply, scan_reply, seen, stats_reply, too_late, undecided_timestamps, unless_refused, write_reply, write_set}
use Rattle.std.specs.Prelude.{filter, is_some, max, nat_le, nat_lt}
use Rattle.spans.specs.declared.calls.replies.Reply.TheVariants as replies
use Rattle.kept.specs.Places.{reached}
use Rattle.restarts.specs.Restart.{number_from, renumbered_cmd, renumbered_reply}
use Rattle.restarts.proofs.Findings.{cut_are, dropped_are, dropped_in, floor_found, keys_are, keys_in, kept_versions, late_found, least_floor, least_in, least_is, living, living_are, next_found, oldest_found, rows_for, undecided_are, versions_in, written_found}
use Rattle.restarts.proofs.Shifting.{feed_at, floor_same, living_shifted, protected_same, protections_at, refusal_same, renumbered_either, renumbered_first, renumbered_unless, same_count, shifted}

-- a reply of what is kept, and that with shifted numbers
pub record IsTwinReply (n m : ℕ) (k : Kept) (seat : ℕ) (cmd : Cmd) : Type 0 where
  pub reply : Reply
  pub one : IsReplyOf k seat cmd reply
  pub other : IsReplyOf (shifted n m k) seat (renumbered_cmd n m cmd) (renumbered_reply n m reply)

-- feed 0 is never kept
pub no_zeroth : (k : Kept) (p : List Effect) → AllAllowed p → IsKeptOf k p → k.feed 0 ≡ None
no_zeroth k p all fits = grind (arith, common_steps, placed_by k p fits 0, known_is p all 0)

-- keys of one are keys of the other
same_keys : (n m : ℕ) (k : Kept) (span : Span) (keys : List (List ℕ)) → AreKeysOf k span keys → AreKeysOf (shifted n m k) span keys
same_keys n m k span keys are = record { rising = are.rising; each = are.each }

same_next : (n m : ℕ) (k : Kept) (place : Place) (max : ℕ) (rows : List Row) → AreNext k place max rows → AreNext (shifted n m k) place max rows
same_next n m k place max rows next = record { all = next.all; left = next.left; first = next.first }

same_place : (n m : ℕ) (k : Kept) (seat f max : ℕ) (rows : List Row) (o : Option Place) → renumbered_reply n m (poll_place k seat f max rows o) ≡ poll_place (shifted n m k) seat (number_from n f) max rows o
same_place n m k seat f max rows None = ap Refused (sym (refusal_same n m k f))
same_place n m k seat f max rows (Some place) = renumbered_first n m ((not (place.seat == seat), NotOwner) ∷ []) (Messages (take max (messages_left k.closed place rows)))

opened_alike : (n m : ℕ) (k : Kept) (kind : Kind) (cursor : ℕ) → renumbered_reply n m (open_reply kind k cursor) ≡ open_reply kind (shifted n m k) cursor
opened_alike n m k kind cursor = renumbered_first n m (kept_opening_tests kind k cursor) (Opened (suc k.feeds_opened))

pub twin_reply : (n m : ℕ) (k : Kept) (p : List Effect) → AllAllowed p → IsKeptOf k p → (seat : ℕ) (cmd : Cmd) → IsTwinReply n m k seat cmd
twin_reply n m k p all fits seat (Begin t) = record {
  reply = begin_reply k t;
  one = refl;
  other = renumbered_first n m ((not (is_timestamp t), TsRange) ∷ (nat_le t k.closed, BelowClosed k.closed) ∷ (is_some (k.transaction t), TsUsed) ∷ []) Started;
}
twin_reply n m k p all fits seat (Get t x) = record {
  reply = get_reply k seat t x;
  one = refl;
  other = renumbered_unless n m (refusal k seat t) (cond (is_seen_blocked k x t) (Refused (Blocked (seen k x t).ts)) (Found (seen k x t).after))
      ∙ ap (unless_refused (refusal k seat t)) (renumbered_either n m (is_seen_blocked k x t) (Blocked (seen k x t).ts) (Found (seen k x t).after));
}
twin_reply n m k p all fits seat (Scan t span) =
    let keys : List (List ℕ) = keys_in k p span in
    let are : AreKeysOf k span keys = keys_are k p all fits span in record {
      reply = scan_reply k seat t keys;
      one = (keys, λ _. are, refl);
      other = (
        keys,
        λ _. same_keys n m k span keys are,
        (renumbered_unless n m (refusal k seat t) (first_refusal_or (map (λ x. (is_seen_blocked k x t, Blocked (seen k x t).ts)) keys) (Rows (pairs_of (λ x. (seen k x t).after) keys)))
            ∙ ap (unless_refused (refusal k seat t)) (renumbered_first n m (map (λ x. (is_seen_blocked k x t, Blocked (seen k x t).ts)) keys) (Rows (pairs_of (λ x. (seen k x t).after) keys)))),
      );
    }
twin_reply n m k p all fits seat (Put t x v) = record {
  reply = write_reply k seat t (too_late p x t);
  one = (too_late p x t, λ none. late_found k p fits seat t x none, refl);
  other = (too_late p x t, λ none. late_found k p fits seat t x none, (renumbered_unless n m (refusal k seat t) (cond (too_late p x t) (Refused TooLate) Written) ∙ ap (unless_refused (refusal k seat t)) (renumbered_either n m (too_late p x t) TooLate Written)));
}
twin_reply n m k p all fits seat (Del t x) = record {
  reply = write_reply k seat t (too_late p x t);
  one = (too_late p x t, λ none. late_found k p fits seat t x none, refl);
  other = (too_late p x t, λ none. late_found k p fits seat t x none, (renumbered_unless n m (refusal k seat t) (cond (too_late p x t) (Refused TooLate) Written) ∙ ap (unless_refused (refusal k seat t)) (renumbered_either n m (too_late p x t) TooLate Written)));
}
twin_reply n m k p all fits seat (Commit t) =
    let keys : ℕ = length (write_set p t) in record {
      reply = commit_reply k seat t keys;
      one = (keys, λ none. written_found k p fits seat t none, refl);
      other = (keys, λ none. written_found k p fits seat t none, renumbered_unless n m (refusal k seat t) (Committed keys));
    }
twin_reply n m k p all fits seat (Abort t) = record { reply = abort_reply k seat t; one = refl; other = renumbered_unless n m (refusal k seat t) Aborted }
twin_reply n m k p all fits seat (Close to) =
    let oldest : Option ℕ = least_in (undecided_timestamps p) in record {
      reply = close_reply k to oldest;
      one = (oldest, λ _. oldest_found k p all fits, refl);
      other = (oldest, λ _. oldest_found k p all fits, renumbered_first n m ((nat_lt MAX to, TsRange) ∷ []) (Closed (max k.closed (reach to oldest)) 0));
    }
twin_reply n m k p all fits seat (CloseHard to) =
    let cut : List ℕ = filter (λ t. nat_le t to) (undecided_timestamps p) in record {
      reply = close_hard_reply k to cut;
      one = (cut, λ _. cut_are k p all fits to, refl);
      other = (cut, λ _. cut_are k p all fits to, renumbered_first n m ((nat_lt MAX to, TsRange) ∷ []) (Closed (max k.closed to) (length cut)));
    }
twin_reply n m k p all fits seat (ReadAt t x) = record {
  reply = read_at_reply k t x;
  one = refl;
  other = renumbered_first n m ((nat_lt k.closed t, NotClosed k.closed) ∷ (nat_lt t k.horizon, BelowHorizon k.horizon) ∷ []) (Found (seen k x t).after);
}
twin_reply n m k p all fits seat (ScanAt t span) =
    let keys : List (List ℕ) = keys_in k p span in
    let are : AreKeysOf k span keys = keys_are k p all fits span in record {
      reply = scan_at_reply k t keys;
      one = (keys, λ _ _. are, refl);
      other = (keys, λ _ _. same_keys n m k span keys are, renumbered_first n m ((nat_lt k.closed t, NotClosed k.closed) ∷ (nat_lt t k.horizon, BelowHorizon k.horizon) ∷ []) (Rows (pairs_of (λ x. (seen k x t).after) keys)));
    }
twin_reply n m k p all fits seat (Protect t) = record {
  reply = protect_reply k t;
  one = refl;
  other = renumbered_first n m ((nat_lt MAX t, TsRange) ∷ (nat_lt t k.horizon, BelowHorizon k.horizon) ∷ []) (Protected (suc k.protections_made));
}
twin_reply n m k p all fits seat (Release id) = record {
  reply = release_reply k id;
  one = refl;
  other = renumbered_first n m ((not (list_any (λ (w : Protection). w.id == id) k.protections), NoProtection) ∷ []) Released ∙ ap (λ b. first_refusal_or ((not b, NoProtection) ∷ []) Released) (sym (protected_same m id k.protections));
}
twin_reply n m k p all fits seat (Collect to) =
    let protection : Option ℕ = least_in (map (λ (w : Protection). w.at) k.protections) in
    let floor : Option ℕ = least_floor k.feed (living k p) in
    let horizon : ℕ = reached k to protection floor in
    let found = floor_found k p all fits in
    let drops = dropped_are k p all fits horizon in record {
      reply = collect_reply to horizon (dropped_in k p horizon);
      one = (protection, floor, dropped_in k p horizon, λ _. record { least_protection = λ i. least_is i (map (λ (w : Protection). w.at) k.protections); lowest_floor = found; drops = drops }, refl);
      other = (
        protection,
        floor,
        dropped_in k p horizon,
        λ _. record {
          least_protection = λ i. least_is i (map (λ (w : Protection). w.at) k.protections) ∙ ap (Rattle.spans.specs.Transactions.least_of i) (sym (protections_at m k.protections));
          lowest_floor = floor_same n m k (no_zeroth k p all fits) floor found;
          drops = record { distinct = drops.distinct; each = drops.each };
        },
        renumbered_first n m ((nat_lt MAX to, TsRange) ∷ []) (Collected horizon (length (dropped_in k p horizon))),
      );
    }
twin_reply n m k p all fits seat (Open span cursor) = record { reply = open_reply (kind_of false None) k cursor; one = refl; other = opened_alike n m k (kind_of false None) cursor }
twin_reply n m k p all fits seat (OpenInitial span cursor) = record { reply = open_reply (kind_of true None) k cursor; one = refl; other = opened_alike n m k (kind_of true None) cursor }
twin_reply n m k p all fits seat (OpenEvery span cursor gap) = record { reply = open_reply (kind_of false (Some gap)) k cursor; one = refl; other = opened_alike n m k (kind_of false (Some gap)) cursor }
twin_reply n m k p all fits seat (OpenInitialEvery span cursor gap) = record { reply = open_reply (kind_of true (Some gap)) k cursor; one = refl; other = opened_alike n m k (kind_of true (Some gap)) cursor }
twin_reply n m k p all fits seat (Poll f max) =
    let rows : List Row = rows_for p f in
    let at = feed_at n m k (no_zeroth k p all fits) f in record {
      reply = poll_reply k seat f max rows;
      one = (rows, λ place there own. next_found k p all fits f max place there, refl);
      other = (rows, λ place there own. same_next n m k place max rows (next_found k p all fits f max place (sym at ∙ there)), (same_place n m k seat f max rows (k.feed f) ∙ ap (poll_place (shifted n m k) seat (number_from n f) max rows) (sym at)));
    }
twin_reply n m k p all fits seat (Cancel f) =
    let at = feed_at n m k (no_zeroth k p all fits) f in record {
      reply = cancel_reply k f;
      one = refl;
      other = grind (arith, common_steps, at, refusal_same n m k f);
    }
twin_reply n m k p all fits seat Stats =
    let fs : List ℕ = living k p in
    let versions = kept_versions k p all fits in
    let undecided = undecided_are k p all fits in
    let are = living_are k p all fits in record {
      reply = stats_reply k (versions_in k p) (undecided_timestamps p) fs;
      one = (versions_in k p, undecided_timestamps p, fs, versions, undecided, are, refl);
      other = (
        versions_in k p,
        undecided_timestamps p,
        map (number_from n) fs,
        record { distinct = versions.distinct; each = versions.each },
        record { distinct = undecided.distinct; each = undecided.each },
        living_shifted n m k (no_zeroth k p all fits) fs are,
        ap (λ c. replies.Stats (length (versions_in k p)) (length (undecided_timestamps p)) c k.closed k.horizon) (sym (same_count n fs)),
      );
    }

-- so the answers are the same but for their numbers
pub twin_answer : (n m : ℕ) (k : Kept) (h h' : List Event) → StandsFor k h → StandsFor (shifted n m k) h' → (seat : ℕ) (cmd : Cmd)
    → answer_of (effects_of h') seat (renumbered_cmd n m cmd) ≡ renumbered_reply n m (answer_of (effects_of h) seat cmd)
twin_answer n m k h h' one other seat cmd =
    let t = twin_reply n m k (effects_of h) (legal_allowed h one.legal) one.fits seat cmd in
    sym (reply_is_answer (shifted n m k) h' seat (renumbered_cmd n m cmd) (renumbered_reply n m t.reply) other t.other)
    ∙ ap (renumbered_reply n m) (reply_is_answer k h seat cmd t.reply one t.one)
