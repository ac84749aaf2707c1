-- The replies that are made of what is kept are the answers.
use Rattle.kept.proofs.Common.{Abort, Aborted, AllAllowed, Begin, BelowHorizon, Cancel, Cancelled, Close, CloseHard, Collect, Commit, Committed, Del, Effect, Feed, FeedCancelled, Found, Get, IsKeptOf, Kept, MAX, Message, Messages, NoFeed, NotClosed, NotOwner, Open, OpenEvery, OpenInitial, OpenInitialEvery, Opens, Place, Poll, Protect, Put, ReadAt, Refused, Release, Reply, Row, Scan, ScanAt, Stats, TooLate, Written, and_parts, answer_of, by_test, closed_of, common_steps, due_if, eqb-true, feed_of, feeds_opened, first_refusal_or, horizon_low, horizon_of, is_cancelled, is_due, leb-true, ltb-true, nat_tests, next_messages, place_with, snapshot_tests, too_late, transaction_tests, unopened, with_feed, Rows}
use Rattle.std.proofs.Common.{Bool, List, None, Option, Some, [], ap, arith, cond, false, map, not, refl, suc, sym, take, true, zero, ℕ, ◌&&◌, ◌++◌, ◌<◌, ◌==◌, ◌∙◌, ◌∷◌, ◌≡◌, ◌≤◌}
use Rattle.std.specs.Prelude.{is_some, max, nat_le, nat_lt, option_map}
use Rattle.kept.specs.Answered.{IsReplyOf}
use Rattle.spans.specs.declared.calls.commands.Cmd.{Cmd}
use Rattle.kept.specs.Places.{reached, AreNext}
use Rattle.kept.specs.Marks.{IsLate}
use Rattle.kept.specs.Replies.{feed_refusal, in_range, messages_left, poll_place, poll_reply, write_reply}
use Rattle.kept.specs.Finding.{refusal}
use Rattle.kept.proofs.AfterCloses.{reach_is}
use Rattle.kept.proofs.Counts.{cut_count, feeds_count, undecided_count, versions_count, written_count}
use Rattle.kept.proofs.Floors.{horizon_reached}
use Rattle.kept.proofs.Polling.{poll_is}
use Rattle.kept.proofs.Reading.{blocked_is, blocker_is, seen_value, settled_is}
use Rattle.kept.proofs.Refusals.{past_tests}
use Rattle.kept.proofs.Scans.{scan_at_is, scan_is}
use Rattle.kept.proofs.DeadSeen.{dropped_count}
use Rattle.spans.specs.declared.calls.messages.Message.TheVariants as messages

-- a reply within the range of timestamps
ranged : (to : ℕ) (reply reply' : Reply) → (to ≤ MAX → reply ≡ reply') → in_range to reply ≡ in_range to reply'
ranged to reply reply' here = grind (arith, common_steps)

-- a reply at a closed timestamp from the horizon on
at_closed : (k : Kept) (p : List Effect) → IsKeptOf k p → (t : ℕ) (reply reply' : Reply) → (t ≤ closed_of p → horizon_of p ≤ t → reply ≡ reply')
    → first_refusal_or ((nat_lt k.closed t, NotClosed k.closed) ∷ (nat_lt t k.horizon, BelowHorizon k.horizon) ∷ []) reply ≡ first_refusal_or (snapshot_tests p t) reply'
at_closed k p fits t reply reply' here = grind (arith, common_steps)

-- a write, whichever
write_answer : (k : Kept) (p : List Effect) → IsKeptOf k p → (seat t : ℕ) (x : List ℕ) (late : Bool) → (refusal k seat t ≡ None → IsLate k x t late) → write_reply k seat t late ≡ first_refusal_or (transaction_tests p seat t ++ (too_late p x t, TooLate) ∷ []) Written
write_answer k p fits seat t x late tested = grind (arith, common_steps)

-- feed 0 is never opened
no_zeroth : (p : List Effect) → AllAllowed p → feed_of p 0 ≡ None
no_zeroth [] all = refl
no_zeroth (Opens g seat kind span cursor ∷ p) all = let other : (g == 0) ≡ false = grind (arith, nat_tests, all.0.0) in rw other (no_zeroth p all.1)
no_zeroth (_ ∷ p) all = no_zeroth p all.1

-- each feed up to the number of those that were opened was opened
opened_is : (p : List Effect) → AllAllowed p → (f : ℕ) → 0 < f → f ≤ feeds_opened p → is_some (feed_of p f) ≡ true
opened_is [] all f some low = absurd (omega arith)
opened_is (Opens g seat kind span cursor ∷ p) all f some low = grind (arith, common_steps, opened_is p all.1 f some)
opened_is (_ ∷ p) all f some low = opened_is p all.1 f some low

-- and no other
pub known_is : (p : List Effect) → AllAllowed p → (f : ℕ) → is_some (feed_of p f) ≡ (nat_lt 0 f && nat_le f (feeds_opened p))
known_is p all f = grind (arith, common_steps, by_test, and_parts, opened_is, ltb-true, leb-true, unopened, no_zeroth)

-- where no feed is kept, it was cancelled or never opened
refused_is : (k : Kept) (p : List Effect) → AllAllowed p → IsKeptOf k p → (f : ℕ) → feed_refusal k f ≡ cond (is_some (feed_of p f)) FeedCancelled NoFeed
refused_is k p all fits f = rw (fits.opened, known_is p all f) refl

-- of a feed that isn't kept
without : {A B : Type 0} (f : A → B) (b : Bool) (o : Option A) → cond (is_some (cond b None (option_map f o))) Cancelled (Refused (cond (is_some o) FeedCancelled NoFeed)) ≡ first_refusal_or ((not (is_some o), NoFeed) ∷ (b, FeedCancelled) ∷ []) Cancelled
without f b o = grind (arith, common_steps)

-- messages of rows that begin alike begin alike
take_alike : (m : ℕ) (rows all : List Row) (due : List Message) → take m rows ≡ take m all → take m (map messages.Row rows ++ due) ≡ take m (map messages.Row all ++ due)
take_alike zero rows all due same = refl
take_alike (suc m) [] [] due same = refl
take_alike (suc m) [] (s ∷ all) due same = cc
take_alike (suc m) (r ∷ rows) [] due same = cc
take_alike (suc m) (r ∷ rows) (s ∷ all) due same = grind (arith, common_steps, take_alike m rows all due)

-- poll
pub poll_answer : (k : Kept) (p : List Effect) → AllAllowed p → IsKeptOf k p → (seat f max : ℕ) (rows : List Row)
    → ((place : Place) → k.feed f ≡ Some place → place.seat ≡ seat → AreNext k place max rows) → poll_reply k seat f max rows ≡ answer_of p seat (Poll f max)
poll_answer k p all fits seat f max rows left = ap (poll_place k seat f max rows) (fits.feeds f) ∙ by_feed (is_cancelled p f) refl (feed_of p f) refl
  where
    by_feed : (b : Bool) → is_cancelled p f ≡ b → (o : Option Feed) → feed_of p f ≡ o
        → poll_place k seat f max rows (cond b None (option_map (place_with p f) o)) ≡ with_feed p seat f o (λ feed. Messages (next_messages p f feed max))
    by_feed true c None e = ap Refused (rw e at (refused_is k p all fits f))
    by_feed false c None e = ap Refused (rw e at (refused_is k p all fits f))
    by_feed true c (Some feed) e = rw c (ap Refused (rw e at (refused_is k p all fits f)))
    by_feed false c (Some feed) e = ap (λ b. cond b (Refused FeedCancelled) (cond (not (feed.seat == seat)) (Refused NotOwner) (Messages (take max (messages_left k.closed (place_with p f feed) rows))))) (sym c) ∙ by_test (feed.seat == seat)
        (λ own. let next = left (place_with p f feed) (fits.feeds f ∙ (rw (c, e) refl)) (eqb-true _ _ own) in
        rw (c, own) (ap Messages (take_alike max rows next.all (due_if (is_due feed.kind (place_with p f feed).after k.closed) k.closed) next.first ∙ poll_is k p all fits f max feed e c next.all next.left)))
        (λ other. rw (c, other) refl)

-- a reply that is made of what is kept is the answer
pub reply_right : (k : Kept) (p : List Effect) → AllAllowed p → IsKeptOf k p → (seat : ℕ) (cmd : Cmd) (r : Reply) → IsReplyOf k seat cmd r → r ≡ answer_of p seat cmd
reply_right k p all fits seat (Begin t) r is = is ∙ grind (arith, common_steps)
reply_right k p all fits seat (Get t x) r is = is ∙ grind (arith, common_steps, past_tests, horizon_low, blocked_is, by_test, blocker_is, seen_value)
reply_right k p all fits seat (Scan t span) r is = is.2 ∙ grind (arith, common_steps, past_tests, scan_is, horizon_low)
reply_right k p all fits seat (Put t x v) r is = is.2 ∙ write_answer k p fits seat t x is.0 is.1
reply_right k p all fits seat (Del t x) r is = is.2 ∙ write_answer k p fits seat t x is.0 is.1
reply_right k p all fits seat (Commit t) r is = is.2 ∙ past_tests k p fits seat t [] _ _ (λ none here. ap Committed (written_count k p fits t here.uncommitted here.unaborted is.0 (is.1 none)))
reply_right k p all fits seat (Abort t) r is = is ∙ past_tests k p fits seat t [] Aborted Aborted (λ none here. refl)
reply_right k p all fits seat (Close to) r is = is.2 ∙ ranged to _ _ (λ low. rw (fits.closed_at, reach_is k p all fits to is.0 (is.1 low)) refl)
reply_right k p all fits seat (CloseHard to) r is = is.2 ∙ ranged to _ _ (λ low. rw (fits.closed_at, cut_count k p all fits to is.0 (is.1 low)) refl)
reply_right k p all fits seat (ReadAt t x) r is = is ∙ at_closed k p fits t _ _ (λ low high. ap Found (settled_is k p fits all x t high low))
reply_right k p all fits seat (ScanAt t span) r is = is.2 ∙ at_closed k p fits t _ _ (λ low high. ap Rows (scan_at_is k p all fits t high low span is.0 (is.1 (rw fits.closed_at low) (rw fits.horizon_at high))))
reply_right k p all fits seat (Protect t) r is = is ∙ rw (fits.horizon_at, fits.made) refl
reply_right k p all fits seat (Release id) r is = is ∙ rw fits.protected refl
reply_right k p all fits seat (Collect to) r is = is.4 ∙ ranged to _ _ (λ low. let c = is.3 low in
    let e = horizon_reached k p all fits to is.0 is.1 c.least_protection c.lowest_floor in rw (dropped_count k p all fits (reached k to is.0 is.1) (to, e) is.2 c.drops, e) refl)
reply_right k p all fits seat (Open span cursor) r is = is ∙ rw (fits.horizon_at, fits.opened) refl
reply_right k p all fits seat (OpenInitial span cursor) r is = is ∙ rw (fits.horizon_at, fits.closed_at, fits.opened) refl
reply_right k p all fits seat (OpenEvery span cursor gap) r is = is ∙ rw (fits.horizon_at, fits.opened) refl
reply_right k p all fits seat (OpenInitialEvery span cursor gap) r is = is ∙ rw (fits.horizon_at, fits.closed_at, fits.opened) refl
reply_right k p all fits seat (Poll f max) r is = is.2 ∙ poll_answer k p all fits seat f max is.0 is.1
reply_right k p all fits seat (Cancel f) r is = is ∙ rw (refused_is k p all fits f, fits.feeds f) (without (place_with p f) (is_cancelled p f) (feed_of p f))
reply_right k p all fits seat Stats r is = is.6 ∙ rw (versions_count k p all fits is.0 is.3, undecided_count k p all fits is.1 is.4, feeds_count k p all fits is.2 is.5, fits.closed_at, fits.horizon_at) refl
