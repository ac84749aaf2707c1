-- Lives: what is there after each.
use Rattle.std.proofs.Common.{◌≡◌, ℕ, suc, ◌≤◌, true, false, List, [], ◌∷◌, ◌++◌, Option, Some, None, refl, sym, ◌∙◌, ap, subst, arith}
use Rattle.std.specs.Prelude.{nat_lt}
use Rattle.restarts.proofs.Common.{AllAllowed, Begin, BelowClosed, Close, CloseHard, Closed, Cmd, Collect, Collected, Collects, Commit, Committed, Del, Effect, Event, Put, Refused, Reply, Started, Written, answer_of, by_test, committed_version_of, common_steps, effect, effects_of, is_committed, left_version_of, legal_allowed, nat_tests}
use Rattle.restarts.proofs.Rebuilding.{none_at_zero}
use Rattle.journals.specs.Prelude.{Ended}
use Rattle.journals.specs.Recorded.{is_foreseen, recovered}
use Rattle.journals.specs.Batches.{AreInOrder, BeginsWith, Noted, did, events_of, is_empty, kept_part, last_record, lines_beyond, lines_of}
use Rattle.journals.specs.Copies.{Copy, IsCopied, copy_lines}
use Rattle.journals.specs.Law.{beginning}
use Rattle.journals.specs.Lives.{AreLives, CanCrash, IsStood, Life, all_synced, base_of, copied, copied_of, disk, disk_of, kept_of, noted, there}
use Rattle.journals.proofs.Copying.{copied_given, copied_left, given_of}
use Rattle.journals.proofs.Left.{all_left}
use Rattle.journals.proofs.Parting.{can_restart, kept_all, ordered_before, records_before}
use Rattle.journals.proofs.Recovering.{IsGiven, IsRecovered, recovery}
use Rattle.journals.proofs.Replaying.{Given, IsBelow, IsLeft, IsReplay, itself, none_given, none_replay, replayed}
use Rattle.journals.proofs.Running.{AreRight, ran, ran_append, right_append}

-- ---- a beginning

begin_ordered : (ns old : List Noted) → BeginsWith ns old → AreInOrder ns → AreInOrder old
begin_ordered ns old b ordered = ordered_before b.0 old (subst AreInOrder b.1 ordered)

begin_low : (ns old : List Noted) (k : ℕ) → BeginsWith ns old → AreInOrder ns → last_record ns ≤ k → last_record old ≤ k
begin_low ns old k b ordered low = records_before b.0 old k (subst AreInOrder b.1 ordered) (subst (λ ws. last_record ws ≤ k) b.1 low)

-- ---- the base

pub synced_events : (h : List Event) (k : ℕ) → events_of (all_synced h k) ≡ h
synced_events [] k = refl
synced_events (e ∷ h) k = ap (λ es. e ∷ es) (synced_events h k)

synced_low : (h : List Event) (k : ℕ) → last_record (all_synced h k) ≤ k
synced_low [] k = omega arith
synced_low (e ∷ h) k = by_test (is_empty (lines_of (record { event = e; batch = k }) (all_synced h k)))
    (λ is. rw is (synced_low h k))
    (λ isnt. rw isnt (omega arith))

pub base_low : (lines : List Cmd) (ls : List Life) → last_record (base_of lines ls) ≤ kept_of ls
base_low lines [] = omega arith
base_low lines (l ∷ ls) = synced_low (recovered lines l.mark) l.kept

-- without a copy the journal has all
none_is_given : (p : List Effect) → AllAllowed p → IsGiven none_given p
none_is_given p all = record { horizon = omega arith; reached = omega arith; left = λ x t under. absurd (omega (arith, under)); all = λ x t high. each x t }
  where
    each : (x : List ℕ) (t : ℕ) → committed_version_of p x t ≡ left_version_of (Collects 0 ∷ p) x t
    each x t = by_test (nat_lt 0 t)
        (λ some. sym (all_left (Collects 0 ∷ p) x t (grind (arith, nat_tests, some))))
        (λ none.
        let e : 0 ≡ t = grind (arith, nat_tests, none) in
        let new : is_committed p 0 ≡ false = none_at_zero p all in
        subst (λ i. committed_version_of p x i ≡ left_version_of (Collects 0 ∷ p) x i) e (rw new refl))

-- what is foreseen without a copy is so with one
foreseen_on : (from b : ℕ) (cmd : Cmd) (reply : Reply) → is_foreseen 0 0 cmd reply ≡ true → is_foreseen from b cmd reply ≡ true
foreseen_on from b (Begin t) Started is = refl
foreseen_on from b (Put t x v) Written is = refl
foreseen_on from b (Del t x) Written is = refl
foreseen_on from b (Commit t) (Committed keys) is = refl
foreseen_on from b (Begin t) (Refused (BelowClosed n)) is = absurd (grind (arith, nat_tests, is))
foreseen_on from b (Put t x v) (Refused Ended) is = absurd (grind (arith, nat_tests, is))
foreseen_on from b (Del t x) (Refused Ended) is = absurd (grind (arith, nat_tests, is))
foreseen_on from b (Commit t) (Refused Ended) is = absurd (grind (arith, nat_tests, is))
foreseen_on from b (Close n) (Closed at aborted) is = grind (arith, nat_tests, common_steps, is)
foreseen_on from b (CloseHard n) (Closed at aborted) is = is
foreseen_on from b (Collect n) (Collected at removed) is = grind (arith, nat_tests, common_steps, is)
foreseen_on from b cmd reply is = cc

right_on : (from b : ℕ) (q : List Effect) (lines : List Cmd) → AreRight 0 0 q lines → AreRight from b q lines
right_on from b q [] right = tt
right_on from b q (c ∷ cs) right = (foreseen_on from b c (answer_of q 0 c) right.0, right_on from b (effect 0 c (answer_of q 0 c) ∷ q) cs right.1)

-- ---- a life

-- what the next life begins with
pub record IsBegun (ls : List Life) : Type 0 where
  pub right : AreRight (copied ls).0 (copied ls).1 [] (disk ls)
  pub replay : IsReplay none_given (did (base_of (disk ls) ls)) (ran [] (disk ls))

pub record IsLived (l : Life) (ls : List Life) : Type 0 where
  pub recovered' : IsRecovered (did (kept_part l.kept (noted l ls))) (disk (l ∷ ls)) l.mark
  pub next : IsBegun (l ∷ ls)

-- a life by the lines that are left of it, and by what a copy gave
lived_by : (l : Life) (ls : List Life) (c : Given) → CanCrash (noted l ls) l.mark → AreRight (copied (l ∷ ls)).0 (copied (l ∷ ls)).1 [] (disk (l ∷ ls))
    → IsReplay c (did (kept_part l.kept (noted l ls))) (ran [] (disk (l ∷ ls))) → IsGiven c (did (kept_part l.kept (noted l ls))) → IsLived l ls
lived_by l ls c can right is given =
    let can' = can_restart (noted l ls) l.kept l.mark can in
    let below : IsBelow (did (kept_part l.kept (noted l ls))) l.mark = record { in_range = can'.in_range; closed = can'.closed; begun = can'.begun } in
    let r = recovery c (did (kept_part l.kept (noted l ls))) (disk (l ∷ ls)) l.mark (legal_allowed (beginning (noted l ls) l.kept) can'.legal) is below given in
    let q : List Effect = ran [] (disk (l ∷ ls)) in record {
      recovered' = r;
      next = record {
        right = right;
        replay = subst (λ p. IsReplay none_given p q) (sym (ap effects_of (synced_events (there l ls) l.kept) ∙ r.did)) (itself q l.mark is.quiet (omega (arith, is.closed, given.reached, below.closed)));
      };
    }

life : (l : Life) (ls : List Life) → AreLives (l ∷ ls) → IsBegun ls → IsLived l ls
life l ls are before = by_copy l.copy refl
  where
    all : AllAllowed (did (noted l ls))
    all = legal_allowed (events_of (noted l ls)) are.0.legal

    all_kept : AllAllowed (did (kept_part l.kept (noted l ls)))
    all_kept = legal_allowed (beginning (noted l ls) l.kept) (can_restart (noted l ls) l.kept l.mark are.0).legal

    below : IsBelow (did (noted l ls)) l.mark
    below = record { in_range = are.0.in_range; closed = are.0.closed; begun = are.0.begun }

    without : IsLeft none_given (did (kept_part l.kept (noted l ls))) (ran [] (disk ls)) (lines_beyond l.kept l.later (base_of (disk ls) ls))
    without = replayed none_given (ran [] (disk ls)) l.kept l.mark l.later (base_of (disk ls) ls) are.0.ordered all below (omega (arith, base_low (disk ls) ls, are.1)) before.replay

    behind : (c : Copy) → IsCopied (noted l ls) c l.kept → IsLeft (given_of c) (did (kept_part l.kept (noted l ls))) (ran [] (copy_lines c)) (lines_beyond l.kept c.later c.first)
    behind c is =
        let old : List Noted = c.taken c.to in
        let ordered : AreInOrder old = begin_ordered (noted l ls) old (is.taken c.to) are.0.ordered in
        let low : last_record c.first ≤ l.kept = begin_low old c.first l.kept (is.behind c.to) ordered (is.rests c.to) in
        let start = copied_left (noted l ls) c l.kept l.mark is all below in
        subst (λ ws. IsLeft (given_of c) (did (kept_part l.kept ws)) (ran [] (copy_lines c)) (lines_beyond l.kept c.later c.first)) (sym is.parts)
        (replayed (given_of c) (ran [] (copy_lines c)) l.kept l.mark c.later c.first (subst AreInOrder is.parts are.0.ordered) (subst (λ ws. AllAllowed (did ws)) is.parts all) (subst (λ ws. IsBelow (did ws) l.mark) is.parts below) low start.replay)

    by_copy : (o : Option Copy) → l.copy ≡ o → IsLived l ls
    by_copy None e =
        let more : List Cmd = lines_beyond l.kept l.later (base_of (disk ls) ls) in
        let lines : disk (l ∷ ls) ≡ disk ls ++ more = ap (λ o. disk_of l o (disk ls) (base_of (disk ls) ls)) e in
        let same : copied (l ∷ ls) ≡ copied ls = ap (λ o. copied_of o (copied ls)) e in
        lived_by l ls none_given are.0
        (subst (λ cs. AreRight (copied (l ∷ ls)).0 (copied (l ∷ ls)).1 [] cs) (sym lines) (subst (λ b. AreRight b.0 b.1 [] (disk ls ++ more)) (sym same)
        (right_append (copied ls).0 (copied ls).1 [] (disk ls) more before.right (right_on (copied ls).0 (copied ls).1 (ran [] (disk ls)) more without.right))))
        (subst (λ cs. IsReplay none_given (did (kept_part l.kept (noted l ls))) (ran [] cs)) (sym lines) (subst (IsReplay none_given (did (kept_part l.kept (noted l ls)))) (sym (ran_append [] (disk ls) more)) without.replay))
        (none_is_given (did (kept_part l.kept (noted l ls))) all_kept)
    by_copy (Some c) e =
        let is : IsCopied (noted l ls) c l.kept = subst (λ o. IsStood (noted l ls) o l.kept) e are.2 in
        let more : List Cmd = lines_beyond l.kept c.later c.first in
        let lines : disk (l ∷ ls) ≡ copy_lines c ++ more = ap (λ o. disk_of l o (disk ls) (base_of (disk ls) ls)) e in
        let same : copied (l ∷ ls) ≡ (suc c.to, c.horizon) = ap (λ o. copied_of o (copied ls)) e in
        let start = copied_left (noted l ls) c l.kept l.mark is all below in
        let run' = behind c is in
        lived_by l ls (given_of c) are.0
        (subst (λ cs. AreRight (copied (l ∷ ls)).0 (copied (l ∷ ls)).1 [] cs) (sym lines) (subst (λ b. AreRight b.0 b.1 [] (copy_lines c ++ more)) (sym same)
        (right_append (suc c.to) c.horizon [] (copy_lines c) more start.right run'.right)))
        (subst (λ cs. IsReplay (given_of c) (did (kept_part l.kept (noted l ls))) (ran [] cs)) (sym lines) (subst (IsReplay (given_of c) (did (kept_part l.kept (noted l ls)))) (sym (ran_append [] (copy_lines c) more)) run'.replay))
        (copied_given (noted l ls) c l.kept is (kept_part l.kept (noted l ls)) all_kept (λ t. kept_all (noted l ls) (c.taken t) l.kept (is.taken t) (is.rests t)))

begun_with : (ls : List Life) → AreLives ls → IsBegun ls
begun_with [] are = record { right = tt; replay = none_replay }
begun_with (l ∷ ls) are = (life l ls are (begun_with ls are.3)).next

pub lived : (l : Life) (ls : List Life) → AreLives (l ∷ ls) → IsLived l ls
lived l ls are = life l ls are (begun_with ls are.3)
