-- What survives is one legal history.
use Rattle.std.proofs.Common.{◌≡◌, ℕ, ◌<◌, ◌≤◌, Bool, true, false, cond, List, [], ◌∷◌, None, refl, sym, ◌∙◌, ap, subst, inl, inr, arith}
use Rattle.std.specs.Prelude.{is_some, nat_le}
use Rattle.restarts.proofs.Common.{Abort, Aborted, Aborts, AllAllowed, Allowed, BelowHorizon, Blocked, Cancel, Cancelled, Close, CloseHard, Closed, Cmd, Collect, Collected, Collects, Commit, Commits, Committed, Begin, Del, Effect, Event, Found, Get, IsLegal, IsRightEvent, Messages, NoEffect, NoMemory, Open, OpenEvery, OpenInitial, OpenInitialEvery, Opened, Poll, Polls, Protect, Protected, Put, ReadAt, Reads, Refused, Release, Released, Reply, Rows, Scan, ScanAt, Scans, SnapshotReads, SnapshotScans, Started, TooLate, Written, answer_of, both_ways, by_test, common_steps, effect, effect_of, effects_of, event, has, has_written, legal_allowed, nat_tests, none_of, write_of, write_set}
use Rattle.spans.specs.declared.calls.replies.Reply.TheVariants as replies
use Rattle.journals.specs.Recorded.{recorded}
use Rattle.journals.specs.Batches.{AreInOrder, Noted, commits_key, did, events_of, is_empty, last_commit, last_commit_of, last_record, lines_of, rests_by, rests_on}
use Rattle.journals.specs.OneHistory.{beyond, instead, is_wanting, survivors}
use Rattle.journals.proofs.Reading.{commit_low}
use Rattle.journals.proofs.Surviving.{IsPlain, IsSurviving, keep, leave, lose}
use Rattle.journals.proofs.Telling.{IsTold, told_same}

-- no commit of the key is lost
abbrev pub safe : ℕ → List Noted → List ℕ → Bool
safe k ns x = nat_le (last_commit_of ns x) k

abbrev pub note : ℕ → ℕ → ℕ → Cmd → Reply → Noted
note b pos seat cmd reply = record { event = event pos seat cmd reply; batch = b }

all_safe : (k : ℕ) (ns : List Noted) → AreInOrder ns → last_commit ns ≤ k → (x : List ℕ) → safe k ns x ≡ true
all_safe k ns ordered low x = grind (arith, nat_tests, commit_low ns ordered x, low)

one_safe : (k : ℕ) (ns : List Noted) (x : List ℕ) → last_commit_of ns x ≤ k → safe k ns x ≡ true
one_safe k ns x low = grind (arith, nat_tests, low)

-- beyond the first record that is lost, what doesn't rest on what is lost
told_of : (k b pos seat : ℕ) (ns : List Noted) (cmd : Cmd) (reply : Reply) → AreInOrder ns → rests_on (note b pos seat cmd reply) ns ≤ k → k < last_record (note b pos seat cmd reply ∷ ns) → IsTold (safe k ns) cmd reply
told_of k b pos seat ns (Get t x) (Found v) ordered low over = one_safe k ns x low
told_of k b pos seat ns (ReadAt t x) (Found v) ordered low over = one_safe k ns x low
told_of k b pos seat ns (Scan t span) (Rows rows) ordered low over = all_safe k ns ordered low
told_of k b pos seat ns (Scan t span) (Refused (Blocked n)) ordered low over = all_safe k ns ordered low
told_of k b pos seat ns (ScanAt t span) (Rows rows) ordered low over = all_safe k ns ordered low
told_of k b pos seat ns (Collect to) (Collected n m) ordered low over = absurd (omega (arith, low, over))
told_of k b pos seat ns (Poll f max) (Messages ms) ordered low over = absurd (omega (arith, low, over))
told_of k b pos seat ns cmd (replies.Stats v u f c h) ordered low over = absurd (omega (arith, low, over))
told_of k b pos seat ns cmd (Refused TooLate) ordered low over = absurd (omega (arith, low, over))
told_of k b pos seat ns cmd (Refused (BelowHorizon n)) ordered low over = absurd (omega (arith, low, over))
told_of k b pos seat ns cmd reply ordered low over = tt

no_keys : (p : List Effect) (t : ℕ) → is_empty (recorded p (Commits t)) ≡ true → (x : List ℕ) → write_of p t x ≡ None
no_keys p t empty x = by_keys (write_set p t) refl
  where
    by_keys : (keys : List (List ℕ)) → write_set p t ≡ keys → write_of p t x ≡ None
    by_keys [] e = none_of (write_of p t x) (sym (has_written p t x) ∙ ap (has x) e)
    by_keys (y ∷ ys) e = absurd (both_ways _ (rw e refl) empty)

pub plain_of : (k : ℕ) (n : Noted) (ns : List Noted) (d : Effect) → effect_of n.event ≡ d → AreInOrder ns → rests_by n ns d ≤ k → last_record (n ∷ ns) ≡ cond (is_empty (recorded (did ns) d)) (last_record ns) n.batch → k < last_record (n ∷ ns) → IsPlain (safe k ns) (did ns) d
plain_of k n ns (Collects m) e ordered low is over = absurd (omega (arith, low, over))
plain_of k n ns (Polls f max ms) e ordered low is over = absurd (omega (arith, low, is, over))
plain_of k n ns (Commits t) e ordered low is over = by_test (is_empty (lines_of n ns))
    (λ empty. no_keys (did ns) t (subst (λ d. is_empty (recorded (did ns) d) ≡ true) e empty))
    (λ some. let low' : n.batch ≤ k = rw some at low in let over' : k < n.batch = rw some at over in absurd (omega (arith, low', over')))
plain_of k n ns (Reads t x v) e ordered low is over = one_safe k ns x low
plain_of k n ns (Scans t span rows) e ordered low is over = all_safe k ns ordered low
plain_of k n ns (_) e ordered low is over = tt

-- what isn't lost commits nothing
none_commits : (f : List ℕ → Bool) (p : List Effect) (d : Effect) → IsPlain f p d → (x : List ℕ) → commits_key p x d ≡ false
none_commits f p (Commits t) plain x = ap is_some (plain x)
none_commits f p (_) plain x = refl

weaken : (f h : List ℕ → Bool) (p g : List Effect) → ((x : List ℕ) → h x ≡ true → f x ≡ true) → IsSurviving f p g → IsSurviving h p g
weaken f h p g less s = record { closed = s.closed; horizon = s.horizon; owner = s.owner; begun = s.begun; ended = s.ended; fewer = s.fewer; write = s.write; count = s.count; keys = s.keys; late = s.late; feed = s.feed; opened = s.opened; cancelled = s.cancelled; protections = s.protections; made = s.made; same = λ x t is. s.same x t (less x is) }

itself : (f : List ℕ → Bool) (p : List Effect) → IsSurviving f p p
itself f p = record { closed = refl; horizon = omega arith; owner = λ t. refl; begun = refl; ended = λ t. refl; fewer = λ t is. is; write = λ t x. refl; count = λ t. refl; keys = refl; late = λ x i is. is; feed = λ f. refl; opened = refl; cancelled = λ f. refl; protections = refl; made = refl; same = λ x t is w. refl }

-- who has committed, or wrote too late, might have aborted
commit_aborts : (f : List ℕ → Bool) (p g : List Effect) (seat t keys : ℕ) → IsSurviving f p g → Committed keys ≡ answer_of p seat (Commit t) → Aborted ≡ answer_of g seat (Abort t)
commit_aborts f p g seat t keys s is = grind (arith, common_steps, by_test, s.closed, s.owner t, s.ended t, is)

late_aborts : (f : List ℕ → Bool) (p g : List Effect) (seat t : ℕ) (x : List ℕ) (v : List ℕ) → IsSurviving f p g → Refused TooLate ≡ answer_of p seat (Put t x v) → Aborted ≡ answer_of g seat (Abort t)
late_aborts f p g seat t x v s is = grind (arith, common_steps, by_test, s.closed, s.owner t, s.ended t, is)

late_del_aborts : (f : List ℕ → Bool) (p g : List Effect) (seat t : ℕ) (x : List ℕ) → IsSurviving f p g → Refused TooLate ≡ answer_of p seat (Del t x) → Aborted ≡ answer_of g seat (Abort t)
late_del_aborts f p g seat t x s is = grind (arith, common_steps, by_test, s.closed, s.owner t, s.ended t, is)

-- out of memory does nothing
wanting_does_nothing : (seat : ℕ) (cmd : Cmd) → effect seat cmd (Refused NoMemory) ≡ NoEffect
wanting_does_nothing seat (Begin t) = refl
wanting_does_nothing seat (Put t x v) = refl
wanting_does_nothing seat (Del t x) = refl
wanting_does_nothing seat cmd = refl

is_wanted : (reply : Reply) → is_wanting reply ≡ true → reply ≡ Refused NoMemory
is_wanted (Refused NoMemory) is = refl
is_wanted reply is = cc

-- a right answer that isn't out of memory is the answer
right_is : (p : List Effect) (pos seat : ℕ) (cmd : Cmd) (reply : Reply) → IsRightEvent p (event pos seat cmd reply) → is_wanting reply ≡ false → reply ≡ answer_of p seat cmd
right_is p pos seat cmd reply right not' = elim right [ inl is ↦ is | inr lacks ↦ absurd (both_ways _ not' (ap is_wanting lacks.0)) ]

pub record IsBeyond (k : ℕ) (n : Noted) (ns : List Noted) (g : List Event) : Type 0 where
  pub legal : IsLegal (beyond k n ns g)
  pub surviving : IsSurviving (safe k (n ∷ ns)) (did (n ∷ ns)) (effects_of (beyond k n ns g))

-- what is left in the place of an event that isn't told
record IsInstead (k b pos seat : ℕ) (cmd : Cmd) (reply : Reply) (ns : List Noted) (g : List Event) : Type 0 where
  legal : IsLegal (instead g seat cmd reply)
  surviving : IsSurviving (safe k (note b pos seat cmd reply ∷ ns)) (did (note b pos seat cmd reply ∷ ns)) (effects_of (instead g seat cmd reply))

lost_safe : (k b : ℕ) (ns : List Noted) (p : List Effect) (t : ℕ) → k < b → (x : List ℕ) → nat_le (cond (is_some (write_of p t x)) b (last_commit_of ns x)) k ≡ true → (safe k ns x ≡ true) × (write_of p t x ≡ None)
lost_safe k b ns p t over x is = by_test (is_some (write_of p t x))
    (λ some. absurd (grind (arith, nat_tests, common_steps, some, is, over)))
    (λ none. (rw none at is, none_of (write_of p t x) none))

never_lost : (k : ℕ) → nat_le 0 k ≡ false → ⊥
never_lost k over = grind (arith, nat_tests, over)

instead_is : (k b pos seat : ℕ) (ns : List Noted) (g : List Event) (cmd : Cmd) (reply : Reply) → AllAllowed (did ns) → IsLegal g → IsSurviving (safe k ns) (did ns) (effects_of g)
    → Allowed (did ns) (effect seat cmd reply) → reply ≡ answer_of (did ns) seat cmd → nat_le (rests_on (note b pos seat cmd reply) ns) k ≡ false → IsInstead k b pos seat cmd reply ns g
instead_is k b pos seat ns g (Commit t) (Committed keys) all legal s allowed right over =
    let high : k < b = grind (arith, nat_tests, common_steps, over) in record {
      legal = (inl (commit_aborts (safe k ns) (did ns) (effects_of g) seat t keys s right), legal);
      surviving = lose (safe k ns) (safe k (note b pos seat (Commit t) (Committed keys) ∷ ns)) (did ns) (effects_of g) t s (lost_safe k b ns (did ns) t high);
    }
instead_is k b pos seat ns g (Put t x v) (Refused TooLate) all legal s allowed right over = record {
  legal = (inl (late_aborts (safe k ns) (did ns) (effects_of g) seat t x v s right), legal);
  surviving = keep (safe k ns) (did ns) (effects_of g) (Aborts t) all (legal_allowed g legal) allowed s tt;
}
instead_is k b pos seat ns g (Del t x) (Refused TooLate) all legal s allowed right over = record {
  legal = (inl (late_del_aborts (safe k ns) (did ns) (effects_of g) seat t x s right), legal);
  surviving = keep (safe k ns) (did ns) (effects_of g) (Aborts t) all (legal_allowed g legal) allowed s tt;
}
instead_is k b pos seat ns g (Get t x) (Found v) all legal s allowed right over = record { legal = legal; surviving = leave (safe k ns) (did ns) (effects_of g) (Reads t x v) allowed s tt }
instead_is k b pos seat ns g (Scan t span) (Rows rows) all legal s allowed right over = record { legal = legal; surviving = leave (safe k ns) (did ns) (effects_of g) (Scans t span rows) allowed s tt }
instead_is k b pos seat ns g (ReadAt t x) (Found v) all legal s allowed right over = record { legal = legal; surviving = leave (safe k ns) (did ns) (effects_of g) (SnapshotReads t x v) allowed s tt }
instead_is k b pos seat ns g (ScanAt t span) (Rows rows) all legal s allowed right over = record { legal = legal; surviving = leave (safe k ns) (did ns) (effects_of g) (SnapshotScans t span rows) allowed s tt }
instead_is k b pos seat ns g (Collect to) (Collected n m) all legal s allowed right over = record { legal = legal; surviving = leave (safe k ns) (did ns) (effects_of g) (Collects n) allowed s tt }
instead_is k b pos seat ns g (Poll f max) (Messages ms) all legal s allowed right over = record { legal = legal; surviving = leave (safe k ns) (did ns) (effects_of g) (Polls f max ms) allowed s tt }
instead_is k b pos seat ns g (Begin t) Started all legal s allowed right over = absurd (never_lost k over)
instead_is k b pos seat ns g (Put t x v) Written all legal s allowed right over = absurd (never_lost k over)
instead_is k b pos seat ns g (Del t x) Written all legal s allowed right over = absurd (never_lost k over)
instead_is k b pos seat ns g (Abort t) Aborted all legal s allowed right over = absurd (never_lost k over)
instead_is k b pos seat ns g (Close to) (Closed at n) all legal s allowed right over = absurd (never_lost k over)
instead_is k b pos seat ns g (CloseHard to) (Closed at n) all legal s allowed right over = absurd (never_lost k over)
instead_is k b pos seat ns g (Protect t) (Protected id) all legal s allowed right over = absurd (never_lost k over)
instead_is k b pos seat ns g (Release id) Released all legal s allowed right over = absurd (never_lost k over)
instead_is k b pos seat ns g (Open span c) (Opened f) all legal s allowed right over = absurd (never_lost k over)
instead_is k b pos seat ns g (OpenInitial span c) (Opened f) all legal s allowed right over = absurd (never_lost k over)
instead_is k b pos seat ns g (OpenEvery span c gap) (Opened f) all legal s allowed right over = absurd (never_lost k over)
instead_is k b pos seat ns g (OpenInitialEvery span c gap) (Opened f) all legal s allowed right over = absurd (never_lost k over)
instead_is k b pos seat ns g (Cancel f) Cancelled all legal s allowed right over = absurd (never_lost k over)
instead_is k b pos seat ns g cmd reply all legal s allowed right over = record { legal = legal; surviving = leave (safe k ns) (did ns) (effects_of g) NoEffect tt s tt }

beyond_is : (k b pos seat : ℕ) (ns : List Noted) (cmd : Cmd) (reply : Reply) (g : List Event) → AreInOrder ns → AllAllowed (did ns) → Allowed (did ns) (effect seat cmd reply) → IsRightEvent (did ns) (event pos seat cmd reply)
    → k < last_record (note b pos seat cmd reply ∷ ns) → IsLegal g → IsSurviving (safe k ns) (did ns) (effects_of g) → IsBeyond k (note b pos seat cmd reply) ns g
beyond_is k b pos seat ns cmd reply g ordered all allowed right over legal s = by_test (is_wanting reply)
    (λ want.
    let none : effect seat cmd reply ≡ NoEffect = ap (effect seat cmd) (is_wanted reply want) ∙ wanting_does_nothing seat cmd in
    record {
      legal = rw want legal;
      surviving = rw want (subst (λ d. IsSurviving (λ x. nat_le (cond (commits_key (did ns) x d) b (last_commit_of ns x)) k) (d ∷ did ns) (effects_of g)) (sym none) (leave (safe k ns) (did ns) (effects_of g) NoEffect tt s tt));
    })
    (λ not'.
    let is : reply ≡ answer_of (did ns) seat cmd = right_is (did ns) pos seat cmd reply right not' in
    by_test (nat_le (rests_on (note b pos seat cmd reply) ns) k)
    (λ kept.
    let low : rests_on (note b pos seat cmd reply) ns ≤ k = grind (arith, nat_tests, kept) in
    let told = told_of k b pos seat ns cmd reply ordered low over in
    let plain = plain_of k (note b pos seat cmd reply) ns (effect seat cmd reply) refl ordered low refl over in
    let now : reply ≡ answer_of (effects_of g) seat cmd = is ∙ sym (told_same (safe k ns) (did ns) (effects_of g) all (legal_allowed g legal) s seat cmd (subst (IsTold (safe k ns) cmd) is told)) in
    record {
      legal = rw (not', kept) (inl now, legal);
      surviving = rw (not', kept) (weaken (safe k ns) (safe k (note b pos seat cmd reply ∷ ns)) (effect seat cmd reply ∷ did ns) (effect seat cmd reply ∷ effects_of g)
          (λ x is'. rw (none_commits (safe k ns) (did ns) (effect seat cmd reply) plain x) at is')
          (keep (safe k ns) (did ns) (effects_of g) (effect seat cmd reply) all (legal_allowed g legal) allowed s plain));
    })
    (λ gone. let i = instead_is k b pos seat ns g cmd reply all legal s allowed is gone in record { legal = rw (not', gone) i.legal; surviving = rw (not', gone) i.surviving }))

pub record IsOne (k : ℕ) (ns : List Noted) : Type 0 where
  pub legal : IsLegal (survivors k ns)
  pub surviving : IsSurviving (safe k ns) (did ns) (effects_of (survivors k ns))

pub one : (k : ℕ) (ns : List Noted) → AreInOrder ns → IsLegal (events_of ns) → IsOne k ns
one k [] ordered legal = record { legal = tt; surviving = itself (safe k []) [] }
one k (n ∷ ns) ordered legal = by_test (nat_le (last_record (n ∷ ns)) k)
    (λ whole. record { legal = rw whole legal; surviving = rw whole (itself (safe k (n ∷ ns)) (did (n ∷ ns))) })
    (λ lost.
    let before = one k ns ordered.1 legal.1 in
    let all = legal_allowed (events_of (n ∷ ns)) legal in
    let over : k < last_record (n ∷ ns) = grind (arith, nat_tests, lost) in
    let b = beyond_is k n.batch n.event.position n.event.seat ns n.event.cmd n.event.reply (survivors k ns) ordered.1 all.1 all.0 legal.0 over before.legal before.surviving in
    record { legal = rw lost b.legal; surviving = rw lost b.surviving })
