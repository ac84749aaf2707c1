-- What is kept changes as it does with its numbers shifted.
use Rattle.restarts.proofs.Common.{Abort, Aborted, Aborts, After, AllAllowed, Allowed, Begin, Begins, Cancel, Cancelled, Cancels, Close, CloseHard, Closed, Closes, Cmd, Collect, Collected, Collects, Commit, Commits, Committed, Del, Effect, Event, Found, Get, HardCloses, IsChangedBy, IsKeptOf, IsRightEvent, Kept, Kind, Messages, NoEffect, Open, OpenEvery, OpenInitial, OpenInitialEvery, Opened, Opens, Place, Poll, Polls, Protect, Protected, Protection, Protects, Put, ReadAt, Reads, Refused, Release, Released, Releases, Reply, Rows, Scan, ScanAt, Scans, SnapshotReads, SnapshotScans, Span, StandsFor, Started, Stats, TooLate, Transaction, Writes, Written, by_test, changed_stands, closed_of, common_steps, effect, effect_of, effects_of, eqb-true, in_span, is_dead_in, is_open, key_itself, legal_allowed, moved, nat_tests, new_transaction, or_cases, or_left, or_right, right_allowed, seen, start_at}
use Rattle.std.proofs.Common.{◌≡◌, ℕ, zero, suc, ◌+◌, ◌-◌, ◌<◌, ◌==◌, Bool, true, false, not, cond, ◌&&◌, ◌||◌, List, ◌∷◌, map, Option, Some, None, refl, sym, ap, subst, inl, inr, arith}
use Rattle.std.specs.Prelude.{bytes_eq, filter, nat_le, nat_lt, option_map}
use Rattle.spans.specs.declared.state.State.{State}
use Rattle.spans.specs.declared.state.State.TheVariants as states
use Rattle.kept.proofs.AfterReads.{Marked, after_reads, after_scans, other_seen, own_seen}
use Rattle.kept.proofs.Marking.{added}
use Rattle.kept.proofs.Staying.{alike_self}
use Rattle.restarts.specs.Restart.{number_from, renumbered_cmd, renumbered_reply}
use Rattle.restarts.proofs.Shifting.{released_same, shifted, shifted_protection}

-- an effect with its numbers shifted
abbrev pub shifted_effect : (n m : ℕ) → Effect → Effect
shifted_effect n m (Protects id t) = Protects (number_from m id) t
shifted_effect n m (Releases id) = Releases (number_from m id)
shifted_effect n m (Opens f seat kind span cursor) = Opens (number_from n f) seat kind span cursor
shifted_effect n m (Polls f max ms) = Polls (number_from n f) max ms
shifted_effect n m (Cancels f) = Cancels (number_from n f)
shifted_effect n m d = d

-- a renumbered command with its reply has it
pub effect_same : (n m seat : ℕ) (cmd : Cmd) (reply : Reply) → effect seat (renumbered_cmd n m cmd) (renumbered_reply n m reply) ≡ shifted_effect n m (effect seat cmd reply)
effect_same n m seat (Begin t) Started = refl
effect_same n m seat (Get t x) (Found v) = refl
effect_same n m seat (Scan t span) (Rows rows) = refl
effect_same n m seat (Put t x v) Written = refl
effect_same n m seat (Put t x v) (Refused TooLate) = refl
effect_same n m seat (Del t x) Written = refl
effect_same n m seat (Del t x) (Refused TooLate) = refl
effect_same n m seat (Commit t) (Committed keys) = refl
effect_same n m seat (Abort t) Aborted = refl
effect_same n m seat (Close to) (Closed at aborted) = refl
effect_same n m seat (CloseHard to) (Closed at aborted) = refl
effect_same n m seat (ReadAt t x) (Found v) = refl
effect_same n m seat (ScanAt t span) (Rows rows) = refl
effect_same n m seat (Protect t) (Protected id) = refl
effect_same n m seat (Release id) Released = refl
effect_same n m seat (Collect to) (Collected horizon removed) = refl
effect_same n m seat (Open span cursor) (Opened feed) = refl
effect_same n m seat (OpenInitial span cursor) (Opened feed) = refl
effect_same n m seat (OpenEvery span cursor gap) (Opened feed) = refl
effect_same n m seat (OpenInitialEvery span cursor gap) (Opened feed) = refl
effect_same n m seat (Poll feed max) (Messages ms) = refl
effect_same n m seat (Cancel feed) Cancelled = refl
effect_same n m seat Stats (Opened feed) = refl
effect_same n m seat cmd reply = refl

-- ---- what an effect changes

-- what is kept changes by the effect, and with shifted numbers by that with shifted numbers
pub record IsTwinChange (n m : ℕ) (k : Kept) (d : Effect) : Type 0 where
  pub next : Kept
  pub one : IsChangedBy k next d
  pub other : IsChangedBy (shifted n m k) (shifted n m next) (shifted_effect n m d)

-- a number above n is another's number after n
number_match : (n f g : ℕ) → n < g → (number_from n f == g) ≡ (f == g - n)
number_match n zero g above = grind (arith, nat_tests)
number_match n (suc f) g above = grind (arith, nat_tests)

-- a change at one number, and at the number after n
placed_alike : (n m : ℕ) (k : Kept) (change : Option Place → Option Place) → change None ≡ None → (f g : ℕ)
    → cond (nat_le g n) None (cond (f == g - n) (change (k.feed (g - n))) (k.feed (g - n))) ≡ cond (number_from n f == g) (change ((shifted n m k).feed g)) ((shifted n m k).feed g)
placed_alike n m k change none f g = grind (arith, common_steps, nat_tests, number_match n f g, none)

abbrev opened_place : ℕ → Kind → Span → ℕ → Place
opened_place seat kind span cursor = record { seat = seat; kind = kind; span = span; cursor = cursor; after = start_at kind cursor; row = None }

-- the transaction of t is decided
abbrev ends : ℕ → State → Kept → ℕ → Option Transaction
ends t state k i = cond (t == i) (option_map (λ (w : Transaction). record w { state = state }) (k.transaction i)) (k.transaction i)

pub twin_change : (n m : ℕ) (k : Kept) (d : Effect) → ((f seat : ℕ) (kind : Kind) (span : Span) (cursor : ℕ) → d ≡ Opens f seat kind span cursor → 0 < f)
    → ((j : ℕ) (x : List ℕ) (v : After) → d ≡ Reads j x v → ⊥) → ((j : ℕ) (span : Span) (rows : List (List ℕ × List ℕ)) → d ≡ Scans j span rows → ⊥) → IsTwinChange n m k d
twin_change n m k (Begins t seat) some no_read no_scan = record {
  next = record k { transaction = λ i. cond (t == i) (Some (new_transaction seat)) (k.transaction i) };
  one = grind (arith, common_steps);
  other = grind (arith, common_steps);
}
twin_change n m k (Reads j x v) some no_read no_scan = absurd (no_read j x v refl)
twin_change n m k (Scans j span rows) some no_read no_scan = absurd (no_scan j span rows refl)
twin_change n m k (Writes t x a) some no_read no_scan = record {
  next = record k { version = λ y i. cond ((t == i) && bytes_eq x y) (Some a) (k.version y i); committed = λ y i. cond ((t == i) && bytes_eq x y) false (k.committed y i) };
  one = grind (arith, common_steps);
  other = grind (arith, common_steps);
}
twin_change n m k (Commits t) some no_read no_scan = record {
  next = record k { committed = λ y i. (t == i) || k.committed y i; transaction = ends t states.Committed k };
  one = grind (arith, common_steps);
  other = grind (arith, common_steps);
}
twin_change n m k (Aborts t) some no_read no_scan = record {
  next = record k { version = λ y i. cond (t == i) None (k.version y i); transaction = ends t states.Aborted k };
  one = grind (arith, common_steps);
  other = grind (arith, common_steps);
}
twin_change n m k (Closes at) some no_read no_scan = record {
  next = record k { closed = at; marked = λ y j. nat_lt at j && k.marked y j; transaction = λ i. cond (nat_lt at i) (k.transaction i) None };
  one = grind (arith, common_steps);
  other = grind (arith, common_steps);
}
twin_change n m k (HardCloses to at) some no_read no_scan = record {
  next = record k {
    closed = at;
    version = λ y i. cond (nat_le i to && is_open (k.transaction i)) None (k.version y i);
    marked = λ y j. nat_lt at j && k.marked y j;
    transaction = λ i. cond (nat_lt at i) (k.transaction i) None;
  };
  one = grind (arith, common_steps);
  other = grind (arith, common_steps);
}
twin_change n m k (Protects id t) some no_read no_scan = record {
  next = record k { protections = record { id = id; at = t } ∷ k.protections; protections_made = suc k.protections_made };
  one = refl;
  other = ap (λ i. record (shifted n m k) { protections = record { id = number_from m id; at = t } ∷ map (shifted_protection m) k.protections; protections_made = i }) (let e : m + suc k.protections_made ≡ suc (m + k.protections_made) = omega arith in e);
}
twin_change n m k (Releases id) some no_read no_scan = record {
  next = record k { protections = filter (λ (w : Protection). not (w.id == id)) k.protections };
  one = refl;
  other = ap (λ ns. record (shifted n m k) { protections = ns }) (released_same m id k.protections);
}
twin_change n m k (Collects to) some no_read no_scan = record {
  next = record k { horizon = to; version = λ y i. cond (is_dead_in k to y i) None (k.version y i) };
  one = grind (arith, common_steps);
  other = grind (arith, common_steps);
}
twin_change n m k (Opens f seat kind span cursor) some no_read no_scan =
    let place : Place = opened_place seat kind span cursor in
    let next : Kept = record k { feed = λ g. cond (f == g) (Some place) (k.feed g); feeds_opened = suc k.feeds_opened } in record {
      next = next;
      one = record { feed = λ g. refl; rest = refl };
      other = record {
        feed = λ g. by_test (nat_le g n)
            (λ low. let other : (number_from n f == g) ≡ false = past g (some f seat kind span cursor refl) low in rw (low, other) refl)
            (λ high. let above : n < g = grind (arith, nat_tests) in rw (high, number_match n f g above) refl);
        rest = ap (λ i. record (shifted n m k) { feed = (shifted n m next).feed; feeds_opened = i }) (let e : n + suc k.feeds_opened ≡ suc (n + k.feeds_opened) = omega arith in e);
      };
    }
  where
    past : (g : ℕ) → 0 < f → nat_le g n ≡ true → (number_from n f == g) ≡ false
    past g above low = by_number f above
      where
        by_number : (f : ℕ) → 0 < f → (number_from n f == g) ≡ false
        by_number zero above = absurd (omega (arith, above))
        by_number (suc f) above = grind (arith, nat_tests, low)
twin_change n m k (Polls f max ms) some no_read no_scan = record {
  next = record k { feed = λ g. cond (f == g) (option_map (moved ms) (k.feed g)) (k.feed g) };
  one = record { feed = λ g. refl; rest = refl };
  other = record { feed = placed_alike n m k (option_map (moved ms)) refl f; rest = refl };
}
twin_change n m k (Cancels f) some no_read no_scan = record {
  next = record k { feed = λ g. cond (f == g) None (k.feed g) };
  one = record { feed = λ g. refl; rest = refl };
  other = record { feed = placed_alike n m k (λ o. None) refl f; rest = refl };
}
twin_change n m k d some no_read no_scan = record { next = k; one = alike_self k; other = alike_self (shifted n m k) }

-- ---- reads

-- a reader is marked, unless it found its own version
abbrev marks_after : Kept → ℕ → (List ℕ → Bool) → List ℕ → ℕ → Bool
marks_after k j read y i = (read y && (not ((seen k y j).ts == j) && (j == i))) || k.marked y i

read_marks : (k : Kept) (p : List Effect) → AllAllowed p → IsKeptOf k p → (j : ℕ) (read : List ℕ → Bool) (y : List ℕ) → closed_of p < j → read y ≡ true → Marked p y j (k.marked y) (marks_after k j read y)
read_marks k p all fits j read y above is = by_test ((seen k y j).ts == j)
    (λ own. inl (own_seen k p all fits y j above (eqb-true _ _ own), λ i. rw (is, own) refl))
    (λ other. inr (
      other_seen k p all fits y j above other,
      j,
      j,
      λ i _ low high. absurd (omega (arith, low, high)),
      grind (arith, common_steps, added, or_cases, eqb-true, or_left, or_right),
    ))

unread_marks : (k : Kept) (j : ℕ) (read : List ℕ → Bool) (y : List ℕ) → read y ≡ false → (i : ℕ) → marks_after k j read y i ≡ k.marked y i
unread_marks k j read y isnt i = rw isnt refl

reads_stand : (k : Kept) (h : List Event) (e : Event) (j : ℕ) (x : List ℕ) (v : After) → StandsFor k h → IsRightEvent (effects_of h) e → effect_of e ≡ Reads j x v → StandsFor (record k { marked = marks_after k j (bytes_eq x) }) (e ∷ h)
reads_stand k h e j x v stands right is =
    let p : List Effect = effects_of h in
    let all = legal_allowed h stands.legal in
    let allowed : Allowed p (Reads j x v) = subst (Allowed p) is (right_allowed p e right) in record {
      legal = (right, stands.legal);
      fits = subst (λ d. IsKeptOf (record k { marked = marks_after k j (bytes_eq x) }) (d ∷ p)) (sym is)
          (after_reads k p all stands.fits j x v allowed (marks_after k j (bytes_eq x)) (λ y other i. unread_marks k j (bytes_eq x) y other i) (read_marks k p all stands.fits j (bytes_eq x) x allowed.0.above (key_itself x)));
    }

scans_stand : (k : Kept) (h : List Event) (e : Event) (j : ℕ) (span : Span) (rows : List (List ℕ × List ℕ)) → StandsFor k h → IsRightEvent (effects_of h) e → effect_of e ≡ Scans j span rows → StandsFor (record k { marked = marks_after k j (in_span span) }) (e ∷ h)
scans_stand k h e j span rows stands right is =
    let p : List Effect = effects_of h in
    let all = legal_allowed h stands.legal in
    let allowed : Allowed p (Scans j span rows) = subst (Allowed p) is (right_allowed p e right) in record {
      legal = (right, stands.legal);
      fits = subst (λ d. IsKeptOf (record k { marked = marks_after k j (in_span span) }) (d ∷ p)) (sym is)
          (after_scans k p all stands.fits j span rows allowed (marks_after k j (in_span span)) (λ y out i. unread_marks k j (in_span span) y out i) (λ y inside. read_marks k p all stands.fits j (in_span span) y allowed.0.above inside));
    }

-- ---- one event more

-- what is kept of two histories is the same, but for the numbers of feeds and protections
pub record AreTwins (n m : ℕ) (h h' : List Event) : Type 0 where
  pub kept : Kept
  pub one : StandsFor kept h
  pub other : StandsFor (shifted n m kept) h'

pub twin_step : (n m : ℕ) (h h' : List Event) (e e' : Event) → AreTwins n m h h' → IsRightEvent (effects_of h) e → IsRightEvent (effects_of h') e' → (d : Effect) → effect_of e ≡ d → effect_of e' ≡ shifted_effect n m d → AreTwins n m (e ∷ h) (e' ∷ h')
twin_step n m h h' e e' twins right right' (Reads j x v) is is' = record { kept = record twins.kept { marked = marks_after twins.kept j (bytes_eq x) }; one = reads_stand twins.kept h e j x v twins.one right is; other = reads_stand (shifted n m twins.kept) h' e' j x v twins.other right' is' }
twin_step n m h h' e e' twins right right' (Scans j span rows) is is' = record { kept = record twins.kept { marked = marks_after twins.kept j (in_span span) }; one = scans_stand twins.kept h e j span rows twins.one right is; other = scans_stand (shifted n m twins.kept) h' e' j span rows twins.other right' is' }
twin_step n m h h' e e' twins right right' (Opens f seat kind span cursor) is is' =
    let some : 0 < f = (let allowed : Allowed (effects_of h) (Opens f seat kind span cursor) = subst (Allowed (effects_of h)) is (right_allowed (effects_of h) e right) in omega (arith, allowed.0)) in
    let c = twin_change n m twins.kept (Opens f seat kind span cursor) (λ g s k q c same. let at : f ≡ g = cc in omega (arith, some, at)) (λ j x v same. cc) (λ j q rows same. cc) in
    record { kept = c.next; one = changed_stands twins.kept c.next h e (Opens f seat kind span cursor) twins.one right is c.one; other = changed_stands (shifted n m twins.kept) (shifted n m c.next) h' e' (Opens (number_from n f) seat kind span cursor) twins.other right' is' c.other }
twin_step n m h h' e e' twins right right' d is is' =
    let c = twin_change n m twins.kept d (λ g s k q c same. cc) (λ j x v same. cc) (λ j q rows same. cc) in
    record { kept = c.next; one = changed_stands twins.kept c.next h e d twins.one right is c.one; other = changed_stands (shifted n m twins.kept) (shifted n m c.next) h' e' (shifted_effect n m d) twins.other right' is' c.other }
