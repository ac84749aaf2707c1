-- What is kept of a crash: the versions that are left, and how many feeds and protections there have been.
use Rattle.restarts.proofs.Common.{After, AllAllowed, Begins, Cancel, Cancelled, CloseHard, Cmd, Effect, Event, HardCloses, Has, IsAlike, IsChangedBy, IsCrossed, IsKeptOf, IsReplyOf, Kept, LiveFeed, MAX, NoProtection, Place, Protection, Reads, Refused, Release, Released, Reply, Scans, StandsFor, alike_stands, answer_of, both_ways, by_test, cancel_reply, closed_of, common_steps, effect, effect_of, effects_of, event, feed_refusal, feeds_opened, has_filter, has_live, is_aborted, is_committed, left_version_of, legal_allowed, list_any, live_feeds, nat_tests, no_kept, none_of, not_both, or_parts, owner_of, place_of, protections_made, protections_of, release_reply, reply_is_answer, step_stands, too_late, version_of, write_of}
use Rattle.std.proofs.Common.{◌≡◌, ℕ, ◌<◌, ◌≤◌, ◌==◌, Bool, true, false, not, cond, ◌&&◌, ◌||◌, List, [], ◌∷◌, ◌++◌, length, map, Option, Some, None, refl, sym, ◌∙◌, ap, subst, inl, inr, arith}
use Rattle.std.specs.Prelude.{filter, is_some, max, nat_le, nat_lt, ◌⊎◌}
use Rattle.spans.proofs.Closed.{wrote_begun}
use Rattle.restarts.specs.Running.{crash, run}
use Rattle.restarts.specs.Restart.{CanRestart}
use Rattle.restarts.proofs.Rebuilding.{left_kept, none_left}

-- commands one after the other
pub run_append : (h : List Event) (xs ys : List Cmd) → run h (xs ++ ys) ≡ run (run h xs) ys
run_append h [] ys = refl
run_append h (x ∷ xs) ys = run_append (event (length h) 0 x (answer_of (effects_of h) 0 x) ∷ h) xs ys

-- a command with its answer, by what is kept
pub answered_stands : (k k' : Kept) (h : List Event) (n seat : ℕ) (cmd : Cmd) (r : Reply) → StandsFor k h → IsReplyOf k seat cmd r → IsChangedBy k k' (effect seat cmd r) → StandsFor k' (event n seat cmd (answer_of (effects_of h) seat cmd) ∷ h)
answered_stands k k' h n seat cmd r stands is change =
    subst (λ a. StandsFor k' (event n seat cmd a ∷ h)) (reply_is_answer k h seat cmd r stands is) (step_stands k k' h n seat cmd r stands (inl (record { right = is; change = change })))

-- ---- the hard closing

-- what is kept once it is closed
abbrev pub cut_kept : List Effect → ℕ → Kept
cut_kept p m = record (left_kept p m) { protections = protections_of p; protections_made = protections_made p; feed = place_of p; feeds_opened = feeds_opened p }

-- whoever has begun lies at or below m
abbrev pub BegunBelow : List Effect → ℕ → Type 0
BegunBelow p m = (t : ℕ) → is_some (owner_of p t) ≡ true → t ≤ m

-- before an event too
begun_before : (p : List Effect) (k seat m : ℕ) → BegunBelow (Begins k seat ∷ p) m → BegunBelow p m
begun_before p k seat m begun t is = begun t (grind (arith, common_steps, is))

-- so no write above m is too late
none_late : (p : List Effect) (m : ℕ) → AllAllowed p → BegunBelow p m → (x : List ℕ) (i : ℕ) → m < i → too_late p x i ≡ true → ⊥
none_late [] m all begun x i above is = cc
none_late (Begins k seat ∷ p) m all begun x i above is = none_late p m all.1 (begun_before p k seat m begun) x i above is
none_late (Reads j y v ∷ p) m all begun x i above is = grind (arith, common_steps, none_late p m all.1 begun x i above)
none_late (Scans j span rows ∷ p) m all begun x i above is = grind (arith, common_steps, none_late p m all.1 begun x i above)
none_late (_ ∷ p) m all begun x i above is = none_late p m all.1 begun x i above is

-- of what didn't commit no version stands any more
cut_version : (p : List Effect) (m : ℕ) → AllAllowed p → BegunBelow p m → (x : List ℕ) (t : ℕ) → is_committed p t ≡ false → version_of (HardCloses m m ∷ p) x t ≡ None
cut_version p m all begun x t open' = grind (arith, common_steps, nat_tests, begun t, wrote_begun p all t x, open')

cut_is_kept : (p : List Effect) (m : ℕ) → AllAllowed p → BegunBelow p m → IsKeptOf (cut_kept p m) (HardCloses m m ∷ p)
cut_is_kept p m all begun = record {
  closed_at = refl;
  horizon_at = refl;
  versions = λ x t. by_test (is_committed p t)
      (λ done. grind (arith, common_steps, not_both p all t done, done))
      (λ undone. none_left p x t undone ∙ sym (no_kept (HardCloses m m ∷ p) x t (cut_version p m all begun x t undone)));
  committed = λ x t a is. grind (arith, common_steps, none_left p x t, is);
  marks = λ x i above fresh. (λ late. absurd (none_late p m all begun x i above late), λ (c : IsCrossed (λ n. false) (left_version_of p x) i). let no' : false ≡ true = c.mark in cc);
  forgotten = λ x j (is : false ≡ true). cc;
  transactions = λ t. grind (arith, common_steps, nat_tests, begun t, none_of);
  protected = refl;
  made = refl;
  feeds = λ f. refl;
  opened = refl;
}

-- the history with the hard closing
cut_stands : (h : List Event) (m : ℕ) → CanRestart h m → StandsFor (cut_kept (effects_of h) m) (run h (CloseHard m ∷ []))
cut_stands h m can =
    let p : List Effect = effects_of h in
    let in' : nat_lt MAX m ≡ false = grind (arith, nat_tests, can.in_range) in
    let top : max (closed_of p) m ≡ m = omega (arith, can.closed) in
    let cuts : effect_of (event (length h) 0 (CloseHard m) (answer_of p 0 (CloseHard m))) ≡ HardCloses m m = rw (in', top) refl in
    record {
      legal = (inl refl, can.legal);
      fits = subst (λ d. IsKeptOf (cut_kept p m) (d ∷ p)) (sym cuts) (cut_is_kept p m (legal_allowed h can.legal) can.begun);
    }

-- ---- the cancellations

-- other feeds that are the same ones
feeds_alike : (k : Kept) (φ : ℕ → Option Place) → ((g : ℕ) → φ g ≡ k.feed g) → IsAlike k (record k { feed = φ })
feeds_alike k φ same = record { closed = refl; horizon = refl; version = λ y i. refl; committed = λ y i b e. refl; marked = λ y n. refl; transaction = λ i. refl; protections = refl; protections_made = refl; feed = same; feeds_opened = refl }

-- protections likewise
protections_alike : (k : Kept) (ns : List Protection) → ns ≡ k.protections → IsAlike k (record k { protections = ns })
protections_alike k ns same = record { closed = refl; horizon = refl; version = λ y i. refl; committed = λ y i b e. refl; marked = λ y n. refl; transaction = λ i. refl; protections = same; protections_made = refl; feed = λ f. refl; feeds_opened = refl }

abbrev pub cancelled_one : Kept → ℕ → Kept
cancelled_one k f = record k { feed = λ g. cond (f == g) None (k.feed g) }

abbrev pub cancelled_all : Kept → List LiveFeed → Kept
cancelled_all k [] = k
cancelled_all k (w ∷ ws) = cancelled_all (cancelled_one k w.number) ws

cancel_stands : (k : Kept) (h : List Event) (n f : ℕ) → StandsFor k h → StandsFor (cancelled_one k f) (event n 0 (Cancel f) (answer_of (effects_of h) 0 (Cancel f)) ∷ h)
cancel_stands k h n f stands = answered_stands k (cancelled_one k f) h n 0 (Cancel f) (cancel_reply k f) stands refl (by_feed (k.feed f) refl)
  where
    by_feed : (o : Option Place) → k.feed f ≡ o → IsChangedBy k (cancelled_one k f) (effect 0 (Cancel f) (cond (is_some o) Cancelled (Refused (feed_refusal k f))))
    by_feed (Some place) e = record { feed = λ g. refl; rest = refl }
    by_feed None e = feeds_alike k (cancelled_one k f).feed (λ g. by_test (f == g)
        (λ same. let at : f ≡ g = grind (arith, nat_tests) in rw same (sym (subst (λ n. k.feed n ≡ None) at e)))
        (λ other. rw other refl))

cancels_stand : (k : Kept) (h : List Event) (ws : List LiveFeed) → StandsFor k h → StandsFor (cancelled_all k ws) (run h (map (λ (n : LiveFeed). Cancel n.number) ws))
cancels_stand k h [] stands = stands
cancels_stand k h (w ∷ ws) stands = cancels_stand (cancelled_one k w.number) (event (length h) 0 (Cancel w.number) (answer_of (effects_of h) 0 (Cancel w.number)) ∷ h) ws (cancel_stands k h (length h) w.number stands)

cancelled_is : (k : Kept) (ws : List LiveFeed) → cancelled_all k ws ≡ record k { feed = (cancelled_all k ws).feed }
cancelled_is k [] = refl
cancelled_is k (w ∷ ws) = cancelled_is (cancelled_one k w.number) ws

cancelled_gone : (k : Kept) (ws : List LiveFeed) (f : ℕ) → (k.feed f ≡ None) ⊎ Has f (map (λ (n : LiveFeed). n.number) ws) → (cancelled_all k ws).feed f ≡ None
cancelled_gone k [] f gone = elim gone [ inl none ↦ none | inr there ↦ absurd there ]
cancelled_gone k (w ∷ ws) f gone = cancelled_gone (cancelled_one k w.number) ws f (grind (arith, common_steps))

-- ---- the releases

abbrev pub released_one : Kept → ℕ → Kept
released_one k id = record k { protections = filter (λ (n : Protection). not (n.id == id)) k.protections }

abbrev pub released_all : Kept → List Protection → Kept
released_all k [] = k
released_all k (w ∷ ws) = released_all (released_one k w.id) ws

-- what isn't there isn't missed
none_filtered : (id : ℕ) (ns : List Protection) → list_any (λ (n : Protection). n.id == id) ns ≡ false → filter (λ (n : Protection). not (n.id == id)) ns ≡ ns
none_filtered id [] none = refl
none_filtered id (n ∷ ns) none = grind (arith, common_steps, or_parts, none, none_filtered id ns)

release_stands : (k : Kept) (h : List Event) (n id : ℕ) → StandsFor k h → StandsFor (released_one k id) (event n 0 (Release id) (answer_of (effects_of h) 0 (Release id)) ∷ h)
release_stands k h n id stands = answered_stands k (released_one k id) h n 0 (Release id) (release_reply k id) stands refl (by_test (list_any (λ (n : Protection). n.id == id) k.protections)
    (λ is. rw is refl)
    (λ isnt. rw isnt (protections_alike k (released_one k id).protections (none_filtered id k.protections isnt))))

releases_stand : (k : Kept) (h : List Event) (ws : List Protection) → StandsFor k h → StandsFor (released_all k ws) (run h (map (λ (n : Protection). Release n.id) ws))
releases_stand k h [] stands = stands
releases_stand k h (w ∷ ws) stands = releases_stand (released_one k w.id) (event (length h) 0 (Release w.id) (answer_of (effects_of h) 0 (Release w.id)) ∷ h) ws (release_stands k h (length h) w.id stands)

released_is : (k : Kept) (ws : List Protection) → released_all k ws ≡ record k { protections = (released_all k ws).protections }
released_is k [] = refl
released_is k (w ∷ ws) = released_is (released_one k w.id) ws

-- where each number is released nothing is left
released_gone : (k : Kept) (ws : List Protection) → ((n : Protection) → Has n k.protections → Has n.id (map (λ (w : Protection). w.id) ws)) → (released_all k ws).protections ≡ []
released_gone k [] all = by_list k.protections all
  where
    by_list : (ns : List Protection) → ((n : Protection) → Has n ns → ⊥) → ns ≡ []
    by_list [] none = refl
    by_list (n ∷ ns) none = absurd (none n (inl refl))
released_gone k (w ∷ ws) all = released_gone (released_one k w.id) ws (λ n i. grind (arith, common_steps, nat_tests, (has_filter (λ (n : Protection). not (n.id == w.id)) n k.protections).0 i, all n))

numbers_of : (n : Protection) (ns : List Protection) → Has n ns → Has n.id (map (λ (w : Protection). w.id) ns)
numbers_of n [] i = absurd i
numbers_of n (m ∷ ns) i = grind (arith, common_steps, i, numbers_of n ns)

-- ---- all of it

-- what is kept of a crash: what is kept of the dump, but for how many feeds and protections there have been
abbrev pub crashed : List Effect → ℕ → Kept
crashed p m = record (left_kept p m) { protections_made = protections_made p; feeds_opened = feeds_opened p }

pub crash_stands : (h : List Event) (m : ℕ) → CanRestart h m → StandsFor (crashed (effects_of h) m) (crash h m)
crash_stands h m can =
    let p : List Effect = effects_of h in
    let all = legal_allowed h can.legal in
    let k : Kept = cut_kept p m in
    let cut : StandsFor k (run h (CloseHard m ∷ [])) = cut_stands h m can in
    let k' : Kept = cancelled_all k (live_feeds p) in
    let cancels : List Cmd = map (λ (n : LiveFeed). Cancel n.number) (live_feeds p) in
    let releases : List Cmd = map (λ (n : Protection). Release n.id) (protections_of p) in
    let cancelled : StandsFor k' (run (run h (CloseHard m ∷ [])) cancels) = cancels_stand k (run h (CloseHard m ∷ [])) (live_feeds p) cut in
    let released = releases_stand k' (run (run h (CloseHard m ∷ [])) cancels) (protections_of p) cancelled in
    let is = cancelled_is k (live_feeds p) in
    let is' = released_is k' (protections_of p) in
    let same : (f : ℕ) → k'.feed f ≡ None = λ f. cancelled_gone k (live_feeds p) f (by_test (is_some (place_of p f))
    (λ there. inr ((has_live k (HardCloses m m ∷ p) ((sym (omega (arith, can.closed)), all)) (cut_is_kept p m all can.begun) f).1 there))
    (λ gone. inl (none_of (place_of p f) gone))) in
    subst (StandsFor (crashed p m)) (sym (run_append (run h (CloseHard m ∷ [])) cancels releases))
    (alike_stands (released_all k' (protections_of p)) (crashed p m) _ released (record {
      closed = sym (ap (λ (k : Kept). k.closed) is' ∙ ap (λ (k : Kept). k.closed) is);
      horizon = sym (ap (λ (k : Kept). k.horizon) is' ∙ ap (λ (k : Kept). k.horizon) is);
      version = λ y i. sym (ap (λ (k : Kept). k.version y i) is' ∙ ap (λ (k : Kept). k.version y i) is);
      committed = λ y i b e. sym (ap (λ (k : Kept). k.committed y i) is' ∙ ap (λ (k : Kept). k.committed y i) is);
      marked = λ y n. sym (ap (λ (k : Kept). k.marked y n) is' ∙ ap (λ (k : Kept). k.marked y n) is);
      transaction = λ i. sym (ap (λ (k : Kept). k.transaction i) is' ∙ ap (λ (k : Kept). k.transaction i) is);
      protections = sym (released_gone k' (protections_of p) (λ n i. numbers_of n (protections_of p) (subst (Has n) (ap (λ (k : Kept). k.protections) is) i)));
      protections_made = sym (ap (λ (k : Kept). k.protections_made) is' ∙ ap (λ (k : Kept). k.protections_made) is);
      feed = λ f. sym (ap (λ (k : Kept). k.feed f) is' ∙ same f);
      feeds_opened = sym (ap (λ (k : Kept). k.feeds_opened) is' ∙ ap (λ (k : Kept). k.feeds_opened) is);
    }))
