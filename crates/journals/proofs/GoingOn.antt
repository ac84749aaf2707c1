-- What is there goes on as after the crash of what survives.
use Rattle.std.proofs.Common.{◌≡◌, ℕ, ◌<◌, ◌≤◌, Bool, false, List, [], ◌∷◌, ◌++◌, length, map, refl, sym, ◌∙◌, ap, arith}
use Rattle.std.specs.Prelude.{is_some, nat_le, ◌↔◌}
use Rattle.restarts.proofs.Common.{AllAllowed, Allowed, Cmd, Collects, Commit, Commits, Committed, Del, Effect, Event, Put, Refused, Reply, TooLate, effect_of, event, IsLegal, StandsFor, alike_stands, by_test, committed_version_of, effects_of, horizon_of, left_version_of, legal_allowed, nat_tests, newest_same}
use Rattle.restarts.specs.Running.{crash}
use Rattle.restarts.specs.Restart.{CanRestart}
use Rattle.restarts.proofs.Rebuilding.{left_kept}
use Rattle.journals.specs.Batches.{AreInOrder, Noted, commits_key, did, events_of, kept_part, last_record, rests_on}
use Rattle.journals.specs.OneHistory.{beyond, instead, is_wanting, survivors}
use Rattle.journals.specs.Law.{renumbered}
use Rattle.journals.specs.Lives.{CanCrash}
use Rattle.journals.proofs.Left.{left_like}
use Rattle.journals.proofs.OneHistory.{one, plain_of, safe}
use Rattle.journals.proofs.Reading.{other_commit}
use Rattle.journals.proofs.Surviving.{IsPlain, IsSurviving}
use Rattle.journals.proofs.Recovering.{go_on}

-- the same committed versions and the same horizon
pub record AreLeftAlike (p q : List Effect) : Type 0 where
  pub horizon : horizon_of p ≡ horizon_of q
  pub versions : (x : List ℕ) (t : ℕ) → committed_version_of p x t ≡ committed_version_of q x t

left_alike : (p q : List Effect) → AreLeftAlike p q → (x : List ℕ) (t : ℕ) → left_version_of p x t ≡ left_version_of q x t
left_alike p q alike x t = left_like p q x t alike.horizon (alike.versions x t) (newest_same (committed_version_of p x) (committed_version_of q x) (horizon_of q) (λ i low. alike.versions x i))

pub goes_as : (h s : List Event) (r : List Event) (m : ℕ) → AreLeftAlike (effects_of s) (effects_of h) → StandsFor (left_kept (effects_of h) m) r → CanRestart s m → (es : List Event)
    → IsLegal (es ++ r) ↔ IsLegal (map (renumbered r s m) es ++ crash s m)
goes_as h s r m alike stands can es = go_on s r m (alike_stands (left_kept (effects_of h) m) (left_kept (effects_of s) m) r stands (record {
  closed = refl;
  horizon = alike.horizon;
  version = λ y i. left_alike (effects_of s) (effects_of h) alike y i;
  committed = λ y i b e. refl;
  marked = λ y n. refl;
  transaction = λ i. refl;
  protections = refl;
  protections_made = refl;
  feed = λ f. refl;
  feeds_opened = refl;
})) can es

pub survivors_can : (ns : List Noted) (k m : ℕ) → CanCrash ns m → CanRestart (survivors k ns) m
survivors_can ns k m can =
    let s = one k ns can.ordered can.legal in record {
      legal = s.legal;
      in_range = can.in_range;
      closed = omega (arith, s.surviving.closed, can.closed);
      begun = λ t is. can.begun t (ap is_some (sym (s.surviving.owner t)) ∙ is);
    }

itself : (p : List Effect) → AreLeftAlike p p
itself p = record { horizon = refl; versions = λ x t. refl }

-- what stands for what is lost commits nothing
instead_alike : (g : List Event) (seat : ℕ) (cmd : Cmd) (reply : Reply) → AreLeftAlike (effects_of (instead g seat cmd reply)) (effects_of g)
instead_alike g seat (Commit t) (Committed keys) = record { horizon = refl; versions = λ x i. refl }
instead_alike g seat (Put t x v) (Refused TooLate) = record { horizon = refl; versions = λ x i. refl }
instead_alike g seat (Del t x) (Refused TooLate) = record { horizon = refl; versions = λ x i. refl }
instead_alike g seat cmd reply = itself (effects_of g)

plain_alike : (f : List ℕ → Bool) (p g : List Effect) (d : Effect) → IsSurviving f p g → IsPlain f p d → Allowed g d → AreLeftAlike (d ∷ g) g
plain_alike f p g d s plain allowed = record { horizon = horizon d plain; versions = λ x t. other_commit g d allowed x (none d plain x) t }
  where
    horizon : (d : Effect) → IsPlain f p d → horizon_of (d ∷ g) ≡ horizon_of g
    horizon (Collects n) plain = absurd plain
    horizon (_) plain = refl

    none : (d : Effect) → IsPlain f p d → (x : List ℕ) → commits_key g x d ≡ false
    none (Commits t) plain x = ap is_some (s.write t x ∙ plain x)
    none (_) plain x = refl

beyond_alike : (k : ℕ) (n : Noted) (ns : List Noted) → AreInOrder ns → k < last_record (n ∷ ns) → IsSurviving (safe k ns) (did ns) (effects_of (survivors k ns)) → IsLegal (beyond k n ns (survivors k ns))
    → AreLeftAlike (effects_of (beyond k n ns (survivors k ns))) (effects_of (survivors k ns))
beyond_alike k n ns ordered over s legal = by_test (is_wanting n.event.reply)
    (λ want. rw want (itself (effects_of (survivors k ns))))
    (λ not'. by_test (nat_le (rests_on n ns) k)
    (λ kept.
    let low : rests_on n ns ≤ k = grind (arith, nat_tests, kept) in
    let plain = plain_of k n ns (effect_of n.event) refl ordered low refl over in
    let now : IsLegal (event (length (survivors k ns)) n.event.seat n.event.cmd n.event.reply ∷ survivors k ns) = rw (not', kept) at legal in
    let all : AllAllowed (effect_of n.event ∷ effects_of (survivors k ns)) = legal_allowed (event (length (survivors k ns)) n.event.seat n.event.cmd n.event.reply ∷ survivors k ns) now in
    rw (not', kept) (plain_alike (safe k ns) (did ns) (effects_of (survivors k ns)) (effect_of n.event) s plain all.0))
    (λ gone. rw (not', gone) (instead_alike (survivors k ns) n.event.seat n.event.cmd n.event.reply)))

pub alike : (k : ℕ) (ns : List Noted) → AreInOrder ns → IsLegal (events_of ns) → AreLeftAlike (effects_of (survivors k ns)) (did (kept_part k ns))
alike k [] ordered legal = itself []
alike k (n ∷ ns) ordered legal = by_test (nat_le (last_record (n ∷ ns)) k)
    (λ whole. rw whole (itself (did (n ∷ ns))))
    (λ lost.
    let over : k < last_record (n ∷ ns) = grind (arith, nat_tests, lost) in
    let before = alike k ns ordered.1 legal.1 in
    let all : IsLegal (beyond k n ns (survivors k ns)) = rw lost at (one k (n ∷ ns) ordered legal).legal in
    let now = beyond_alike k n ns ordered.1 over (one k ns ordered.1 legal.1).surviving all in
    rw lost (record { horizon = now.horizon ∙ before.horizon; versions = λ x t. now.versions x t ∙ before.versions x t }))
