-- All lives are one history.
use Rattle.std.proofs.Common.{◌≡◌, ℕ, ◌≤◌, true, List, [], ◌∷◌, ◌++◌, length, map, take, refl, sym, ◌∙◌, ap, subst, arith}
use Rattle.std.specs.Prelude.{nat_le, ◌-◌, ◌↔◌}
use Rattle.std.proofs.Math.Seq.{take-append_seam}
use Rattle.std.proofs.lemmas.List.{append-nil, append_assoc, length-append}
use Rattle.restarts.proofs.Common.{Cmd, Commit, Committed, Del, Event, IsLegal, Put, Refused, Reply, TooLate, answer_of, by_test, effects_of, event, nat_tests}
use Rattle.restarts.specs.Running.{crash, crash_commands, run}
use Rattle.journals.specs.Batches.{Noted, events_of, last_record, rests_on}
use Rattle.journals.specs.Law.{renumbered}
use Rattle.journals.specs.Lives.{AreLives, Life, base_of, disk, noted, there}
use Rattle.journals.specs.OneHistory.{AreOneHistory, GoesOnAsSurvivors, beyond, instead, is_wanting, since, survivors}
use Rattle.journals.proofs.Living.{base_low, synced_events}

-- h ends with what was there before
abbrev EndsWith : List Event → List Event → Type 0
EndsWith h before = (x : List Event) × (h ≡ x ++ before)

one_more : (e : Event) (h before : List Event) → EndsWith h before → EndsWith (e ∷ h) before
one_more e h before b = (e ∷ b.0, ap (λ ws. e ∷ ws) b.1)

longer : (x before : List Event) → length (x ++ before) - length before ≡ length x
longer x before = omega (arith, length-append x before)

-- so it is what came since, and that
since_is : (h before : List Event) → EndsWith h before → h ≡ since before h ++ before
since_is h before b = b.1 ∙ ap (λ ws. ws ++ before) (sym (ap (since before) b.1 ∙ ap (λ n. take n (b.0 ++ before)) (longer b.0 before) ∙ take-append_seam b.0 before))

run_ends : (h : List Event) (cs : List Cmd) (before : List Event) → EndsWith h before → EndsWith (run h cs) before
run_ends h [] before b = b
run_ends h (c ∷ cs) before b = let e : Event = event (length h) 0 c (answer_of (effects_of h) 0 c) in run_ends (e ∷ h) cs before (one_more e h before b)

instead_ends : (g : List Event) (seat : ℕ) (cmd : Cmd) (reply : Reply) (before : List Event) → EndsWith g before → EndsWith (instead g seat cmd reply) before
instead_ends g seat (Commit t) (Committed keys) before b = one_more _ g before b
instead_ends g seat (Put t x v) (Refused TooLate) before b = one_more _ g before b
instead_ends g seat (Del t x) (Refused TooLate) before b = one_more _ g before b
instead_ends g seat cmd reply before b = b

beyond_ends : (k : ℕ) (n : Noted) (ns : List Noted) (g before : List Event) → EndsWith g before → EndsWith (beyond k n ns g) before
beyond_ends k n ns g before b = by_test (is_wanting n.event.reply)
    (λ want. rw want b)
    (λ not'. by_test (nat_le (rests_on n ns) k)
    (λ kept. rw (not', kept) (one_more _ g before b))
    (λ gone. rw (not', gone) (instead_ends g n.event.seat n.event.cmd n.event.reply before b)))

events_append : (later base : List Noted) → events_of (later ++ base) ≡ events_of later ++ events_of base
events_append [] base = refl
events_append (n ∷ later) base = ap (λ es. n.event ∷ es) (events_append later base)

whole_base : (k : ℕ) (base : List Noted) → last_record base ≤ k → survivors k base ≡ events_of base
whole_base k [] low = refl
whole_base k (n ∷ ns) low = let is : nat_le (last_record (n ∷ ns)) k ≡ true = grind (arith, nat_tests, low) in rw is refl

survivors_end : (k : ℕ) (later base : List Noted) → last_record base ≤ k → EndsWith (survivors k (later ++ base)) (events_of base)
survivors_end k [] base low = ([], whole_base k base low)
survivors_end k (n ∷ later) base low = by_test (nat_le (last_record (n ∷ later ++ base)) k)
    (λ is. rw is (events_of (n ∷ later), events_append (n ∷ later) base))
    (λ isnt. rw isnt (beyond_ends k n (later ++ base) (survivors k (later ++ base)) (events_of base) (survivors_end k later base low)))

crash_is : (l : Life) (ls : List Life) → AreLives (l ∷ ls)
    → crash (survivors l.kept (noted l ls)) l.mark ≡ since (events_of (base_of (disk ls) ls)) (crash (survivors l.kept (noted l ls)) l.mark) ++ events_of (base_of (disk ls) ls)
crash_is l ls are = since_is (crash (survivors l.kept (noted l ls)) l.mark) (events_of (base_of (disk ls) ls))
    (run_ends (survivors l.kept (noted l ls)) (crash_commands (effects_of (survivors l.kept (noted l ls))) l.mark) (events_of (base_of (disk ls) ls)) (survivors_end l.kept l.later (base_of (disk ls) ls) (omega (arith, base_low (disk ls) ls, are.1))))

pub one_history : ((l : Life) (ls : List Life) → AreLives (l ∷ ls) → GoesOnAsSurvivors (noted l ls) l.kept l.mark (there l ls)) → (l : Life) (ls : List Life) → AreLives (l ∷ ls) → AreOneHistory l ls
one_history goes l [] are es =
    let s : List Event = crash (survivors l.kept (noted l [])) l.mark in
    let same : s ≡ since [] s = crash_is l [] are ∙ append-nil (since [] s) in
    subst (λ h. IsLegal (es ++ there l []) ↔ IsLegal (map (renumbered (there l []) (survivors l.kept (noted l [])) l.mark) es ++ h)) same (goes l [] are es)
one_history goes l (o ∷ ls) are es =
    let s : List Event = crash (survivors l.kept (noted l (o ∷ ls))) l.mark in
    let before : List Event = events_of (base_of (disk (o ∷ ls)) (o ∷ ls)) in
    let now : List Event = map (renumbered (there l (o ∷ ls)) (survivors l.kept (noted l (o ∷ ls))) l.mark) es in
    let is : before ≡ there o ls = synced_events (there o ls) o.kept in
    let same : now ++ s ≡ (now ++ since before s) ++ there o ls = ap (λ h. now ++ h) (crash_is l (o ∷ ls) are) ∙ sym (append_assoc now (since before s) before) ∙ ap (λ h. (now ++ since before s) ++ h) is in
    let one = goes l (o ∷ ls) are es in
    let other = one_history goes o ls are.3 (now ++ since before s) in
    (λ legal. other.0 (subst IsLegal same (one.0 legal)), λ legal. one.1 (subst IsLegal (sym same) (other.1 legal)))
