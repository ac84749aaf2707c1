-- Reads that were told: what they found is there.
use Rattle.std.proofs.Common.{◌≡◌, ℕ, suc, ◌<◌, ◌≤◌, ◌==◌, true, false, List, [], ◌∷◌, ◌++◌, Option, Some, None, refl, sym, ◌∙◌, ap, subst, inl, inr, arith}
use Rattle.std.specs.Prelude.{nat_le, ◌⊎◌}
use Rattle.restarts.proofs.Common.{After, AllAllowed, Allowed, Commits, Effect, Reads, Scans, SnapshotReads, SnapshotScans, Version, Writes, both_ways, by_test, closed_of, committed_version_of, common_steps, effect_of, eqb-true, has, has_written, is_committed, map_at_is, nat_tests, newest_same, none_of, version_of, write_of, write_set}
use Rattle.spans.specs.Reads.{IsRead}
use Rattle.spans.specs.Serial.{map_at}
use Rattle.spans.specs.Versions.{IsNewest, committed_value, is_blocked, visible}
use Rattle.spans.proofs.Copies.{closed_grows, closed_stays, found_whole, reads_from}
use Rattle.spans.proofs.Steps.{newest_at, newest_is}
use Rattle.spans.proofs.Keyed.{among_rows}
use Rattle.journals.specs.Recorded.{recorded}
use Rattle.journals.specs.Batches.{AreInOrder, Noted, commits_key, commits_some, did, is_empty, is_some_key, kept_part, last_commit, last_commit_of, last_record, latest, lines_of, rests_by, rests_on}
use Rattle.journals.specs.Law.{Found, SnapshotFound}
use Rattle.journals.proofs.Parting.{begins_further, closed_begins, kept_begins, kept_later}

-- a committed version stays
version_stays : (p : List Effect) (d : Effect) → Allowed p d → (x : List ℕ) (i : ℕ) (a : After) → committed_version_of p x i ≡ Some a → committed_version_of (d ∷ p) x i ≡ Some a
version_stays p (_) allowed x i a is = grind (arith, common_steps, eqb-true)

versions_stay : (later old : List Noted) → AllAllowed (did (later ++ old)) → (x : List ℕ) (i : ℕ) (a : After) → committed_version_of (did old) x i ≡ Some a → committed_version_of (did (later ++ old)) x i ≡ Some a
versions_stay [] old all x i a is = is
versions_stay (n ∷ later) old all x i a is = version_stays (did (later ++ old)) (effect_of n.event) all.0 x i a (versions_stay later old all.1 x i a is)

-- of what was there none came
none_before : (later old : List Noted) → AllAllowed (did (later ++ old)) → (x : List ℕ) (i : ℕ) → committed_version_of (did (later ++ old)) x i ≡ None → committed_version_of (did old) x i ≡ None
none_before later old all x i none = by_option (committed_version_of (did old) x i) refl
  where
    by_option : (o : Option After) → committed_version_of (did old) x i ≡ o → committed_version_of (did old) x i ≡ None
    by_option None e = e
    by_option (Some a) e = let is = versions_stay later old all x i a e in cc

-- what was committed of a key doesn't change by what commits nothing of it
pub other_commit : (p : List Effect) (d : Effect) → Allowed p d → (x : List ℕ) → commits_key p x d ≡ false → (i : ℕ) → committed_version_of (d ∷ p) x i ≡ committed_version_of p x i
other_commit p (Commits t) allowed x no' i = by_test (t == i)
    (λ same. let e : t ≡ i = grind (arith, nat_tests) in let nothing : write_of p t x ≡ None = none_of (write_of p t x) no' in grind (arith, common_steps, e, nothing))
    (λ other. rw other refl)
other_commit p (Writes t y a) allowed x no' i = by_test (t == i)
    (λ same. let e : t ≡ i = grind (arith, nat_tests) in grind (arith, common_steps, e, allowed.0.uncommitted))
    (λ other. rw other refl)
other_commit p (_) allowed x no' i = refl

-- a commit of a key is recorded
commit_recorded : (n : Noted) (ns : List Noted) (x : List ℕ) → commits_key (did ns) x (effect_of n.event) ≡ true → is_empty (lines_of n ns) ≡ false
commit_recorded n ns x is = by_effect (effect_of n.event) is
  where
    by_keys : (t : ℕ) (keys : List (List ℕ)) → write_set (did ns) t ≡ keys → has x keys ≡ true → is_empty (recorded (did ns) (Commits t)) ≡ false
    by_keys t [] e here = cc
    by_keys t (y ∷ ys) e here = rw e refl

    by_effect : (d : Effect) → commits_key (did ns) x d ≡ true → is_empty (recorded (did ns) d) ≡ false
    by_effect (Commits t) is = by_keys t (write_set (did ns) t) refl (has_written (did ns) t x ∙ is)
    by_effect (_) is = cc

-- where the last commit of a key is kept, all that was committed of it is
pub key_kept : (k : ℕ) (ns : List Noted) → AllAllowed (did ns) → (x : List ℕ) → last_commit_of ns x ≤ k → (i : ℕ) → committed_version_of (did (kept_part k ns)) x i ≡ committed_version_of (did ns) x i
key_kept k [] all x low i = refl
key_kept k (n ∷ ns) all x low i = by_test (nat_le (last_record (n ∷ ns)) k)
    (λ is. rw is refl)
    (λ isnt. rw isnt (by_test (commits_key (did ns) x (effect_of n.event))
    (λ mine.
    let here : n.batch ≤ k = grind (arith, common_steps, mine, low) in
    let some = commit_recorded n ns x mine in
    absurd (grind (arith, nat_tests, common_steps, some, here, isnt)))
    (λ others. key_kept k ns all.1 x (grind (arith, common_steps, others, low)) i ∙ sym (other_commit (did ns) (effect_of n.event) all.0 x others i))))

-- a read stays one
read_stays : (p : List Effect) (d : Effect) (j : ℕ) (x : List ℕ) (k : ℕ) (v : After) → IsRead p j x k v → IsRead (d ∷ p) j x k v
read_stays p (Reads t y w) j x k v r = inr r
read_stays p (Scans t span rows) j x k v r = inr r
read_stays p (_) j x k v r = r

reads_stay : (later old : List Noted) (j : ℕ) (x : List ℕ) (k : ℕ) (v : After) → IsRead (did old) j x k v → IsRead (did (later ++ old)) j x k v
reads_stay [] old j x k v r = r
reads_stay (n ∷ later) old j x k v r = read_stays (did (later ++ old)) (effect_of n.event) j x k v (reads_stay later old j x k v r)

parts_allowed : (later old : List Noted) → AllAllowed (did (later ++ old)) → AllAllowed (did old)
parts_allowed [] old all = all
parts_allowed (n ∷ later) old all = parts_allowed later old all.1

-- ---- what commits nothing of any key commits nothing of one

some_key : (p : List Effect) (x : List ℕ) (d : Effect) → commits_key p x d ≡ true → commits_some p d ≡ true
some_key p x (Commits t) is = by_keys (write_set p t) (has_written p t x ∙ is)
  where
    by_keys : (keys : List (List ℕ)) → has x keys ≡ true → is_some_key keys ≡ true
    by_keys [] here = cc
    by_keys (y ∷ ys) here = refl
some_key p x (_) is = cc

pub commit_of_low : (ns : List Noted) → AreInOrder ns → (x : List ℕ) → last_commit_of ns x ≤ latest ns
commit_of_low [] ordered x = omega arith
commit_of_low (n ∷ ns) ordered x = by_test (commits_key (did ns) x (effect_of n.event))
    (λ is. rw is (omega arith))
    (λ isnt. rw isnt (omega (arith, commit_of_low ns ordered.1 x, ordered.0)))

pub commit_low : (ns : List Noted) → AreInOrder ns → (x : List ℕ) → last_commit_of ns x ≤ last_commit ns
commit_low [] ordered x = omega arith
commit_low (n ∷ ns) ordered x = by_test (commits_some (did ns) (effect_of n.event))
    (λ some. by_test (commits_key (did ns) x (effect_of n.event))
    (λ is. rw (some, is) (omega arith))
    (λ isnt. rw (some, isnt) (omega (arith, commit_of_low ns ordered.1 x, ordered.0))))
    (λ none.
    let isnt : commits_key (did ns) x (effect_of n.event) ≡ false = by_test (commits_key (did ns) x (effect_of n.event)) (λ is. absurd (both_ways _ none (some_key (did ns) x (effect_of n.event) is))) (λ isnt. isnt) in
    rw (none, isnt) (commit_low ns ordered.1 x))

-- ---- reads

-- what is found: by no undecided write, and as a read
pub record IsFound (p : List Effect) (d : Effect) (t : ℕ) (x : List ℕ) (v : After) : Type 0 where
  pub free : is_blocked p x t ≡ false
  pub value : v ≡ (visible p x t).after
  pub read : IsRead (d ∷ p) t x (visible p x t).ts v
  pub own : write_of p t x ≡ None

found_is : (p : List Effect) (d : Effect) (t : ℕ) (x : List ℕ) (v : After) → Allowed p d → Found p d t x v → IsFound p d (suc t) x v
found_is p (Reads n y w) t x v allowed f = rw (← f.0, ← f.1, ← f.2) (record { free = allowed.1; value = allowed.2; read = inl (refl, refl, refl, refl); own = rw (f.0, f.1) f.3 })
found_is p (Scans n span rows) t x v allowed f = rw (← f.0, ← f.2) (record {
  free = allowed.1 x f.1;
  value = among_rows span (λ y. (visible p y n).after) rows allowed.2 x f.1;
  read = inl (refl, f.1, refl, refl);
  own = rw f.0 f.3;
})
found_is p (_) t x v allowed f = absurd f

-- the value that was found is there in what is kept
pub read_there : (later old : List Noted) (n : Noted) (k t : ℕ) (x : List ℕ) (v : After) → AllAllowed (did (later ++ n ∷ old)) → AllAllowed (did (n ∷ old))
    → Found (did old) (effect_of n.event) t x v → last_commit_of old x ≤ k → map_at (did (kept_part k (later ++ n ∷ old))) t x ≡ v
read_there later old n k t x v all here f low =
    let p : List Effect = did old in
    let is : IsFound p (effect_of n.event) (suc t) x v = found_is p (effect_of n.event) t x v here.0 f in
    let at : ℕ = (visible p x (suc t)).ts in
    let below : at < suc t = not_own p t x is.own in
    let whole = found_whole p x (suc t) at v refl (sym is.value) below is.free in
    let all' : List Noted = later ++ n ∷ old in
    let from : IsNewest (committed_version_of (did all') x) t at v = reads_from (did all') all t x at v (reads_stay later (n ∷ old) (suc t) x at v is.read) (omega (arith, below)) in
    let part : List Noted = kept_part k all' in
    let begins = kept_begins k all' in
    let grown : AllAllowed (did (begins.0 ++ part)) = subst (λ ws. AllAllowed (did ws)) begins.1 all in
    map_at_is (did part) t x ∙ newest_at (committed_version_of (did part) x) t at v (record {
      at_most = from.at_most;
      gap = λ i above low'. none_before begins.0 part grown x i (subst (λ ws. committed_version_of (did ws) x i ≡ None) begins.1 (from.gap i above low'));
      has = has_it p at whole (λ pos done. there_too later old n k x at v all here low (rw (done.0, done.1) refl));
    })
  where
    not_own : (p : List Effect) (t : ℕ) (x : List ℕ) → write_of p (suc t) x ≡ None → (visible p x (suc t)).ts < suc t
    not_own p t x own = let newest' = newest_is (version_of p x) (suc t) in grind (arith, common_steps, newest', own)

    there_too : (later old : List Noted) (n : Noted) (k : ℕ) (x : List ℕ) (i : ℕ) (v : After) → AllAllowed (did (later ++ n ∷ old)) → AllAllowed (did (n ∷ old)) → last_commit_of old x ≤ k
        → committed_version_of (did old) x i ≡ Some v → committed_version_of (did (kept_part k (later ++ n ∷ old))) x i ≡ Some v
    there_too later old n k x i v all here low is =
        let part : List Noted = kept_part k (later ++ n ∷ old) in
        let begins = kept_begins k (later ++ n ∷ old) in
        let inner = begins_further part (kept_part k (n ∷ old)) (kept_part k old) (kept_later k later (n ∷ old)) (kept_later k (n ∷ []) old) in
        let grown : AllAllowed (did part) = parts_allowed begins.0 part (subst (λ ws. AllAllowed (did ws)) begins.1 all) in
        subst (λ ws. committed_version_of (did ws) x i ≡ Some v) (sym inner.1)
        (versions_stay inner.0 (kept_part k old) (subst (λ ws. AllAllowed (did ws)) inner.1 grown) x i v (key_kept k old here.1 x low i ∙ is))

    has_it : (p : List Effect) (at : ℕ) → ((at ≡ 0) × (v ≡ None)) ⊎ ((0 < at) × (is_committed p at ≡ true) × (write_of p at x ≡ Some v))
        → (0 < at → (is_committed p at ≡ true) × (write_of p at x ≡ Some v) → committed_version_of (did (kept_part k (later ++ n ∷ old))) x at ≡ Some v)
        → ((at ≡ 0) × (v ≡ None)) ⊎ ((0 < at) × (committed_version_of (did (kept_part k (later ++ n ∷ old))) x at ≡ Some v))
    has_it p at whole there = elim whole [ inl none ↦ inl none | inr some ↦ inr (some.0, there some.0 (some.1, some.2)) ]

-- ---- snapshots

pub closed_same : (later old : List Noted) → AllAllowed (did (later ++ old)) → (x : List ℕ) (i : ℕ) → i ≤ closed_of (did old) → committed_version_of (did (later ++ old)) x i ≡ committed_version_of (did old) x i
closed_same [] old all x i low = refl
closed_same (n ∷ later) old all x i low =
    closed_stays (did (later ++ old)) (effect_of n.event) all.0 x i (omega (arith, low, closed_begins later old all.1)) ∙ closed_same later old all.1 x i low

snapshot_is : (p : List Effect) (d : Effect) (t : ℕ) (x : List ℕ) (v : After) → Allowed p d → SnapshotFound d t x v → (t ≤ closed_of p) × (committed_value p x t ≡ v)
snapshot_is p (SnapshotReads n y w) t x v allowed f = rw (← f.0, ← f.1, ← f.2) (allowed.0, sym allowed.1)
snapshot_is p (SnapshotScans n span rows) t x v allowed f = rw (← f.0, ← f.2) (allowed.0, sym (among_rows span (λ y. committed_value p y n) rows allowed.1 x f.1))
snapshot_is p (_) t x v allowed f = absurd f

pub snapshot_there : (later old : List Noted) (n : Noted) (k t : ℕ) (x : List ℕ) (v : After) → AllAllowed (did (later ++ n ∷ old)) → AllAllowed (did (n ∷ old))
    → SnapshotFound (effect_of n.event) t x v → last_commit_of old x ≤ k → map_at (did (kept_part k (later ++ n ∷ old))) t x ≡ v
snapshot_there later old n k t x v all here f low =
    let is = snapshot_is (did old) (effect_of n.event) t x v here.0 f in
    map_at_is (did (kept_part k (later ++ n ∷ old))) t x
    ∙ ap (λ (w : Version). w.after) (newest_same (committed_version_of (did (kept_part k (later ++ n ∷ old))) x) (committed_version_of (did old) x) t (λ i low'. each i (omega (arith, low', is.0)) (committed_version_of (did old) x i) refl))
    ∙ is.1
  where
    each : (i : ℕ) → i ≤ closed_of (did old) → (o : Option After) → committed_version_of (did old) x i ≡ o → committed_version_of (did (kept_part k (later ++ n ∷ old))) x i ≡ committed_version_of (did old) x i
    each i low' (Some a) e =
        let part : List Noted = kept_part k (later ++ n ∷ old) in
        let begins = kept_begins k (later ++ n ∷ old) in
        let inner = begins_further part (kept_part k (n ∷ old)) (kept_part k old) (kept_later k later (n ∷ old)) (kept_later k (n ∷ []) old) in
        let grown : AllAllowed (did part) = parts_allowed begins.0 part (subst (λ ws. AllAllowed (did ws)) begins.1 all) in
        subst (λ ws. committed_version_of (did ws) x i ≡ Some a) (sym inner.1)
        (versions_stay inner.0 (kept_part k old) (subst (λ ws. AllAllowed (did ws)) inner.1 grown) x i a (key_kept k old here.1 x low i ∙ e)) ∙ sym e
    each i low' None e =
        let begins = kept_begins k (later ++ n ∷ old) in
        let part : List Noted = kept_part k (later ++ n ∷ old) in
        let now : committed_version_of (did (later ++ n ∷ old)) x i ≡ None = closed_same later (n ∷ old) all x i (omega (arith, low', closed_grows (did old) (effect_of n.event) here.0)) ∙ closed_stays (did old) (effect_of n.event) here.0 x i low' ∙ e in
        none_before begins.0 part (subst (λ ws. AllAllowed (did ws)) begins.1 all) x i (subst (λ ws. committed_version_of (did ws) x i ≡ None) begins.1 now) ∙ sym e

-- ---- on what they rest

pub found_rests : (n : Noted) (old : List Noted) → AreInOrder old → (t : ℕ) (x : List ℕ) (v : After) → Found (did old) (effect_of n.event) t x v → last_commit_of old x ≤ rests_on n old
found_rests n old ordered t x v f = by_effect (effect_of n.event) f
  where
    by_effect : (d : Effect) → Found (did old) d t x v → last_commit_of old x ≤ rests_by n old d
    by_effect (Reads i y w) f = rw f.1 (omega arith)
    by_effect (Scans i span rows) f = commit_low old ordered x
    by_effect (_) f = absurd f

pub snapshot_rests : (n : Noted) (old : List Noted) → AreInOrder old → (t : ℕ) (x : List ℕ) (v : After) → SnapshotFound (effect_of n.event) t x v → last_commit_of old x ≤ rests_on n old
snapshot_rests n old ordered t x v f = by_effect (effect_of n.event) f
  where
    by_effect : (d : Effect) → SnapshotFound d t x v → last_commit_of old x ≤ rests_by n old d
    by_effect (SnapshotReads i y w) f = rw f.1 (omega arith)
    by_effect (SnapshotScans i span rows) f = commit_low old ordered x
    by_effect (_) f = absurd f
