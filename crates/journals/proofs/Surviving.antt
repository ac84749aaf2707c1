-- The one history: what its events leave beside what all events leave.
use Rattle.std.proofs.Common.{◌≡◌, ℕ, ◌≤◌, ◌==◌, Bool, true, false, cond, ◌||◌, List, ◌∷◌, Some, None, refl, sym, ◌∙◌, ap, subst, arith}
use Rattle.std.specs.Prelude.{is_some}
use Rattle.restarts.proofs.Common.{Aborts, AllAllowed, Allowed, Begins, Cancels, Closes, Collects, Commits, Effect, HardCloses, NoEffect, Opens, Polls, Protects, Reads, Releases, Scans, SnapshotReads, SnapshotScans, Writes, begun_of, both_ways, by_test, closed_of, common_steps, feed_of, feeds_opened, horizon_of, is_aborted, is_committed, nat_tests, newest_same, not_both, or_right, owner_of, protections_made, protections_of, too_late, version_of, write_of, written_keys}
use Rattle.spans.specs.Feeds.{is_cancelled}
use Rattle.spans.specs.Versions.{visible, write_count}
use Rattle.spans.proofs.Horizon.{horizon_grows}

-- g is p without what is lost. Of a safe key no commit is
pub record IsSurviving (safe : List ℕ → Bool) (p g : List Effect) : Type 0 where
  pub closed : closed_of g ≡ closed_of p
  pub horizon : horizon_of g ≤ horizon_of p
  pub owner : (t : ℕ) → owner_of g t ≡ owner_of p t
  pub begun : begun_of g ≡ begun_of p
  pub ended : (t : ℕ) → (is_committed g t || is_aborted g t) ≡ (is_committed p t || is_aborted p t)
  pub fewer : (t : ℕ) → is_committed g t ≡ true → is_committed p t ≡ true
  pub write : (t : ℕ) (x : List ℕ) → write_of g t x ≡ write_of p t x
  pub count : (t : ℕ) → write_count g t ≡ write_count p t
  pub keys : written_keys g ≡ written_keys p
  pub late : (x : List ℕ) (i : ℕ) → too_late g x i ≡ true → too_late p x i ≡ true
  pub feed : (f : ℕ) → feed_of g f ≡ feed_of p f
  pub opened : feeds_opened g ≡ feeds_opened p
  pub cancelled : (f : ℕ) → is_cancelled g f ≡ is_cancelled p f
  pub protections : protections_of g ≡ protections_of p
  pub made : protections_made g ≡ protections_made p
  pub same : (x : List ℕ) (t : ℕ) → safe x ≡ true → is_some (write_of p t x) ≡ true → is_committed g t ≡ is_committed p t

-- of a safe key each version is the same
pub same_version : (safe : List ℕ → Bool) (p g : List Effect) → AllAllowed p → AllAllowed g → IsSurviving safe p g → (x : List ℕ) → safe x ≡ true → (t : ℕ) → version_of g x t ≡ version_of p x t
same_version safe p g all all' s x is t = grind (arith, common_steps, by_test, not_both p all t, not_both g all' t, s.ended t, s.write t x, s.same x t is)

pub same_visible : (safe : List ℕ → Bool) (p g : List Effect) → AllAllowed p → AllAllowed g → IsSurviving safe p g → (x : List ℕ) → safe x ≡ true → (t : ℕ) → visible g x t ≡ visible p x t
same_visible safe p g all all' s x is t = newest_same (version_of g x) (version_of p x) t (λ i low. same_version safe p g all all' s x is i)

-- an event that isn't lost
abbrev pub IsPlain : (List ℕ → Bool) → List Effect → Effect → Type 0
IsPlain safe p (Collects n) = ⊥
IsPlain safe p (Polls f max ms) = ⊥
IsPlain safe p (Commits t) = (x : List ℕ) → write_of p t x ≡ None
IsPlain safe p (Reads t x v) = safe x ≡ true
IsPlain safe p (Scans t span rows) = (x : List ℕ) → safe x ≡ true
IsPlain safe p d = Unit {0}

pub keep : (safe : List ℕ → Bool) (p g : List Effect) (d : Effect) → AllAllowed p → AllAllowed g → Allowed p d → IsSurviving safe p g → IsPlain safe p d → IsSurviving safe (d ∷ p) (d ∷ g)
keep safe p g d all all' allowed s plain = record {
  closed = closed d;
  horizon = horizon d plain;
  owner = owner d;
  begun = begun d;
  ended = ended d;
  fewer = fewer d;
  write = write d;
  count = count d;
  keys = keys d;
  late = late d plain;
  feed = feed d;
  opened = opened d;
  cancelled = cancelled d;
  protections = protections d;
  made = made d;
  same = same d allowed plain;
}
  where
    closed : (d : Effect) → closed_of (d ∷ g) ≡ closed_of (d ∷ p)
    closed (Closes n) = refl
    closed (HardCloses to n) = refl
    closed (_) = s.closed

    horizon : (d : Effect) → IsPlain safe p d → horizon_of (d ∷ g) ≤ horizon_of (d ∷ p)
    horizon (Collects n) plain = absurd plain
    horizon (_) plain = s.horizon

    owner : (d : Effect) (t : ℕ) → owner_of (d ∷ g) t ≡ owner_of (d ∷ p) t
    owner (Begins k seat) t = ap (λ o. cond (k == t) (Some seat) o) (s.owner t)
    owner (_) t = s.owner t

    begun : (d : Effect) → begun_of (d ∷ g) ≡ begun_of (d ∷ p)
    begun (Begins k seat) = ap (λ ts. k ∷ ts) s.begun
    begun (_) = s.begun

    ended : (d : Effect) (t : ℕ) → (is_committed (d ∷ g) t || is_aborted (d ∷ g) t) ≡ (is_committed (d ∷ p) t || is_aborted (d ∷ p) t)
    ended (Commits k) t = by_test (k == t) (λ is. rw is refl) (λ isnt. rw isnt (s.ended t))
    ended (Aborts k) t = grind (arith, common_steps, by_test, s.ended t)
    ended (HardCloses to n) t = grind (arith, common_steps, by_test, s.ended t, s.owner t)
    ended (_) t = s.ended t

    fewer : (d : Effect) (t : ℕ) → is_committed (d ∷ g) t ≡ true → is_committed (d ∷ p) t ≡ true
    fewer (Commits k) t is = by_test (k == t) (λ same. rw same refl) (λ other. grind (arith, common_steps, other, is, s.fewer t))
    fewer (_) t is = s.fewer t is

    write : (d : Effect) (t : ℕ) (x : List ℕ) → write_of (d ∷ g) t x ≡ write_of (d ∷ p) t x
    write (Writes k y a) t x = rw (s.write t x) refl
    write (_) t x = s.write t x

    count : (d : Effect) (t : ℕ) → write_count (d ∷ g) t ≡ write_count (d ∷ p) t
    count (Writes k y a) t = rw (s.count t, s.write t y) refl
    count (_) t = s.count t

    keys : (d : Effect) → written_keys (d ∷ g) ≡ written_keys (d ∷ p)
    keys (Writes k y a) = rw s.keys refl
    keys (_) = s.keys

    late : (d : Effect) → IsPlain safe p d → (x : List ℕ) (i : ℕ) → too_late (d ∷ g) x i ≡ true → too_late (d ∷ p) x i ≡ true
    late (Reads j y v) plain x i is = let v' = same_visible safe p g all all' s y plain j in grind (arith, common_steps, v', is, s.late x i)
    late (Scans j span rows) plain x i is = let v' = same_visible safe p g all all' s x (plain x) j in grind (arith, common_steps, v', is, s.late x i)
    late (_) plain x i is = s.late x i is

    feed : (d : Effect) (f : ℕ) → feed_of (d ∷ g) f ≡ feed_of (d ∷ p) f
    feed (Opens n seat kind span cursor) f = rw (s.feed f) refl
    feed (_) f = s.feed f

    opened : (d : Effect) → feeds_opened (d ∷ g) ≡ feeds_opened (d ∷ p)
    opened (Opens n seat kind span cursor) = rw s.opened refl
    opened (_) = s.opened

    cancelled : (d : Effect) (f : ℕ) → is_cancelled (d ∷ g) f ≡ is_cancelled (d ∷ p) f
    cancelled (Cancels n) f = rw (s.cancelled f) refl
    cancelled (_) f = s.cancelled f

    protections : (d : Effect) → protections_of (d ∷ g) ≡ protections_of (d ∷ p)
    protections (Protects id t) = rw s.protections refl
    protections (Releases id) = rw s.protections refl
    protections (_) = s.protections

    made : (d : Effect) → protections_made (d ∷ g) ≡ protections_made (d ∷ p)
    made (Protects id t) = rw s.made refl
    made (_) = s.made

    same : (d : Effect) → Allowed p d → IsPlain safe p d → (x : List ℕ) (t : ℕ) → safe x ≡ true → is_some (write_of (d ∷ p) t x) ≡ true → is_committed (d ∷ g) t ≡ is_committed (d ∷ p) t
    same (Commits k) allowed plain x t is wrote = rw (s.same x t is wrote) refl
    same (Writes k y a) allowed plain x t is wrote = by_test (is_some (write_of p t x)) (λ before. s.same x t is before) (λ new.
        let at : k ≡ t = grind (arith, common_steps, nat_tests, wrote, new) in
        let no' : is_committed p t ≡ false = subst (λ i. is_committed p i ≡ false) at allowed.0.uncommitted in
        let no'' : is_committed g t ≡ false = by_test (is_committed g t) (λ done. absurd (both_ways _ no' (s.fewer t done))) (λ isnt. isnt) in
        no'' ∙ sym no')
    same (_) allowed plain x t is wrote = s.same x t is wrote

-- what is left out changes nothing
abbrev pub IsLeftOut : Effect → Type 0
IsLeftOut (Reads t x v) = Unit {0}
IsLeftOut (Scans t span rows) = Unit {0}
IsLeftOut (SnapshotReads t x v) = Unit {0}
IsLeftOut (SnapshotScans t span rows) = Unit {0}
IsLeftOut (Collects n) = Unit {0}
IsLeftOut (Polls f max ms) = Unit {0}
IsLeftOut NoEffect = Unit {0}
IsLeftOut d = ⊥

pub leave : (safe : List ℕ → Bool) (p g : List Effect) (d : Effect) → Allowed p d → IsSurviving safe p g → IsLeftOut d → IsSurviving safe (d ∷ p) g
leave safe p g (Reads t x v) allowed s out = record { closed = s.closed; horizon = s.horizon; owner = s.owner; begun = s.begun; ended = s.ended; fewer = s.fewer; write = s.write; count = s.count; keys = s.keys; late = λ y i is. or_right _ _ (s.late y i is); feed = s.feed; opened = s.opened; cancelled = s.cancelled; protections = s.protections; made = s.made; same = s.same }
leave safe p g (Scans t span rows) allowed s out = record { closed = s.closed; horizon = s.horizon; owner = s.owner; begun = s.begun; ended = s.ended; fewer = s.fewer; write = s.write; count = s.count; keys = s.keys; late = λ y i is. or_right _ _ (s.late y i is); feed = s.feed; opened = s.opened; cancelled = s.cancelled; protections = s.protections; made = s.made; same = s.same }
leave safe p g (Collects n) allowed s out = record { closed = s.closed; horizon = omega (arith, s.horizon, horizon_grows p (Collects n) allowed); owner = s.owner; begun = s.begun; ended = s.ended; fewer = s.fewer; write = s.write; count = s.count; keys = s.keys; late = s.late; feed = s.feed; opened = s.opened; cancelled = s.cancelled; protections = s.protections; made = s.made; same = s.same }
leave safe p g (SnapshotReads t x v) allowed s out = record { closed = s.closed; horizon = s.horizon; owner = s.owner; begun = s.begun; ended = s.ended; fewer = s.fewer; write = s.write; count = s.count; keys = s.keys; late = s.late; feed = s.feed; opened = s.opened; cancelled = s.cancelled; protections = s.protections; made = s.made; same = s.same }
leave safe p g (SnapshotScans t span rows) allowed s out = record { closed = s.closed; horizon = s.horizon; owner = s.owner; begun = s.begun; ended = s.ended; fewer = s.fewer; write = s.write; count = s.count; keys = s.keys; late = s.late; feed = s.feed; opened = s.opened; cancelled = s.cancelled; protections = s.protections; made = s.made; same = s.same }
leave safe p g (Polls f max ms) allowed s out = record { closed = s.closed; horizon = s.horizon; owner = s.owner; begun = s.begun; ended = s.ended; fewer = s.fewer; write = s.write; count = s.count; keys = s.keys; late = s.late; feed = s.feed; opened = s.opened; cancelled = s.cancelled; protections = s.protections; made = s.made; same = s.same }
leave safe p g NoEffect allowed s out = record { closed = s.closed; horizon = s.horizon; owner = s.owner; begun = s.begun; ended = s.ended; fewer = s.fewer; write = s.write; count = s.count; keys = s.keys; late = s.late; feed = s.feed; opened = s.opened; cancelled = s.cancelled; protections = s.protections; made = s.made; same = s.same }
leave safe p g (_) allowed s out = absurd out

-- a commit that is lost is an abort
pub lose : (safe safe' : List ℕ → Bool) (p g : List Effect) (t : ℕ) → IsSurviving safe p g → ((x : List ℕ) → safe' x ≡ true → (safe x ≡ true) × (write_of p t x ≡ None)) → IsSurviving safe' (Commits t ∷ p) (Aborts t ∷ g)
lose safe safe' p g t s fewer' = record {
  closed = s.closed;
  horizon = s.horizon;
  owner = s.owner;
  begun = s.begun;
  ended = λ i. grind (arith, common_steps, by_test, s.ended i);
  fewer = λ i is. or_right _ _ (s.fewer i is);
  write = s.write;
  count = s.count;
  keys = s.keys;
  late = s.late;
  feed = s.feed;
  opened = s.opened;
  cancelled = s.cancelled;
  protections = s.protections;
  made = s.made;
  same = λ x i is wrote. by_test (t == i)
      (λ mine. let at : t ≡ i = grind (arith, nat_tests) in let none : write_of p i x ≡ None = subst (λ i. write_of p i x ≡ None) at (fewer' x is).1 in cc)
      (λ other. rw other (s.same x i (fewer' x is).0 wrote));
}
