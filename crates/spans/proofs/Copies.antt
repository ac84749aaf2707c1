-- Allowed deeds keep what each read found, and so read as from one copy.
use Rattle.spans.proofs.Common.{and_from, and_parts, both_ways, common_steps, eqb-true, lt-ltb, nat_tests, or_left, or_right}
use Rattle.std.proofs.Common.{rules, ◌≡◌, ℕ, suc, ◌<◌, ◌≤◌, ◌⊎◌, ◌==◌, true, false, List, [], ◌∷◌, Some, None, ◌∙◌, ap, subst, inl, inr, arith}
use Rattle.std.specs.Prelude.{is_some, max}
use Rattle.spans.specs.Effects.{After, Effect, Begins, Reads, Scans, SnapshotScans, Writes, Commits, Aborts, Closes, HardCloses, Protects, Releases, Collects, Opens, Polls, Cancels, SnapshotReads, NoEffect}
use Rattle.spans.specs.Transactions.{owner_of, closed_of, is_committed, is_aborted, decided_through}
use Rattle.spans.specs.Versions.{write_of, version_of, committed_version_of, visible, is_blocked, committed_value, IsNewest}
use Rattle.spans.specs.Reads.{too_late, IsRead}
use Rattle.spans.specs.Keys.{in_span, AreRows, value_among}
use Rattle.spans.specs.Feeds.{Feed, feed_of, feeds_opened, is_cancelled, next_messages}
use Rattle.spans.specs.Collection.{horizon_of, collection_horizon}
use Rattle.spans.specs.Serial.{serial_run, map_at, ReadsAgree, SnapshotsAgree, IsOneCopy}
use Rattle.spans.proofs.Keyed.{rows_like, among_rows}
use Rattle.spans.proofs.Steps.{same_key, key_itself, by_test, newest_is, or_else, after_is, map_at_is, newest_same, newest_at, version_wrote, no_version_wrote}

-- t is open: not closed, and not decided
pub record IsActive (p : List Effect) (t : ℕ) : Type 0 where
  pub above : closed_of p < t
  pub begun : is_some (owner_of p t) ≡ true
  pub uncommitted : is_committed p t ≡ false
  pub unaborted : is_aborted p t ≡ false

-- what a right reply's deed satisfies
abbrev pub Allowed : List Effect → Effect → Type 0
Allowed p (Begins t seat) = (closed_of p < t) × (owner_of p t ≡ None) × (0 < t)
Allowed p (Reads t x v) = IsActive p t × (is_blocked p x t ≡ false) × (v ≡ (visible p x t).after)
Allowed p (Scans t span rows) = IsActive p t × ((x : List ℕ) → in_span span x ≡ true → is_blocked p x t ≡ false) × AreRows span (λ x. (visible p x t).after) rows
Allowed p (SnapshotScans t span rows) = (t ≤ closed_of p) × AreRows span (λ x. committed_value p x t) rows
Allowed p (Writes t x a) = IsActive p t × (too_late p x t ≡ false)
Allowed p (Commits t) = IsActive p t
Allowed p (Aborts t) = IsActive p t
Allowed p (Closes n) = (to : ℕ) × (n ≡ max (closed_of p) (decided_through p to))
Allowed p (SnapshotReads t x v) = (t ≤ closed_of p) × (v ≡ committed_value p x t)
Allowed p (HardCloses to n) = n ≡ max (closed_of p) to
Allowed p (Opens f seat kind span cursor) = (f ≡ suc (feeds_opened p)) × (horizon_of p ≤ cursor) × (kind.initial ≡ true → cursor ≤ closed_of p)
Allowed p (Polls f max ms) = (feed : Feed) × (feed_of p f ≡ Some feed) × (is_cancelled p f ≡ false) × (ms ≡ next_messages p f feed max)
Allowed p (Cancels f) = is_some (feed_of p f) ≡ true
Allowed p (Protects id t) = horizon_of p ≤ t
Allowed p (Releases id) = Unit {0}
Allowed p (Collects n) = (to : ℕ) × (n ≡ collection_horizon p to)
Allowed p NoEffect = Unit {0}

abbrev pub AllAllowed : List Effect → Type 0
AllAllowed [] = Unit {0}
AllAllowed (d ∷ p) = Allowed p d × AllAllowed p

-- what was read is past change: nothing came between, and the version stands
pub record IsKept (p : List Effect) (j : ℕ) (x : List ℕ) (k : ℕ) (v : After) : Type 0 where
  pub gap : (i : ℕ) → k < i → i < j → version_of p x i ≡ None
  pub whole : ((k ≡ 0) × (v ≡ None)) ⊎ ((0 < k) × (is_committed p k ≡ true) × (write_of p k x ≡ Some v))

-- a write between a read and its reader is too late
pub crossed : (p : List Effect) (j : ℕ) (x : List ℕ) (k : ℕ) (v : After) (i : ℕ) → IsRead p j x k v → k < i → i < j → too_late p x i ≡ true
crossed [] j x k v i r low high = absurd r
crossed (Reads t y w ∷ p) j x k v i r low high = grind (arith, common_steps, or_left, and_from, key_itself, lt-ltb, or_right, crossed p j x k v i)
crossed (Scans t span rows ∷ p) j x k v i r low high = grind (arith, common_steps, crossed p j x k v i)
crossed (_ ∷ p) j x k v i r low high = crossed p j x k v i r low high

-- what was found in another's version is that of a committed one
pub found_whole : (p : List Effect) (x : List ℕ) (t k : ℕ) (v : After) → (visible p x t).ts ≡ k → (visible p x t).after ≡ v → k < t → is_blocked p x t ≡ false
    → ((k ≡ 0) × (v ≡ None)) ⊎ ((0 < k) × (is_committed p k ≡ true) × (write_of p k x ≡ Some v))
found_whole p x t k v at is below free = grind (arith, common_steps, newest_is, version_wrote, by_test)

kept_through_write : (p : List Effect) (j : ℕ) (x : List ℕ) (k : ℕ) (v : After) (t : ℕ) (y : List ℕ) (a : After)
    → Allowed p (Writes t y a) → IsRead p j x k v → IsKept p j x k v → IsKept (Writes t y a ∷ p) j x k v
kept_through_write p j x k v t y a allowed r before = search (by_test, and_parts, same_key, eqb-true, crossed, both_ways, rules, arith)

kept_now : (p : List Effect) (t : ℕ) (y : List ℕ) (w : After) → is_blocked p y t ≡ false → w ≡ (visible p y t).after → (visible p y t).ts < t → IsKept p t y (visible p y t).ts w
kept_now p t y w free is below = grind (arith, common_steps, newest_is, found_whole)

-- what a read found stays so
pub kept : (p : List Effect) → AllAllowed p → (j : ℕ) (x : List ℕ) (k : ℕ) (v : After) → IsRead p j x k v → k < j → IsKept p j x k v
kept [] all j x k v r below = absurd r
kept (Reads t y w ∷ p) all j x k v r below = grind (arith, common_steps, kept_now, kept p all.1 j x k v)
kept (Scans t span rows ∷ p) all j x k v r below = elim r [
  | inl now ↦ rw (← now.0, ← now.2, ← now.3) (let h = kept_now p t x (value_among rows x) (all.0.1 x now.1) (among_rows span (λ y. (visible p y t).after) rows all.0.2 x now.1) (omega (arith, now.0, now.2)) in record { gap = h.gap; whole = h.whole })
  | inr before ↦ (let h = kept p all.1 j x k v before below in record { gap = h.gap; whole = h.whole })
]
kept (Writes t y a ∷ p) all j x k v r below = kept_through_write p j x k v t y a all.0 r (kept p all.1 j x k v r below)
kept (_ ∷ p) all j x k v r below = grind (arith, common_steps, kept p all.1 j x k v r below)

-- none is both committed and aborted
pub not_both : (p : List Effect) → AllAllowed p → (t : ℕ) → is_committed p t ≡ true → is_aborted p t ≡ false
not_both [] all t is = cc
not_both (_ ∷ p) all t is = grind (arith, common_steps, not_both p all.1)

-- a read was given what is now the newest committed version below its reader
pub reads_from : (p : List Effect) → AllAllowed p → (t : ℕ) (x : List ℕ) (k : ℕ) (v : After) → IsRead p (suc t) x k v → k ≤ t → IsNewest (committed_version_of p x) t k v
reads_from p all t x k v r below = grind (arith, common_steps, kept, by_test, no_version_wrote, not_both)

-- what is kept for a read stands in the map from which its reader began
pub kept_in_map : (p : List Effect) → AllAllowed p → (t : ℕ) (x : List ℕ) (k : ℕ) (v : After) → k ≤ t → IsKept p (suc t) x k v → map_at p t x ≡ v
kept_in_map p all t x k v below h = map_at_is p t x ∙ newest_at (committed_version_of p x) t k v (grind (arith, common_steps, by_test, no_version_wrote, not_both))

-- a read finds what the map has after the reader's own writes
pub read_agrees : (p q : List Effect) → AllAllowed p → (t : ℕ) (x : List ℕ) → is_aborted q (suc t) ≡ false → IsRead p (suc t) x (visible q x (suc t)).ts (visible q x (suc t)).after
    → (visible q x (suc t)).after ≡ serial_run q (suc t) (map_at p t) x
read_agrees p q all t x live r = let m = newest_is (version_of q x) (suc t) in by_test ((visible q x (suc t)).ts == suc t)
    (λ own. grind (arith, common_steps, eqb-true, after_is, or_else, version_wrote))
    (λ others.
    let below : (visible q x (suc t)).ts < suc t = grind (arith, nat_tests, m.at_most) in
    let before = kept_in_map p all t x (visible q x (suc t)).ts _ (omega arith) (kept p all (suc t) x _ _ r below) in
    grind (arith, common_steps, no_version_wrote, after_is))

-- the reads of t are answered from the map, as far as q, which p goes on from
pub agrees : (p q : List Effect) → AllAllowed p → AllAllowed q → ((j : ℕ) (x : List ℕ) (k : ℕ) (v : After) → IsRead q j x k v → IsRead p j x k v)
    → (t : ℕ) → ReadsAgree q (suc t) (map_at p t)
agrees p [] all all' sub t = tt
agrees p (Reads k y w ∷ q) all all' sub t = grind (arith, common_steps, read_agrees, agrees p q all all'.1)
agrees p (Scans k span rows ∷ q) all all' sub t = (
  λ e. let open' : Allowed q (Scans (suc t) span rows) = subst (λ n. Allowed q (Scans n span rows)) e all'.0 in
      rows_like span (λ x. (visible q x (suc t)).after) (serial_run q (suc t) (map_at p t)) rows
      (λ x inside. read_agrees p q all t x open'.0.unaborted (sub (suc t) x (visible q x (suc t)).ts (visible q x (suc t)).after (inl (e, inside, ap (λ n. (visible q x n).ts) e, among_rows span (λ y. (visible q y (suc t)).after) rows open'.2 x inside))))
      open'.2,
  agrees p q all all'.1 (λ j x n v r. sub j x n v (inr r)) t,
)
agrees p (_ ∷ q) all all' sub t = agrees p q all all'.1 sub t

-- closed never falls
pub closed_grows : (p : List Effect) (d : Effect) → Allowed p d → closed_of p ≤ closed_of (d ∷ p)
closed_grows p (_) allowed = grind (arith, common_steps)

-- what is closed stays
pub closed_stays : (p : List Effect) (d : Effect) → Allowed p d → (x : List ℕ) (i : ℕ) → i ≤ closed_of p → committed_version_of (d ∷ p) x i ≡ committed_version_of p x i
closed_stays p (_) allowed x i low = grind (arith, common_steps)

-- each snapshot read found what the map has
pub snapshots : (p q : List Effect) → AllAllowed q → ((x : List ℕ) (t : ℕ) → t ≤ closed_of q → committed_value p x t ≡ committed_value q x t) → SnapshotsAgree p q
snapshots p [] all same = tt
snapshots p (d ∷ q) all same = grind (arith, common_steps, closed_grows, newest_same, closed_stays, map_at_is, rows_like, snapshots p q all.1)

-- allowed deeds are those of one copy
pub one_copy : (p : List Effect) → AllAllowed p → IsOneCopy p
one_copy p all = grind (arith, common_steps, agrees, snapshots)
