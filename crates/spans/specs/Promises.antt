-- What the guide promises of a transaction's own writes, of closed and the horizon, of closed maps, of snapshots and of
-- counts, in every legal history (this project).
use Rattle.std.specs.Prelude.{ℕ, List, [], ◌∷◌, ◌++◌, All, filter, length, true, false, not, ◌-◌, ◌≡◌, ◌≤◌, Option, Some, None, if◌then◌else◌}
use Rattle.spans.specs.declared.calls.commands.Cmd.TheVariants.{Stats}
use Rattle.spans.specs.declared.calls.replies.Reply.TheVariants as replies
use Rattle.spans.specs.Keys.{AreDistinct, in_span, value_among}
use Rattle.spans.specs.Effects.{After, Effect, Reads, Scans, Protects, Releases}
use Rattle.spans.specs.Transactions.{closed_of, undecided_timestamps}
use Rattle.spans.specs.Versions.{newest, write_of, committed_version_of}
use Rattle.spans.specs.Feeds.{Feed, feed_of, is_cancelled}
use Rattle.spans.specs.Serial.{map_at}
use Rattle.spans.specs.Collection.{Protection, LiveFeed, live_feed, horizon_of, protections_of, live_feeds, floor_of, VersionName, version_name, versions_of, is_dead, dead_of}
use Rattle.spans.specs.Answer.{answer_of}

-- where a transaction has written a key, each of its reads of it is given what it wrote there last, also where it doesn't commit
abbrev pub ReadsOwn : List Effect → Type 0
ReadsOwn [] = Unit {0}
ReadsOwn (Reads t x v ∷ p) = ((a : After) → write_of p t x ≡ Some a → v ≡ a) × ReadsOwn p
ReadsOwn (Scans t span rows ∷ p) =
    ((x : List ℕ) (a : After) → in_span span x ≡ true → write_of p t x ≡ Some a → value_among rows x ≡ a) × ReadsOwn p
ReadsOwn (_ ∷ p) = ReadsOwn p

-- closed and the horizon never fall
pub record NeverFalls (p p' : List Effect) : Type 0 where
  pub closed : closed_of p ≤ closed_of p'
  pub horizon : horizon_of p ≤ horizon_of p'

-- closed and the horizon fell at no event
abbrev pub HasRisen : List Effect → Type 0
HasRisen [] = Unit {0}
HasRisen (d ∷ p) = NeverFalls p (d ∷ p) × HasRisen p

-- of a later list of effects, each map at or below where closed was is what it was then
abbrev pub MapsStand : (later p : List Effect) → Type 0
MapsStand later p = (t : ℕ) → t ≤ closed_of p → map_at later t ≡ map_at p t

-- a protection of this number isn't released by any of the effects
abbrev pub Stands : ℕ → List Effect → Type 0
Stands id [] = Unit {0}
Stands id (Releases n ∷ p) = (n ≡ id → ⊥) × Stands id p
Stands id (_ ∷ p) = Stands id p

-- while a protection isn't released, the horizon doesn't pass its timestamp
abbrev pub ProtectionsHold : List Effect → Type 0
ProtectionsHold p = (after before : List Effect) (id t : ℕ) → p ≡ after ++ Protects id t ∷ before → Stands id after → horizon_of p ≤ t

-- while a feed isn't cancelled, the horizon doesn't pass its floor
abbrev pub FeedsHold : List Effect → Type 0
FeedsHold p =
    (f : ℕ) (feed : Feed) → feed_of p f ≡ Some feed → is_cancelled p f ≡ false → horizon_of p ≤ floor_of p (live_feed f feed.cursor)

-- the horizon passes neither closed, nor a protection that stands, nor the floor of a feed that lives. `held` and `living`
-- promise the last two to the holder of one
pub record IsHorizonHeld (p : List Effect) : Type 0 where
  pub closed : horizon_of p ≤ closed_of p
  pub protections : All (λ (n : Protection). horizon_of p ≤ n.at) (protections_of p)
  pub feeds : All (λ (n : LiveFeed). horizon_of p ≤ floor_of p n) (live_feeds p)
  pub held : ProtectionsHold p
  pub living : FeedsHold p

-- the committed versions that are left once the dead ones are dropped
abbrev pub left_version_of : List Effect → List ℕ → ℕ → Option After
left_version_of p x t = if is_dead p (version_name x t) then None else committed_version_of p x t

-- what is dropped changes no snapshot from the horizon on (by values: a delete may be dropped as the newest version)
abbrev pub SnapshotsStand : List Effect → Type 0
SnapshotsStand p =
    (x : List ℕ) (t : ℕ) → horizon_of p ≤ t → (newest (left_version_of p x) t).after ≡ (newest (committed_version_of p x) t).after

-- the versions that aren't dead
abbrev pub left_versions : List Effect → List VersionName
left_versions p = filter (λ v. not (is_dead p v)) (versions_of p)

-- statistics count each version that isn't dead once, and any seat is told that count and the others
pub record AreVersionsCounted (p : List Effect) : Type 0 where
  pub once : AreDistinct (versions_of p)
  pub left : length (left_versions p) ≡ length (versions_of p) - length (dead_of p)
  pub told : (seat : ℕ) → answer_of p seat Stats
      ≡ replies.Stats (length (left_versions p)) (length (undecided_timestamps p)) (length (live_feeds p)) (closed_of p) (horizon_of p)
