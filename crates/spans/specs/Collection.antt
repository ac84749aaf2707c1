-- The horizon, what holds it back, and which versions are dead below it (this project).
use Rattle.std.specs.Prelude.{ℕ, suc, List, [], ◌∷◌, ◌++◌, map, filter, flat_map, Bool, false, not, ◌&&◌, ◌||◌, ◌==◌, ◌-◌, nat_lt, nat_le, min, max, Option, Some, None, is_none}
use Rattle.std.specs.List.{list_any}
use Rattle.spans.specs.declared.calls.messages.Message.{Message}
use Rattle.spans.specs.declared.calls.messages.Message.TheVariants as messages
use Rattle.spans.specs.Effects.{After, Effect, Opens, Cancels, Protects, Releases, Collects}
use Rattle.spans.specs.Transactions.{closed_of, is_committed, is_aborted, begun_of, least_of}
use Rattle.spans.specs.Versions.{newest, write_of, write_set, committed_version_of}
use Rattle.spans.specs.Feeds.{told_to}

-- the horizon: what the last collection answered, and 0 at first. Reads below it are refused
abbrev pub horizon_of : List Effect → ℕ
horizon_of [] = 0
horizon_of (Collects n ∷ p) = n
horizon_of (_ ∷ p) = horizon_of p

-- a protection keeps what a read at its timestamp wants
pub record Protection : Type 0 where
  pub id : ℕ
  pub at : ℕ

abbrev pub protections_made : List Effect → ℕ
protections_made [] = 0
protections_made (Protects id t ∷ p) = suc (protections_made p)
protections_made (_ ∷ p) = protections_made p

-- the protections that stand
abbrev pub protections_of : List Effect → List Protection
protections_of [] = []
protections_of (Protects id t ∷ p) = record { id = id; at = t } ∷ protections_of p
protections_of (Releases id ∷ p) = filter (λ (n : Protection). not (n.id == id)) (protections_of p)
protections_of (_ ∷ p) = protections_of p

-- a protection of this number stands
abbrev pub is_protected : List Effect → ℕ → Bool
is_protected p id = list_any (λ (n : Protection). n.id == id) (protections_of p)

-- a feed lives where it was opened and not cancelled: its number and its cursor
pub record LiveFeed : Type 0 where
  pub number : ℕ
  pub cursor : ℕ

-- the live feed of this number and cursor
abbrev pub live_feed : ℕ → ℕ → LiveFeed
live_feed f c = record { number = f; cursor = c }

abbrev pub live_feeds : List Effect → List LiveFeed
live_feeds [] = []
live_feeds (Opens f seat kind span cursor ∷ p) = live_feed f cursor ∷ live_feeds p
live_feeds (Cancels f ∷ p) = filter (λ (n : LiveFeed). not (n.number == f)) (live_feeds p)
live_feeds (_ ∷ p) = live_feeds p

-- the floor by the last message: n where there is none, t after a resolved t, t - 1 after a row of t: more may follow
abbrev pub floor_after : ℕ → List Message → ℕ
floor_after n [] = n
floor_after n (messages.Row r ∷ ms) = floor_after (r.ts - 1) ms
floor_after n (messages.Resolved t ∷ ms) = floor_after t ms

-- the floor of a feed, never below its cursor: an initial feed's rows at its cursor are read there
abbrev pub floor_of : List Effect → LiveFeed → ℕ
floor_of p n = max n.cursor (floor_after n.cursor (told_to p n.number))

-- the horizon that a collection through `to` reaches: no protection and no live feed is passed, and it never falls
abbrev pub collection_horizon : List Effect → ℕ → ℕ
collection_horizon p to =
    max (horizon_of p)
    (least_of (min to (closed_of p))
    (map (λ (n : Protection). n.at) (protections_of p) ++ map (floor_of p) (live_feeds p)))

-- the version that a transaction made of a key
pub record VersionName : Type 0 where
  pub key : List ℕ
  pub ts : ℕ

abbrev pub version_name : List ℕ → ℕ → VersionName
version_name x t = record { key = x; ts = t }

-- one version for each key and each transaction that isn't aborted
abbrev pub versions_of : List Effect → List VersionName
versions_of p = flat_map (λ t. map (λ x. version_name x t) (write_set p t)) (filter (λ t. not (is_aborted p t)) (begun_of p))

abbrev pub is_delete : Option After → Bool
is_delete None = false
is_delete (Some a) = is_none a

-- a version is dead: committed at or below the horizon, and a delete, or older than another version of its key that is
-- committed at or below the horizon. A delete goes even as the newest: a read then finds nothing either way
abbrev pub is_dead : List Effect → VersionName → Bool
is_dead p v =
    is_committed p v.ts
    && (nat_le v.ts (horizon_of p)
    && (is_delete (write_of p v.ts v.key) || nat_lt v.ts (newest (committed_version_of p v.key) (horizon_of p)).ts))

abbrev pub dead_of : List Effect → List VersionName
dead_of p = filter (is_dead p) (versions_of p)
