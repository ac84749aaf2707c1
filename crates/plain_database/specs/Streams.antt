-- The rows that a feed was not told, where they begin and how many they are, and what a dump writes.
use Rattle.std.specs.Prelude.{ℕ, List, ◌≡◌, ◌&&◌, nat_le, nat_lt, max, Bool, true, false, if◌then◌else◌, Option, Some, None, take, length, ◌||◌, is_some}
use Rattle.std.specs.Option.{option_copied}
use Rattle.plain_database.specs.declared.feeds.record.FeedRecord.{FeedRecord}
use Rattle.plain_database.specs.declared.feeds.place.Place.{Place}
use Rattle.plain_database.specs.declared.feeds.place.Place.TheVariants.{Snapshot, Stream}
use Rattle.plain_database.specs.Prelude.{VersionName, newest, Event, Row, effects_of, untold_rows, in_whole, Effect, horizon_of, left_rows}
use Rattle.plain_database.specs.FeedTie.{feed_part, IsRecordOf}
use Rattle.plain_database.specs.Tied.{StandsFor}
use Rattle.plain_database.specs.declared.database.PlainDatabase.{PlainDatabase}
use Rattle.plain_database.specs.declared.dump.Dump.{Dump}
use Rattle.plain_database.specs.VersionsTied.{version_in}

-- the timestamp of a row, and 0 where there is none
abbrev pub row_ts : Option VersionName → ℕ
row_ts None = 0
row_ts (Some row) = row.ts

-- the key of a row that is above a timestamp
abbrev pub key_above : ℕ → Option VersionName → Option (List ℕ)
key_above ts None = None
key_above ts (Some row) = if nat_lt ts row.ts then Some row.key else None

-- an initial feed that resolved nothing from its cursor on, and was told no row above it, may have rows of the snapshot left
abbrev pub tells_snapshot : FeedRecord → Bool
tells_snapshot x = x.kind.initial && (nat_lt x.told.resolved x.cursor && nat_le (row_ts x.told.row) x.cursor)

-- all rows at or below this timestamp were told
abbrev pub told_through : FeedRecord → ℕ
told_through x = max x.cursor x.told.resolved

-- the place: in the snapshot behind the last row's key, or in the stream behind the last row, where that is above what was told through
abbrev pub IsPlace : FeedRecord → Place → Type 0
IsPlace x (Snapshot after) = (tells_snapshot x ≡ true) × (option_copied after ≡ key_above x.told.resolved x.told.row)
IsPlace x (Stream ts after) = (tells_snapshot x ≡ false) × (ts ≡ max (told_through x) (row_ts x.told.row)) × (option_copied after ≡ key_above (told_through x) x.told.row)

-- the rows are the first max, of the list through closed, that each feed of which this is the record was not told
abbrev pub AreLeft : PlainDatabase → FeedRecord → ℕ → List Row → Type 0
AreLeft db x max rows = (h : List Event) (f : ℕ) → StandsFor db h → IsRecordOf (effects_of h) f x → rows ≡ take max (untold_rows (effects_of h) f (feed_part x))

-- the feed's place is in the snapshot, behind the key
abbrev pub IsInSnapshot : FeedRecord → Option (List ℕ) → Type 0
IsInSnapshot x key = (tells_snapshot x ≡ true) × (key ≡ key_above x.told.resolved x.told.row)

-- each feed of which this is the record has still to tell so many rows, where the report is a whole one
abbrev pub IsUntoldIn : PlainDatabase → Bool → FeedRecord → Option ℕ → Type 0
IsUntoldIn db whole x o = (h : List Event) (f : ℕ) → StandsFor db h → IsRecordOf (effects_of h) f x → o ≡ in_whole whole (length (untold_rows (effects_of h) f (feed_part x)))

-- the dump of p that closes at m
pub record IsDump (p : List Effect) (m : ℕ) (d : Dump) : Type 0 where
  pub rows : d.rows.items ≡ left_rows p m
  pub to : d.to ≡ m
  pub horizon : d.horizon ≡ horizon_of p

-- the row is above the horizon, or has a value and is the newest at or below it
abbrev pub is_kept : PlainDatabase → Row → Bool
is_kept db r = nat_lt db.horizon r.ts || (is_some r.after && nat_le (newest (version_in db.versions r.key) db.horizon).ts r.ts)
