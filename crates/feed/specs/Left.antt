-- What is left for a feed in the store: the rest of an initial feed's snapshot, and the stored rows. What finds room: a
-- row has the bytes of its key and its value, and 17 more, as a message in bytes has (this project's own).
use Rattle.std.specs.Prelude.{Bool, List, None, Option, Some, true, false, if◌then◌else◌, nat_lt, take, ℕ, ◌==◌, ◌≡◌, ◌<◌, [], length, nat_le, suc, ◌+◌, ◌-◌, ◌∷◌}
use Rattle.spans.specs.declared.calls.messages.Message.TheVariants as messages
use Rattle.feed.specs.Prelude.{After, AreFirsts, AreStored, IsFirst, Place, Row, Stored, VersionName, is_committed_in, version_in, AreLeft, last_name, last_resolved, messages_left, Message}
use Rattle.feed.specs.declared.live.telling.Told.{Told}

-- there is a last row, and it is above t
abbrev pub is_row_above : Option VersionName → ℕ → Bool
is_row_above None t = false
is_row_above (Some n) t = nat_lt t n.ts

-- the key of the last row, where that is at t
abbrev pub key_at : ℕ → Option VersionName → Option (List ℕ)
key_at t None = None
key_at t (Some n) = if n.ts == t then Some n.key else None

-- a row of a snapshot at t may be left
pub record IsLeftAt (place : Place) (t : ℕ) : Type 0 where
  pub initial : place.kind.initial ≡ true
  pub at : t ≡ place.cursor
  pub untold : place.after < place.cursor
  pub last : is_row_above place.row place.cursor ≡ false

-- no row of a snapshot is left
abbrev pub IsNoneLeft : Place → Type 0
IsNoneLeft place = (version : List ℕ → ℕ → Option After) (r : Row) → IsFirst version place r → ⊥

-- these are the first n rows that are left of a snapshot
pub record AreNextFirstsAt (store : Stored) (place : Place) (n : ℕ) (rows : List Row) : Type 0 where
  pub all : List Row
  pub firsts : AreFirsts (version_in store) place all
  pub first : rows ≡ take n all

-- these are the first n stored rows that are left above the cursor
pub record AreNextStoredAt (store : Stored) (place : Place) (through n : ℕ) (rows : List Row) : Type 0 where
  pub all : List Row
  pub stored : AreStored (version_in store) (is_committed_in store) place through all
  pub first : rows ≡ take n all

-- the first of the rows that are left for a feed, with the resolved message, and the place behind these
pub record IsTold (store : Stored) (place : Place) (closed max : ℕ) (told : Told) : Type 0 where
  pub rows : List Row
  pub left : AreLeft (version_in store) (is_committed_in store) place closed rows
  pub first : told.messages.items ≡ take max (messages_left closed place rows)
  pub after : told.place.after ≡ last_resolved place.after told.messages.items
  pub row : told.place.row ≡ last_name None told.messages.items

-- the bytes of a value, none of a delete
abbrev pub value_weight : After → ℕ
value_weight None = 0
value_weight (Some value) = length value

-- the bytes of a message
abbrev pub message_weight : Message → ℕ
message_weight (messages.Resolved t) = 17
message_weight (messages.Row r) = 17 + length r.key + value_weight r.after

-- how many messages, from the first on, have at most so many bytes together
abbrev pub count_within : ℕ → List Message → ℕ
count_within bytes [] = 0
count_within bytes (m ∷ ms) = if nat_le (message_weight m) bytes then suc (count_within (bytes - message_weight m) ms) else 0

-- the same of messages of which at most max were asked for, and max where all of them find room
abbrev pub count_or : (max bytes : ℕ) → List Message → ℕ
count_or max bytes ms = if nat_lt (count_within bytes ms) (length ms) then count_within bytes ms else max

-- of the first max messages that are left for a feed at the place n find room
pub record IsCountLeft (store : Stored) (closed max bytes : ℕ) (place : Place) (n : ℕ) : Type 0 where
  pub rows : List Row
  pub left : AreLeft (version_in store) (is_committed_in store) place closed rows
  pub count : n ≡ count_or max bytes (take max (messages_left closed place rows))

-- the same of the feed of a number; none of one that doesn't live
abbrev pub IsFeedCount : Stored → (closed max bytes : ℕ) → Option Place → ℕ → Type 0
IsFeedCount store closed max bytes None n = n ≡ 0
IsFeedCount store closed max bytes (Some place) n = IsCountLeft store closed max bytes place n
