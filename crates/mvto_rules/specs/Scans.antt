-- What a read finds at a key, what a scan reads, why a timestamp can't be read at, and how far a scan finds room. A row
-- has the bytes of its key and its value, and 17 more, as a message in bytes has (this project's own).
use Rattle.std.specs.Prelude.{Bool, None, Option, Some, if◌then◌else◌, not, ℕ, ◌&&◌, ◌==◌, List, [], ◌∷◌, ◌≡◌, nat_lt, false, length, true, ◌+◌, ◌-◌, ◌||◌}
use Rattle.std.specs.List.{filter}
use Rattle.std.specs.Map.{keys_of}
use Rattle.spans.specs.Answer.{first_refusal}
use Rattle.mvto_rules.specs.Prelude.{After, Version, Entry, Span, Stored, has_versions, in_span, is_committed_in, newest_in, pairs_of, BelowHorizon, Kept, NotClosed, Refusal, AreKeysOf, is_seen_blocked, seen}
use Rattle.mvto_rules.specs.declared.sight.Sight.{Sight}
use Rattle.mvto_rules.specs.declared.sight.Sight.TheVariants.{Blocked, Other, Own}
use Rattle.mvto_rules.specs.declared.reading.Reading.{Reading}
use Rattle.mvto_rules.specs.declared.reading.Reading.TheVariants.{Stopped, Through}
use Rattle.mvto_rules.specs.declared.room.Room.{Room}

-- a read at t whose newest version is this one, where there is one
abbrev pub sight_of : ℕ → Option Version → Sight
sight_of t None = Other 0
sight_of t (Some v) = if v.ts == t then Own else (if v.committed then Other v.ts else Blocked v.ts)

-- the timestamp of the version, or 0
abbrev pub ts_of : Option Version → ℕ
ts_of None = 0
ts_of (Some v) = v.ts

-- what the version left, or nothing
abbrev pub value_in : Option Version → After
value_in None = None
value_in (Some v) = v.after

-- a version of n stops a read of t: it is another's, and not committed
abbrev pub would_stop : (ℕ → Bool) → ℕ → ℕ → Bool
would_stop committed t n = not (n == 0) && (not (n == t) && not (committed n))

-- the keys of the span that have a version, each with its versions
abbrev pub entries_of : Stored → Span → List Entry
entries_of s span = filter (λ (e : Entry). in_span span e.0 && has_versions e.1) s.entries

-- their keys
abbrev pub keys_in : Stored → Span → List (List ℕ)
keys_in s span = keys_of (entries_of s span)

-- that is another's, which is undecided
abbrev pub stops_in : Stored → ℕ → List ℕ → Bool
stops_in s t x = would_stop (is_committed_in s x) t (newest_in s t x).ts

-- at the first of the keys where the newest version is another's, which is undecided, its timestamp
abbrev pub first_blocker : Stored → ℕ → List (List ℕ) → Option ℕ
first_blocker s t [] = None
first_blocker s t (x ∷ xs) = if stops_in s t x then Some (newest_in s t x).ts else first_blocker s t xs

-- the keys with a value, each with the newest
abbrev pub rows_in : Stored → ℕ → List (List ℕ) → List (List ℕ × List ℕ)
rows_in s t keys = pairs_of (λ x. (newest_in s t x).after) keys

-- what stops the reader first, or the rows
abbrev pub IsReading : Stored → ℕ → Span → Reading → Type 0
IsReading s t span (Stopped by) = first_blocker s t (keys_in s span) ≡ Some by
IsReading s t span (Through rows) = (first_blocker s t (keys_in s span) ≡ None) × (rows.items ≡ rows_in s t (keys_in s span))

-- what is below the horizon may be gone
abbrev pub horizon_refusal : Kept → ℕ → Option Refusal
horizon_refusal k t = if nat_lt t k.horizon then Some (BelowHorizon k.horizon) else None

-- the first test of a read at a closed timestamp that applies
abbrev pub snapshot_refusal : Kept → ℕ → Option Refusal
snapshot_refusal k t = first_refusal ((nat_lt k.closed t, NotClosed k.closed) ∷ (nat_lt t k.horizon, BelowHorizon k.horizon) ∷ [])

-- the bytes of a row
abbrev pub row_weight : List ℕ → List ℕ → ℕ
row_weight key value = 17 + length key + length value

-- a row finds no room: none is left for a row, or too few bytes are
abbrev pub is_over : (rows bytes : ℕ) → (key value : List ℕ) → Bool
is_over rows bytes key value = (rows == 0) || nat_lt bytes (row_weight key value)

-- where the rows end, if their next key is x with what is found there, and `on` tells it of the room that is left behind x
abbrev pub end_at : (rows bytes : ℕ) (x : List ℕ) → After → ((rows bytes : ℕ) → Option (List ℕ)) → Option (List ℕ)
end_at rows bytes x None on = on rows bytes
end_at rows bytes x (Some v) on = if is_over rows bytes x v then Some x else on (rows - 1) (bytes - row_weight x v)

-- the first key whose row finds no room in `rows` rows and `bytes` bytes, unless something stops the reader before it,
-- or at it
abbrev pub end_within : (stops : List ℕ → Bool) (value : List ℕ → After) (rows bytes : ℕ) → List (List ℕ) → Option (List ℕ)
end_within stops value rows bytes [] = None
end_within stops value rows bytes (x ∷ xs) = if stops x then None else end_at rows bytes x (value x) (λ r b. end_within stops value r b xs)

-- the end of a read of these keys at t, by what is kept
abbrev pub end_seen : Kept → ℕ → (rows bytes : ℕ) → List (List ℕ) → Option (List ℕ)
end_seen k t rows bytes keys = end_within (λ x. is_seen_blocked k x t) (λ x. (seen k x t).after) rows bytes keys

-- that of the kept keys of a span; below the horizon nothing is read, so nothing ends it
abbrev pub IsEnd : Kept → ℕ → Span → (rows bytes : ℕ) → Option (List ℕ) → Type 0
IsEnd k t span rows bytes end = (keys : List (List ℕ)) × AreKeysOf k span keys × (end ≡ (if nat_lt t k.horizon then None else end_seen k t rows bytes keys))

-- ---- as a walk through the store has it

-- that of these keys, by the versions of a store
abbrev pub end_in : Stored → ℕ → (rows bytes : ℕ) → List (List ℕ) → Option (List ℕ)
end_in s t rows bytes keys = end_within (stops_in s t) (λ x. (newest_in s t x).after) rows bytes keys

-- the newest version, where there is one, stops a read at t: it is another's, and undecided
abbrev pub stops_at : ℕ → Option Version → Bool
stops_at t None = false
stops_at t (Some v) = not (v.ts == t) && not v.committed

-- there is room for what is found at x; a key without a value needs none
abbrev pub has_room : Room → List ℕ → After → Bool
has_room room x None = true
has_room room x (Some v) = not (is_over room.rows room.bytes x v)

-- what is left of the room behind it
abbrev pub room_behind : Room → List ℕ → After → Room
room_behind room x None = room
room_behind room x (Some v) = record { rows = room.rows - 1; bytes = room.bytes - row_weight x v }
