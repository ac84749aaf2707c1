-- The key at which a scan ends, found one entry after another.
use Rattle.mvto_rules.proofs.Common.{AllByRecursion, Entry, RisingKeys, Span, Stored, chain_of, common_steps, in_span, is_committed_in, keys_of, version_in}
use Rattle.std.proofs.Common.{List, None, Option, Some, ap, arith, false, refl, true, ℕ, ◌∷◌, ◌≡◌, []}
use Rattle.version_chain.specs.declared.chain.Version as stored
use Rattle.mvto_rules.specs.Scans.{end_in, has_room, room_behind, stops_at, entries_of, keys_in, value_in}
use Rattle.mvto_rules.specs.declared.room.Room.{Room}
use Rattle.mvto_rules.proofs.Seeing.{IsThere}
use Rattle.mvto_rules.proofs.Walking.{each_found}

-- these entries are left, with this room, of a walk that ends where one through all of them does
pub record IsEnding (s : Stored) (t : ℕ) (span : Span) (rows bytes : ℕ) (rest : List Entry) (room : Room) : Type 0 where
  pub each : AllByRecursion (λ (e : Entry). (in_span span e.0 ≡ true) × (chain_of s e.0 ≡ e.1)) rest
  pub ends : end_in s t room.rows room.bytes (keys_of rest) ≡ end_in s t rows bytes (keys_in s span)

pub ending_begins : (s : Stored) (t : ℕ) (span : Span) (rows bytes : ℕ) (found : List Entry) → found ≡ entries_of s span → RisingKeys (keys_of s.entries) → IsEnding s t span rows bytes found (record { rows = rows; bytes = bytes })
ending_begins s t span rows bytes found those rising = record { each = each_found s span found [] found those rising refl; ends = ap (λ es. end_in s t rows bytes (keys_of es)) those }

-- it stops the reader
pub ending_stops : (s : Stored) (t : ℕ) (span : Span) (rows bytes : ℕ) (x : List ℕ) (vs : List stored.Version) (rest : List Entry) (room : Room) (o : Option stored.Version) → IsEnding s t span rows bytes ((x, vs) ∷ rest) room → IsThere (version_in s x) (is_committed_in s x) t o
    → stops_at t o ≡ true → None ≡ end_in s t rows bytes (keys_in s span)
ending_stops s t span rows bytes x vs rest room o ending there on = grind (arith, common_steps)

-- its row finds no room
pub ending_ends : (s : Stored) (t : ℕ) (span : Span) (rows bytes : ℕ) (x : List ℕ) (vs : List stored.Version) (rest : List Entry) (room : Room) (o : Option stored.Version) → IsEnding s t span rows bytes ((x, vs) ∷ rest) room → IsThere (version_in s x) (is_committed_in s x) t o
    → stops_at t o ≡ false → has_room room x (value_in o) ≡ false → Some x ≡ end_in s t rows bytes (keys_in s span)
ending_ends s t span rows bytes x vs rest room o ending there off none = grind (arith, common_steps)

-- or it does
pub ending_goes_on : (s : Stored) (t : ℕ) (span : Span) (rows bytes : ℕ) (x : List ℕ) (vs : List stored.Version) (rest : List Entry) (room room' : Room) (o : Option stored.Version) → IsEnding s t span rows bytes ((x, vs) ∷ rest) room → IsThere (version_in s x) (is_committed_in s x) t o
    → stops_at t o ≡ false → has_room room x (value_in o) ≡ true → room' ≡ room_behind room x (value_in o) → IsEnding s t span rows bytes rest room'
ending_goes_on s t span rows bytes x vs rest room room' o ending there off some left = grind (arith, common_steps)
