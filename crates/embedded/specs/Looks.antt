-- What an embedded database tells without a call: what a seat holds, its state, versions (this project's own).
use Rattle.std.specs.Prelude.{ℕ, List, ◌++◌, ◌==◌, ◌≡◌, false, filter, map, [], ◌≤◌, ◌<◌, ◌-◌, ◌⊎◌, All, drop, length, Option, Some, None, Result, Ok, Err}
use Rattle.spans.specs.declared.report.ProtectionReport.{ProtectionReport}
use Rattle.report_lines.specs.Lines.{report_text}
use Rattle.embedded.specs.Prelude.{Event, FeedReport, IsReport, Report, TransactionReport, effects_of, limit_in, limit_of, Effect, flat_map, horizon_of, to_le_bytes, value_version, w16}
use Rattle.embedded.specs.declared.held.HeldRecord.{HeldRecord}
use Rattle.embedded.specs.declared.versions.VersionFault.{VersionFault}
use Rattle.embedded.specs.declared.versions.VersionFault.TheVariants.{BelowHorizon, KeyLength, NoMemory}

-- a transaction: its timestamp, and how many keys it wrote
abbrev pub held_transaction : TransactionReport → HeldRecord
held_transaction n = record { number = n.timestamp; at = n.keys; kind = 1 }

-- a feed, and its floor
abbrev pub held_feed : FeedReport → HeldRecord
held_feed n = record { number = n.number; at = n.floor; kind = 2 }

-- a protection, and its timestamp
abbrev pub held_protection : ProtectionReport → HeldRecord
held_protection n = record { number = n.number; at = n.timestamp; kind = 3 }

-- of a report the seat's transactions, the seat's feeds, and all protections, which are of no seat
abbrev pub held_in : Report → ℕ → List HeldRecord
held_in r seat =
    map held_transaction (filter (λ (n : TransactionReport). n.seat == seat) r.transactions.items)
    ++ map held_feed (filter (λ (n : FeedReport). n.seat == seat) r.feeds.items)
    ++ map held_protection r.protections.items

-- of the live report of the history
abbrev pub AreHeldBy : List Event → ℕ → List HeldRecord → Type 0
AreHeldBy h seat held = (r : Report) × IsReport false (effects_of h) r × (held ≡ held_in r seat)

-- the text of a live report of the history, whose limit is the history's
abbrev pub IsStateText : List Event → List ℕ → Type 0
IsStateText h text = (r : Report) × IsReport false (effects_of h) r × (limit_in r ≡ limit_of (effects_of h)) × (text ≡ report_text r)

-- the bytes are a key
abbrev pub IsKey : List ℕ → Type 0
IsKey x = (1 ≤ length x) × (length x ≤ 256)

-- a key behind its length in two bytes, the lowest first
abbrev pub with_length : List ℕ → List ℕ
with_length x = to_le_bytes w16 (length x) ++ x

-- the key stands at the front, and left stands behind it
abbrev pub Leads : (x left bytes : List ℕ) → Type 0
Leads x left bytes = IsKey x × (bytes ≡ with_length x ++ left)

-- no key stands at the front
abbrev pub NoneLeads : List ℕ → Type 0
NoneLeads bytes = (x left : List ℕ) → Leads x left bytes → ⊥

-- a version as a number: 0 where the key has no value
abbrev pub version_number : Option ℕ → ℕ
version_number None = 0
version_number (Some t) = t

-- why no further key was told: none is left, or no room; or no key stands there; or it is long, and ran out of memory
abbrev pub EndsBy : (left : List ℕ) (room : ℕ) → Result (Unit {0}) VersionFault → Type 0
EndsBy left room (Ok _) = (left ≡ []) ⊎ (room ≡ 0)
EndsBy left room (Err KeyLength) = (0 < room) × (0 < length left) × NoneLeads left
EndsBy left room (Err NoMemory) = (0 < room) × (x : List ℕ) × (rest : List ℕ) × Leads x rest left × (24 < length x)
EndsBy left room (Err BelowHorizon) = ⊥

-- the versions at t of keys that stand one behind another, each behind its length: how many were told, and why no further
pub record AreVersions (p : List Effect) (t : ℕ) (bytes versions versions' : List ℕ) (count : ℕ) (result : Result (Unit {0}) VersionFault) : Type 0 where
  pub high : horizon_of p ≤ t
  pub keys : List (List ℕ)
  pub left : List ℕ
  pub each : All IsKey keys
  pub read : bytes ≡ flat_map with_length keys ++ left
  pub room : length keys ≤ length versions
  pub told : versions' ≡ map (λ x. version_number (value_version p x t)) keys ++ drop (length keys) versions
  pub counted : count ≡ length keys
  pub ends : EndsBy left (length versions - length keys) result

-- below the horizon none is told
abbrev pub AreVersionsAt : (p : List Effect) (t : ℕ) (bytes versions versions' : List ℕ) (count : ℕ) → Result (Unit {0}) VersionFault → Type 0
AreVersionsAt p t bytes versions versions' count (Err BelowHorizon) = (t < horizon_of p) × (count ≡ 0) × (versions' ≡ versions)
AreVersionsAt p t bytes versions versions' count result = AreVersions p t bytes versions versions' count result
