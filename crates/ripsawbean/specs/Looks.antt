-- What a program is told of a handle's database without a call (this project's own).
use Rattle.std.specs.Prelude.{ℕ, zero, suc, List, ◌++◌, ◌≡◌, drop, length, take, Option, Some, None, Result, Ok, Err, ◌⊎◌}
use Rattle.engine.specs.Looking.{ArePlaces, feed_floor}
use Rattle.engine.specs.declared.looking.Places.{Places}
use Rattle.embedded.specs.Looks.{AreHeldBy, AreVersionsAt, IsStateText}
use Rattle.embedded.specs.declared.held.HeldRecord.{HeldRecord}
use Rattle.embedded.specs.declared.versions.VersionFault.{VersionFault}
use Rattle.embedded.specs.declared.versions.VersionFault.TheVariants.{BelowHorizon, KeyLength, NoMemory}
use Rattle.embedded.specs.declared.event_record.EventRecord.{EventRecord}
use Rattle.ripsawbean.specs.Prelude.{Database, Event, StandsFor, effects_of, Copied, last_of, record_of}
use Rattle.ripsawbean.specs.ReplicaExports.{number_or_none}
use Rattle.ripsawbean.specs.declared.looks.PlacesRecord.{PlacesRecord}

-- ---- versions

abbrev pub versions_number : Result (Unit {0}) VersionFault → ℕ
versions_number (Ok _) = 0
versions_number (Err KeyLength) = 4
versions_number (Err NoMemory) = 12
versions_number (Err BelowHorizon) = 24

-- the versions of keys were told, and why no further; of a closed handle none
abbrev pub ToldVersions : Option Database → (t : ℕ) (keys : List ℕ) → ℕ → (versions versions' : List ℕ) → ℕ → Type 0
ToldVersions (Some d) t keys number versions versions' count =
    (result : Result (Unit {0}) VersionFault) × (number ≡ versions_number result)
    × ((h : List Event) → StandsFor d h → AreVersionsAt (effects_of h) t keys versions versions' count result)
ToldVersions None t keys number versions versions' count = (number ≡ 16) × (count ≡ 0) × (versions' ≡ versions)

-- ---- places

-- places and the floor of a feed in numbers, where none is the number that is no timestamp
abbrev pub places_record : Places → Option ℕ → PlacesRecord
places_record places floor = record {
  closed = places.closed;
  horizon = places.horizon;
  limit = places.limit;
  oldest = number_or_none places.oldest;
  reached = places.reached;
  floor = number_or_none floor;
}

abbrev pub no_places : PlacesRecord
no_places = record { closed = 0; horizon = 0; limit = 0; oldest = 0; reached = 0; floor = 0 }

-- how far a handle's database has come, and a feed of it; all 0 where the handle is closed
abbrev pub ToldPlaces : Option Database → (feed : ℕ) → ℕ → PlacesRecord → Type 0
ToldPlaces (Some d) feed number told =
    (number ≡ 0) × ((h : List Event) → StandsFor d h → (places : Places) × ArePlaces (effects_of h) places × (told ≡ places_record places (feed_floor (effects_of h) feed)))
ToldPlaces None feed number told = (number ≡ 16) × (told ≡ no_places)

-- ---- what a seat holds

-- at 0 as many as there is room for, and how many there are; at any other number none is shown
abbrev pub ToldHeld : Option Database → (seat : ℕ) → ℕ → (out out' : List HeldRecord) → ℕ → Type 0
ToldHeld (Some d) seat zero out out' count =
    (h : List Event) → StandsFor d h → (held : List HeldRecord) × AreHeldBy h seat held × (count ≡ length held) × (out' ≡ take (length out) held ++ drop (length held) out)
ToldHeld (Some d) seat (suc n) out out' count = (suc n ≡ 12) × (count ≡ 0) × (out' ≡ out)
ToldHeld None seat number out out' count = (number ≡ 16) × (count ≡ 0) × (out' ≡ out)

-- ---- its state

-- done, or no memory for the text; of a closed handle that it is closed
abbrev pub IsStateNumber : Option Database → ℕ → Type 0
IsStateNumber (Some d) number = (number ≡ 0) ⊎ (number ≡ 14)
IsStateNumber None number = number ≡ 16

-- at 0 the text of a live report of the database's history is shown, and its whole length told; at any other number nothing is
abbrev pub ToldState : ℕ → Option Database → (before after : List ℕ) → ℕ → Type 0
ToldState zero (Some d) before after length = (h : List Event) → StandsFor d h → (text : List ℕ) × IsStateText h text × Copied text before after length
ToldState zero None before after length = ⊥
ToldState (suc n) d before after length = (length ≡ 0) × (after ≡ before)

-- ---- its last event

-- the last event of a handle's database in numbers; all 0 where there is none, or the handle is closed
abbrev pub ToldLast : Option Database → ℕ → EventRecord → Type 0
ToldLast (Some d) number told = (number ≡ 0) × (told ≡ record_of (last_of d))
ToldLast None number told = (number ≡ 16) × (told ≡ record_of None)
