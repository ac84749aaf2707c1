-- Lists of events put together in the order of their positions.
use Rattle.std.specs.Prelude.{◌≡◌, ℕ, ◌+◌, ◌<◌, List, [], ◌∷◌, ◌++◌, flat_map, Vec, IsPermutation}
use Rattle.std.specs.List.Sorted.{IsNonDecreasingBy}
use Rattle.races.specs.Prelude.{Event, IsGapless}
use Rattle.races.specs.declared.merging.MergeError.{MergeError}
use Rattle.races.specs.declared.merging.MergeError.TheVariants as errors

abbrev pub position_of : Event → ℕ
position_of e = e.position

-- all events of the lists
abbrev pub events_of : {Z : Type 0} → List (Vec Event Z) → List Event
events_of lists = flat_map (λ list. list.items) lists

-- where the first event stands
abbrev pub start_of : List Event → ℕ
start_of [] = 0
start_of (e ∷ es) = e.position

-- each event stands one place further than the one before it
abbrev pub IsUnbroken : List Event → Type 0
IsUnbroken events = IsGapless (start_of events) events

-- the events of the lists, each once, where each stands one place further than the one before it
pub record IsMerged (all merged : List Event) : Type 0 where
  pub same : IsPermutation all merged
  pub unbroken : IsUnbroken merged

-- sorted by position, the events are unbroken up to one at this position, which doesn't stand one place further than the one before it
pub record Breaks (how : ℕ → ℕ → Type 0) (sorted : List Event) (position : ℕ) : Type 0 where
  pub before : List Event
  pub last : Event
  pub event : Event
  pub after : List Event
  pub parts : sorted ≡ (before ++ last ∷ []) ++ event ∷ after
  pub unbroken : IsUnbroken (before ++ last ∷ [])
  pub stands : event.position ≡ position
  pub broken : how last.position event.position

-- how the first break is told
abbrev pub IsBreak : List Event → MergeError → Type 0
IsBreak sorted (errors.Repeated position) = Breaks (λ before here. here ≡ before) sorted position
IsBreak sorted (errors.Gap position) = Breaks (λ before here. before + 1 < here) sorted position
IsBreak sorted errors.NoMemory = ⊥

pub record IsRefused (all : List Event) (error : MergeError) : Type 0 where
  pub sorted : List Event
  pub same : IsPermutation all sorted
  pub rising : IsNonDecreasingBy position_of sorted
  pub breaks : IsBreak sorted error

abbrev pub IsReason : List Event → MergeError → Type 0
IsReason all errors.NoMemory = Unit {0}
IsReason all error = IsRefused all error
