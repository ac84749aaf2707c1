-- What a run of a script is: its events, what it read and wrote, and how it ended.
use Rattle.std.specs.Prelude.{◌≡◌, ℕ, ◌≤◌, List, [], ◌∷◌, ◌++◌, length, map, reverse, sum_by, true, ◌+◌, ◌⊎◌, Bool, position, Some, None}
use mathlib.Core.Option.{some}
use lib.ListN.{get_elem?}
use Rattle.spans.specs.Legal.{IsLegal, IsGapless}
use Rattle.spans.specs.declared.calls.commands.Cmd.{Cmd}
use Rattle.spelled_words.specs.declared.fault.LineFault.{LineFault}
use Rattle.word_lines.specs.Reading.{byte_words_at, WantsMemory}
use Rattle.word_lines.specs.Table.{table}
use Rattle.sessions.specs.Prelude.{Event, Ghosts, Seat, Served, flat_map, met_spent, mine, seen, Config, Format, IsReason, RingInRange, SeatsInRange, StartsWith, fault_line, is_newline, most, script_at, script_text, spent_line, transcript_text, ServeEnd}
use Rattle.sessions.specs.Devices.{Reads, Writes}
use Rattle.sessions.specs.declared.ending.ServeEnd.TheVariants as end

-- events, each behind those that came between it and the one before it
abbrev pub woven : List (List Event × Event) → List Event
woven steps = flat_map (λ (s : List Event × Event). s.0 ++ s.1 ∷ []) steps

abbrev pub told : List (List Event × Event) → List Event
told steps = map (λ (s : List Event × Event). s.1) steps

module _ {C : Ghosts Served Event} where
  -- The calls of the seats made these events, in this order. The seat that called last has seen them
  -- all, no other has seen more, and the seats have as many of their own.
  pub record HasMade (last : ℕ) (seats : List (Seat Served Event C)) (events : List Event) : Type 0 where
    pub steps : List (List Event × Event)
    pub events_are : events ≡ told steps
    pub latest : Seat Served Event C
    pub at : get_elem? seats last ≡ some latest
    pub sees : seen latest ≡ woven steps
    pub behind : (k : ℕ) (s : Seat Served Event C) → get_elem? seats k ≡ some s → length (seen s) ≤ length (woven steps)
    pub counted : sum_by (λ (s : Seat Served Event C). length (mine s)) seats ≡ length events

  -- whatever events these seats have made, of whom this one called last, the new ones have made one more, or no other
  abbrev pub HasMadeMore : ℕ → List (Seat Served Event C) → ℕ → List (Seat Served Event C) → Event → Type 0
  HasMadeMore last seats last' seats' event = (events : List Event) → HasMade last seats events → HasMade last' seats' (events ++ event ∷ [])

  abbrev pub HasMadeNone : ℕ → List (Seat Served Event C) → ℕ → List (Seat Served Event C) → Type 0
  HasMadeNone last seats last' seats' = (events : List Event) → HasMade last seats events → HasMade last' seats' events

  -- one of the seats knows that no position is left
  abbrev pub HasSpent : List (Seat Served Event C) → Type 0
  HasSpent seats = (k : ℕ) × (s : Seat Served Event C) × (get_elem? seats k ≡ some s) × (met_spent s ≡ true)

-- one legal history, the oldest event first, whose positions run from first on without a gap to 18446744073709551614 at most
pub record IsHistory (first : ℕ) (events : List Event) : Type 0 where
  pub legal : IsLegal (reverse events)
  pub gapless : IsGapless first events
  pub bounded : first + length events ≤ most

-- what a source may hold in all that has given so much: this, and more unless it has ended
pub record MayHold (given : List ℕ) (ended : Bool) (whole : List ℕ) : Type 0 where
  pub rest : List ℕ
  pub goes_on : whole ≡ given ++ rest
  pub stops : ended ≡ true → rest ≡ []

-- the session and the command of an event, and those of events in their order
abbrev pub call_of : Event → ℕ × Cmd
call_of e = (e.seat, e.cmd)

abbrev pub calls_of : List Event → List (ℕ × Cmd)
calls_of events = map call_of events

-- the whole lines of the input are these calls, and behind them is no newline
pub record AreLines (format : Format) (seats : ℕ) (input : List ℕ) (calls : List (ℕ × Cmd)) : Type 0 where
  pub lines : List ℕ
  pub rest : List ℕ
  pub parts : input ≡ lines ++ rest
  pub read : script_at format seats lines ≡ record { calls = calls; fault = None }
  pub unended : None ≡ position is_newline rest

-- whatever the source holds, its first calls are these
abbrev pub BeginWith : Format → ℕ → List ℕ → Bool → List (ℕ × Cmd) → Type 0
BeginWith format seats input ended calls = (whole : List ℕ) → MayHold input ended whole → StartsWith (script_at format seats whole).calls calls

-- whatever the source holds, its calls are these, up to this faulty line
abbrev pub EndWithFault : Format → ℕ → List ℕ → Bool → List (ℕ × Cmd) → ℕ → LineFault → Type 0
EndWithFault format seats input ended calls line fault = (whole : List ℕ) → MayHold input ended whole → script_at format seats whole ≡ record { calls = calls; fault = Some (record { line = line; fault = fault }) }

-- all positions are used, and at this line comes a further call
pub record IsSpentAt (format : Format) (used : Type 0) (seats : ℕ) (input : List ℕ) (ended : Bool) (calls : List (ℕ × Cmd)) (line : ℕ) : Type 0 where
  pub all : used
  pub numbered : line ≡ length calls + 1
  pub call : ℕ × Cmd
  pub next : BeginWith format seats input ended (calls ++ call ∷ [])

-- the line that ends the output of a run, if any does
abbrev pub IsLast : Format → Type 0 → ℕ → List ℕ → Bool → List (ℕ × Cmd) → List ℕ → Type 0
IsLast format used seats input ended calls last =
    (last ≡ [])
    ⊎ ((line : ℕ) × (f : LineFault) × EndWithFault format seats input ended calls line f × (last ≡ fault_line line f))
    ⊎ ((line : ℕ) × IsSpentAt format used seats input ended calls line × (last ≡ spent_line line))

-- the output begins the text of the events with the line that ends it
pub record IsPart (format : Format) (used : Type 0) (seats : ℕ) (input : List ℕ) (ended : Bool) (events : List Event) (output : List ℕ) : Type 0 where
  pub last : List ℕ
  pub is_last : IsLast format used seats input ended (calls_of events) last
  pub begins : StartsWith (transcript_text format events ++ last) output

-- behind these calls stands a line with a long key, value or bound
pub record NextWants (format : Format) (seats : ℕ) (input : List ℕ) (calls : List (ℕ × Cmd)) : Type 0 where
  pub line : List ℕ
  pub rest : List ℕ
  pub parts : input ≡ script_text calls ++ (line ++ rest)
  pub wants : WantsMemory (byte_words_at format table seats line)

-- memory was wanted at the start, before anything was read or written; or for the next line's command; or for the text of the latest event
abbrev pub IsWanting : Format → ℕ → List ℕ → List Event → List ℕ → Type 0
IsWanting format seats input events output =
    ((input ≡ []) × (events ≡ []) × (output ≡ []))
    ⊎ (NextWants format seats input (calls_of events) × (output ≡ transcript_text format events))
    ⊎ ((before : List Event) × (e : Event) × (events ≡ before ++ e ∷ []) × (output ≡ transcript_text format before))

-- the line that an end puts behind all that was kept
abbrev pub last_line : ServeEnd → List ℕ
last_line (end.Fault line fault) = fault_line line fault
last_line (end.Spent line) = spent_line line
last_line _ = []

-- how each end comes, after these events and with this output
abbrev pub EndsBy : Format → Type 0 → Config → List ℕ → Bool → List Event → List ℕ → ServeEnd → Type 0
EndsBy format used config input ended events output end.Done = (ended ≡ true) × (script_at format config.seats input ≡ record { calls = calls_of events; fault = None }) × (output ≡ transcript_text format events)
EndsBy format used config input ended events output (end.Fault line fault) = EndWithFault format config.seats input ended (calls_of events) line fault × (output ≡ transcript_text format events ++ fault_line line fault)
EndsBy format used config input ended events output (end.Spent line) = IsSpentAt format used config.seats input ended (calls_of events) line × (output ≡ transcript_text format events ++ spent_line line)
EndsBy format used config input ended events output (end.Open reason) = IsReason config reason × (input ≡ []) × (events ≡ []) × (output ≡ [])
EndsBy format used config input ended events output end.Input = AreLines format config.seats input (calls_of events) × (output ≡ transcript_text format events)
EndsBy format used config input ended events output end.Output = IsPart format used config.seats input ended events output
EndsBy format used config input ended events output end.Memory = IsWanting format config.seats input events output

-- the limits of a database are kept, but at `Open`, which says otherwise or that it ran out of memory, and comes before all others
abbrev pub IsOpenAt : Config → ServeEnd → Type 0
IsOpenAt config (end.Open reason) = Unit {0}
IsOpenAt config _ = SeatsInRange config × RingInRange config

-- how often reads and writes failed in the run: what waits is written also where a read has failed
abbrev pub FailsBy : ServeEnd → Reads → Writes → Reads → Writes → Type 0
FailsBy end.Input r w r' w' = (r'.failures ≡ r.failures + 1) × (w'.failures ≡ w.failures)
FailsBy end.Output r w r' w' = (r.failures ≤ r'.failures) × (r'.failures ≤ r.failures + 1) × (w'.failures ≡ w.failures + 1)
FailsBy _ r w r' w' = (r'.failures ≡ r.failures) × (w'.failures ≡ w.failures)

-- what is known of a run, where this was known of its source and its sink before it, and that after it
pub record IsServed (format : Format) (config : Config) (r r' : Reads) (w w' : Writes) (e : ServeEnd) : Type 0 where
  -- the events are one history from the first position on, which has no gap
  pub events : List Event
  pub history : IsHistory config.first events
  pub input : List ℕ
  pub read : r'.given ≡ r.given ++ input
  pub output : List ℕ
  pub wrote : w'.taken ≡ w.taken ++ output
  -- their sessions and commands begin those of the input
  pub begins : BeginWith format config.seats input r'.ended (calls_of events)
  pub ends : EndsBy format (config.first + length events ≡ most) config input r'.ended events output e
  pub opened : IsOpenAt config e
  pub failed : FailsBy e r w r' w'
