-- A run between two lines, and where it stops.
use Rattle.std.specs.Prelude.{◌≡◌, ℕ, ◌+◌, true, false, List, [], ◌∷◌, ◌++◌, length, vec_len, Result, Ok, Err}
use Rattle.sessions.specs.Prelude.{All, Config, Event, IsCall, IsReason, RingInRange, SeatsInRange, first_of, header, most, script_text, transcript_text, ServeEnd}
use Rattle.sessions.specs.declared.ending.ServeEnd.TheVariants as end
use Rattle.sessions.specs.declared.callers.Callers.{Callers}
use Rattle.sessions.specs.declared.serving.Run.{Run}
use Rattle.sessions.specs.declared.serving.Terms.{Terms}
use Rattle.sessions.specs.Devices.{Reads, Writes, HasTaken}
use Rattle.sessions.specs.Waiting.{waiting}
use Rattle.sessions.specs.Runs.{HasMade, HasSpent, calls_of, EndsBy, FailsBy, IsServed, last_line}

-- The calls of these events were made, and what was read is their lines, with this rest behind them.
pub record HasCalled (r r' : Reads) (terms : Terms) (callers : Callers) (events : List Event) (rest : List ℕ) : Type 0 where
  pub made : HasMade callers.latest callers.seats.items events
  pub first : first_of callers.db ≡ terms.config.first
  pub in_range : SeatsInRange terms.config × RingInRange terms.config
  pub read : r'.given ≡ r.given ++ (script_text (calls_of events) ++ rest)
  pub calls : All (IsCall terms.format terms.config.seats) (calls_of events)

-- Their lines were taken. What was written and what waits to be is the transcript of the events. No read and no write has failed.
pub record IsGoing (r r' : Reads) (w w' : Writes) (run : Run) (events : List Event) : Type 0 where
  pub called : HasCalled r r' run.terms run.callers events (waiting run.lines)
  pub seats : vec_len run.callers.seats ≡ run.terms.config.seats
  pub formatted : run.lines.format ≡ run.terms.format
  pub found : run.lines.ended ≡ true → r'.ended ≡ true
  pub wrote : HasTaken w.taken w'.taken (transcript_text run.terms.format events) run.output.pending.items
  pub worked : (r'.failures ≡ r.failures) × (w'.failures ≡ w.failures)

-- what was written and what will be: what waits, and the line of the end, but nothing more once a write has failed
abbrev pub kept_at : ServeEnd → List ℕ → List ℕ → List ℕ
kept_at end.Output out pending = out
kept_at e out pending = out ++ (pending ++ last_line e)

-- why no call follows, before the database is finished; its history then begins with the events that a seat was told
pub record IsStopped (r r' : Reads) (w w' : Writes) (run : Run) (e : ServeEnd) : Type 0 where
  pub events : List Event
  pub rest : List ℕ
  pub called : HasCalled r r' run.terms run.callers events rest
  pub out : List ℕ
  pub wrote : w'.taken ≡ w.taken ++ out
  pub ends : (HasSpent run.callers.seats.items → run.terms.config.first + length events ≡ most)
      → EndsBy run.terms.format (run.terms.config.first + length events ≡ most) run.terms.config (script_text (calls_of events) ++ rest) r'.ended events (kept_at e out run.output.pending.items) e
  pub failed : FailsBy e r w r' w'

-- the end that the loop over all lines comes to
abbrev pub end_of : Result (Unit {0}) ServeEnd → ServeEnd
end_of (Ok _) = end.Done
end_of (Err e) = e

-- nothing was read, called or written, and the header waits to be
pub record IsFresh (run : Run) : Type 0 where
  pub made : HasMade run.callers.latest run.callers.seats.items []
  pub first : first_of run.callers.db ≡ run.terms.config.first
  pub seats : vec_len run.callers.seats ≡ run.terms.config.seats
  pub in_range : SeatsInRange run.terms.config × RingInRange run.terms.config
  pub formatted : run.lines.format ≡ run.terms.format
  pub waits : waiting run.lines ≡ []
  pub open_ended : run.lines.ended ≡ false
  pub pending : run.output.pending.items ≡ header run.terms.format

-- a call is made, and one event is more
abbrev pub MakesCall : Run → Run → Type 0
MakesCall run run' =
    (r r' : Reads) (w w' : Writes) (events : List Event) → IsGoing r r' w w' run events
    → (event : Event) × IsGoing r r' w w' run' (events ++ event ∷ [])

-- at the line of this number a run that was going stops without a read or a write
abbrev pub StopsBefore : Run → Run → ℕ → ServeEnd → Type 0
StopsBefore run run' number end =
    (r r' : Reads) (w w' : Writes) (events : List Event) → number ≡ length events + 1 → IsGoing r r' w w' run events → IsStopped r r' w w' run' end

-- the line of this number is called, and its event is kept or written
abbrev pub CallsLine : Run → Run → ℕ → Writes → Writes → Type 0
CallsLine run run' number w' w'' =
    (r r' : Reads) (w : Writes) (events : List Event) → number ≡ length events + 1 → IsGoing r r' w w' run events
    → (event : Event) × IsGoing r r' w w'' run' (events ++ event ∷ [])

-- at the line of this number a run that was going stops
abbrev pub StopsAtLine : Run → Run → ℕ → Writes → Writes → ServeEnd → Type 0
StopsAtLine run run' number w' w'' end =
    (r r' : Reads) (w : Writes) (events : List Event) → number ≡ length events + 1 → IsGoing r r' w w' run events → IsStopped r r' w w'' run' end

-- a run that had stopped so has been served by this end
abbrev pub ServesAs : Run → ServeEnd → Writes → Writes → ServeEnd → Type 0
ServesAs run e w' w'' e' = (r r' : Reads) (w : Writes) → IsStopped r r' w w' run e → IsServed run.terms.format run.terms.config r r' w w'' e'

-- why nothing was begun: the database wasn't opened, or it was, and memory was wanted
abbrev pub IsRefused : Config → ServeEnd → Type 0
IsRefused config (end.Open reason) = IsReason config reason
IsRefused config end.Memory = SeatsInRange config × RingInRange config
IsRefused config _ = ⊥
