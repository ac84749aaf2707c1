-- How a job of the program ends: what is known then of its input, its answer and its output.
use Rattle.std.specs.Prelude.{◌≡◌, ◌+◌, ◌≤◌, Result, Ok, Err, ℕ, ◌⊎◌, List, ◌++◌}
use Rattle.sessions.specs.Runs.{IsServed}
use Rattle.sessions.specs.declared.ending.ServeEnd.{ServeEnd}
use Rattle.sessions.specs.declared.ending.ServeEnd.TheVariants as run
use Rattle.jobs.specs.Prelude.{Config, Format, Reads, Writes, EndsOnce, HasBegun, End}
use Rattle.jobs.specs.declared.ending.End.TheVariants as ends

-- the end of a run, without the line at which positions were spent
abbrev pub end_of_run : ServeEnd → End
end_of_run run.Done = ends.Done
end_of_run (run.Fault line fault) = ends.Faulty line fault
end_of_run (run.Spent line) = ends.Spent
end_of_run (run.Open reason) = ends.Open reason
end_of_run run.Input = ends.Input
end_of_run run.Output = ends.Output
end_of_run run.Memory = ends.Memory

-- the end of a job that was written with `?`
abbrev pub end_of : Result End ServeEnd → End
end_of (Ok e) = e
end_of (Err e) = end_of_run e

-- how often reads and writes failed in a job
abbrev pub FailsAt : End → Reads → Writes → Reads → Writes → Type 0
FailsAt ends.Input r w r' w' = (r'.failures ≡ r.failures + 1) × (w'.failures ≡ w.failures)
FailsAt ends.Output r w r' w' = (r.failures ≤ r'.failures) × (r'.failures ≤ r.failures + 1) × (w'.failures ≡ w.failures + 1)
FailsAt _ r w r' w' = (r'.failures ≡ r.failures) × (w'.failures ≡ w.failures)

-- the script was served, and this is the end without its line
pub record IsRun (format : Format) (config : Config) (r r' : Reads) (w w' : Writes) (e : End) : Type 0 where
  pub run_end : ServeEnd
  pub served : IsServed format config r r' w w' run_end
  pub end : e ≡ end_of_run run_end
  pub failed : FailsAt e r w r' w'

-- the whole input was read and answered, and the answer was written whole; the end is the answer's
pub record HasAnswered (answers : List ℕ → End → List ℕ → Type 0) (r r' : Reads) (w w' : Writes) (e : End) : Type 0 where
  pub text : List ℕ
  pub read : r'.given ≡ r.given ++ text
  pub whole : EndsOnce r r'
  pub out : List ℕ
  pub right : answers text e out
  pub wrote : w'.taken ≡ w.taken ++ out

-- the whole input was read and answered, and the answer was begun
pub record HasBegunAnswer (answers : List ℕ → End → List ℕ → Type 0) (r r' : Reads) (w w' : Writes) : Type 0 where
  pub text : List ℕ
  pub read : r'.given ≡ r.given ++ text
  pub whole : EndsOnce r r'
  pub end : End
  pub out : List ℕ
  pub right : answers text end out
  pub begun : HasBegun w.taken w'.taken out

-- where memory ran out nothing was written
abbrev pub IsSilentAt : End → Writes → Writes → Type 0
IsSilentAt e w w' = e ≡ ends.Memory → w'.taken ≡ w.taken

-- what is known of the job at its end, where this was known of its source and its sink before it, and that after it
pub record IsAnswered (answers : List ℕ → End → List ℕ → Type 0) (r r' : Reads) (w w' : Writes) (e : End) : Type 0 where
  pub answered :
      HasAnswered answers r r' w w' e
      ⊎ ((e ≡ ends.Input) × (w'.taken ≡ w.taken))
      ⊎ ((e ≡ ends.Output) × HasBegunAnswer answers r r' w w')
      ⊎ ((e ≡ ends.Memory) × ((w'.taken ≡ w.taken) ⊎ HasBegunAnswer answers r r' w w'))
  pub failed : FailsAt e r w r' w'
