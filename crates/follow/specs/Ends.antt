-- How following a feed ends: what was taken of the input, and what was told of it (this project).
use Rattle.std.specs.Prelude.{ℕ, zero, ◌+◌, ◌≡◌, ◌≢◌, ◌≤◌, ◌⊎◌, Bool, true, List, [], ◌∷◌, ◌++◌, length, position, Some, None}
use Rattle.follow.specs.Prelude.{Message, Reads, Writes, has_newline, is_newline, lines_of, spent_line, FollowEnd, FollowOptions, FollowFault}
use Rattle.ticket_lock.specs.Lists.{StartsWith}
use Rattle.sessions.specs.Runs.{MayHold}
use Rattle.follow.specs.declared.ending.FollowEnd.TheVariants as ends
use Rattle.follow.specs.declared.fault.FollowError.TheVariants as errors
use Rattle.follow.specs.Following.{IsUnbegun, MayStart, fault_line, Followed, followed_at, followed_through}
use Rattle.follow.specs.Reports.{IsFollowReport}

-- whatever the source holds, its first messages are these
abbrev pub BeginWith : FollowOptions → List ℕ → Bool → List Message → Type 0
BeginWith o input ended ms = (whole : List ℕ) → MayHold input ended whole → StartsWith (followed_at o whole).messages ms

-- whatever the source holds, its messages are these, up to this line that can't be followed
abbrev pub StopAt : FollowOptions → List ℕ → Bool → List Message → ℕ → FollowFault → Type 0
StopAt o input ended ms line fault = (whole : List ℕ) → MayHold input ended whole → followed_at o whole ≡ record { messages = ms; stop = Some (record { line = line; error = errors.Fault fault }) }

-- the whole lines of the input have these messages, and behind them is no newline
pub record AreMessages (o : FollowOptions) (input : List ℕ) (ms : List Message) : Type 0 where
  pub lines : List ℕ
  pub rest : List ℕ
  pub parts : input ≡ lines ++ rest
  pub read : followed_at o lines ≡ followed_through ms
  pub unended : None ≡ position is_newline rest

-- why the line with this number is at fault: it can't be followed, or before the first the replica can't begin with its rows
abbrev pub IsFaultAt : FollowOptions → List ℕ → Bool → List Message → ℕ → FollowFault → Type 0
IsFaultAt o input ended ms line fault =
    ((line ≡ 0) × (input ≡ []) × (ms ≡ []) × IsUnbegun o.span o.start (errors.Fault fault))
    ⊎ StopAt o input ended ms line fault

-- each line takes a byte at least, so this many bytes have more lines than a number counts
abbrev pub IsEndless : List ℕ → Type 0
IsEndless input = 18446744073709551615 ≤ length input

-- behind these messages stands one whole line, and this is followed with it
pub record TakesNext (o : FollowOptions) (input : List ℕ) (ms : List Message) (after : Followed) : Type 0 where
  pub lines : List ℕ
  pub line : List ℕ
  pub rest : List ℕ
  pub parts : input ≡ lines ++ (line ++ rest)
  pub one : lines_of line ≡ line ∷ []
  pub whole : has_newline line ≡ true
  pub before : followed_at o lines ≡ followed_through ms
  pub behind : followed_at o (lines ++ line) ≡ after

-- memory was wanted before any byte was read, or where lines can't be counted; or for the next line, which is at fault, or isn't
-- passed over. Of that line nothing is told
abbrev pub IsWanting : FollowOptions → List ℕ → Bool → List Message → Type 0
IsWanting o input ended ms =
    (input ≡ [])
    ⊎ IsEndless input
    ⊎ ((line : ℕ) × (fault : FollowFault) × StopAt o input ended ms line fault)
    ⊎ ((after : Followed) × TakesNext o input ms after × (after ≢ followed_through ms))

-- why each end comes, after these messages
abbrev pub ComesBy : FollowOptions → List ℕ → Bool → List Message → FollowEnd → Type 0
ComesBy o input ended ms ends.Done = (ended ≡ true) × (followed_at o input ≡ followed_through ms) × (ms ≢ [])
ComesBy o input ended ms ends.NoMessages = (ended ≡ true) × (followed_at o input ≡ followed_through []) × (ms ≡ [])
ComesBy o input ended ms (ends.Fault line fault) = IsFaultAt o input ended ms line fault
ComesBy o input ended ms ends.Spent = IsEndless input
ComesBy o input ended ms ends.Input = AreMessages o input ms
ComesBy o input ended ms ends.Output = Unit {0}
ComesBy o input ended ms ends.Memory = IsWanting o input ended ms

-- the line that an end puts behind all that is told
abbrev pub last_line : FollowEnd → List ℕ
last_line (ends.Fault line fault) = fault_line line fault
last_line ends.Spent = spent_line 18446744073709551615
last_line _ = []

-- an end that has a line
abbrev pub HasLine : FollowEnd → Type 0
HasLine (ends.Fault line fault) = Unit {0}
HasLine ends.Spent = Unit {0}
HasLine _ = ⊥

-- an end comes so, and this is the report of the messages with its line
abbrev pub IsOwed : FollowOptions → List ℕ → Bool → List Message → FollowEnd → List ℕ → Type 0
IsOwed o input ended ms e text = ComesBy o input ended ms e × ((report : List ℕ) × IsFollowReport o ms report × (text ≡ report ++ last_line e))

-- how each end comes: with all that is owed at this end as output, or, where a write failed, with a beginning of what is owed
abbrev pub EndsBy : FollowOptions → List ℕ → Bool → List Message → List ℕ → FollowEnd → Type 0
EndsBy o input ended ms output ends.Output = (e : FollowEnd) × (text : List ℕ) × IsOwed o input ended ms e text × StartsWith text output
EndsBy o input ended ms output e = IsOwed o input ended ms e output

-- how often reads and writes failed: what waits is written also where a read has failed
abbrev pub FailsAt : FollowEnd → Reads → Writes → Reads → Writes → Type 0
FailsAt ends.Input r w r' w' = (r'.failures ≡ r.failures + 1) × (w'.failures ≡ w.failures)
FailsAt ends.Output r w r' w' = (r.failures ≤ r'.failures) × (r'.failures ≤ r.failures + 1) × (w'.failures ≡ w.failures + 1)
FailsAt _ r w r' w' = (r'.failures ≡ r.failures) × (w'.failures ≡ w.failures)

-- what is known of a feed that was followed, where this was known of its source and its sink before it, and that after it
pub record IsFollowed (o : FollowOptions) (r r' : Reads) (w w' : Writes) (e : FollowEnd) : Type 0 where
  pub messages : List Message
  pub input : List ℕ
  pub read : r'.given ≡ r.given ++ input
  pub output : List ℕ
  pub wrote : w'.taken ≡ w.taken ++ output
  -- they are the first of the input's
  pub begins : BeginWith o input r'.ended messages
  pub ends : EndsBy o input r'.ended messages output e
  pub failed : FailsAt e r w r' w'

-- a replica could begin, unless the fault says otherwise, which names line 0, or nothing was read before memory or the output failed
abbrev pub CouldBegin : FollowOptions → Reads → Reads → FollowEnd → Type 0
CouldBegin o r r' (ends.Fault zero fault) = Unit {0}
CouldBegin o r r' ends.Output = (r'.given ≡ r.given) ⊎ MayStart o.span o.start
CouldBegin o r r' ends.Memory = (r'.given ≡ r.given) ⊎ MayStart o.span o.start
CouldBegin o r r' e = MayStart o.span o.start
