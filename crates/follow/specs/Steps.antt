-- A follower between two lines: what it takes of the bytes that wait, and where it stops.
use Rattle.std.specs.Prelude.{◌≡◌, ℕ, true, List, take, drop, Option, Ok, Err, ◌≢◌, ◌⊎◌, ◌+◌, ◌≤◌, Bool, false, if◌then◌else◌, [], ◌∷◌, ◌++◌, length, None, is_none, Result}
use Rattle.sessions.specs.declared.ending.ServeEnd.{ServeEnd}
use Rattle.sessions.specs.declared.ending.ServeEnd.TheVariants as serve_ends
use Rattle.follow.specs.Prelude.{Message, format_of, has_ended, text_at, waiting, Follows, HasBegun, HasTaken, Reads, Start, Writes, apply_fault, lines_of, ready_after, FollowError, FollowEnd, FollowOptions}
use Rattle.follow.specs.declared.follower.Follower.{Follower}
use Rattle.follow.specs.Following.{is_taking_after, is_chosen, start_of, line_at, Followed, followed_at, followed_lines, onto_followed}
use Rattle.follow.specs.Reports.{IsFollowReport, named_after, named_in}
use Rattle.follow.specs.Ends.{BeginWith, ComesBy, FailsAt, IsFollowed, TakesNext}
use Rattle.follow.specs.declared.fault.FollowError.TheVariants as errors
use Rattle.follow.specs.declared.ending.FollowEnd.TheVariants as ends
use Rattle.follow.specs.declared.options.Shown.TheVariants as shown

-- the bytes that wait in front, so many of them
abbrev pub front_of : Follower → ℕ → List ℕ
front_of f count = take count (waiting f.lines)

-- so many bytes are a line that has its newline and isn't too long, with this message where it is one to take; they were taken off the front
pub record HasRead (f f' : Follower) (count : ℕ) (taken : Option Message) : Type 0 where
  pub text : List ℕ
  pub whole : text_at f.format (front_of f count) ≡ Ok text
  pub message : line_at f.format f.choice.taking (front_of f count) ≡ Ok taken
  pub feed : f'.choice.feed ≡ f.choice.feed
  pub taking : f'.choice.taking ≡ is_taking_after f.choice.feed f.choice.taking text
  pub left : waiting f'.lines ≡ drop count (waiting f.lines)
  pub ended : has_ended f'.lines ≡ has_ended f.lines
  pub formed : format_of f'.lines ≡ format_of f.lines

-- so many bytes can't be read; where memory was wanted they are a line that is one to take
abbrev pub IsMisreadAt : Follower → ℕ → FollowError → Type 0
IsMisreadAt f count errors.NoMemory = (text : List ℕ) × (text_at f.format (front_of f count) ≡ Ok text) × (is_chosen f.choice.taking text ≡ true)
IsMisreadAt f count (errors.Fault fault) = line_at f.format f.choice.taking (front_of f count) ≡ Err (errors.Fault fault)

-- messages that were taken, ahead of those that come below
abbrev pub onto_taken : List Message → Followed → Followed
onto_taken ms below = record { messages = ms ++ below.messages; stop = below.stop }

-- the keys that rows have named, and that are still to be told, behind messages
abbrev pub named_through : FollowOptions → List Message → List (List ℕ) → List Message → List (List ℕ)
named_through o before named [] = named
named_through o before named (m ∷ ms) = named_through o (before ++ m ∷ []) (named_after o before named m) ms

-- at which timestamp a replica that began so shows by a message, before it takes it, that its rows are complete, where that is told
abbrev pub ready_told : Bool → Start → List Message → Message → Option ℕ
ready_told complete s before m = if complete then ready_after s.span s.start s.cursor before m else None

-- whether there is a message
abbrev pub are_some : List Message → Bool
are_some [] = false
are_some (m ∷ ms) = true

-- the follower goes by these options
abbrev pub GoesBy : FollowOptions → Follower → Type 0
GoesBy o f = (f.format ≡ o.format) × (f.choice.feed ≡ o.feed) × (f.telling.shown ≡ o.shown) × (f.complete ≡ o.complete)

-- so many lines and these messages were taken. Behind the lines that were taken, `next` says what is followed of more bytes
pub record IsFollowing (o : FollowOptions) (next : List ℕ → Followed) (r r' : Reads) (f : Follower) (lines : ℕ) (ms : List Message) : Type 0 where
  pub by : GoesBy o f
  pub follows : Follows f.replica (start_of o.span o.start) ms
  pub started : f.started ≡ are_some ms
  pub named : o.shown ≡ shown.Changes → named_in f.telling ≡ named_through o [] [] ms
  pub front : List ℕ
  pub read : r'.given ≡ r.given ++ (front ++ waiting f.lines)
  pub found : has_ended f.lines ≡ true → r'.ended ≡ true
  pub followed : (more : List ℕ) → followed_at o (front ++ more) ≡ onto_taken ms (next more)
  -- each line took a byte at least
  pub counted : lines ≤ length front

-- what was written, with what is kept, is the report of the messages
abbrev pub HasReported : FollowOptions → List Message → Writes → Writes → List ℕ → Type 0
HasReported o ms w w' kept = (told : List ℕ) × IsFollowReport o ms told × HasTaken w.taken w'.taken told kept

-- what is followed behind so many lines
abbrev pub lines_ahead : FollowOptions → Follower → List Message → ℕ → List ℕ → Followed
lines_ahead o f ms lines more = followed_lines o f.choice.taking ms (lines + 1) (lines_of more)

-- what is followed from a message on, which the line of this number has
abbrev pub message_ahead : FollowOptions → Follower → List Message → ℕ → Message → List ℕ → Followed
message_ahead o f ms number m more =
    onto_followed number (apply_fault o.span (start_of o.span o.start).start ms m) m (followed_lines o f.choice.taking (ms ++ m ∷ []) (number + 1) (lines_of more))

-- so many lines were taken
abbrev pub IsAhead : FollowOptions → Reads → Reads → Follower → ℕ → List Message → Type 0
IsAhead o r r' f lines ms = IsFollowing o (lines_ahead o f ms lines) r r' f lines ms

-- the same, while the last one's message is still to be, whose line stands behind those of the other messages
abbrev pub IsHolding : FollowOptions → Reads → Reads → Follower → ℕ → List Message → Message → Type 0
IsHolding o r r' f lines ms m = (u : IsFollowing o (message_ahead o f ms lines m) r r' f lines ms) × TakesNext o u.front ms (followed_at o u.front)

-- so many lines were taken, and what is told of their messages was written, or is kept. No read and no write has failed
abbrev pub IsGoing : FollowOptions → Reads → Reads → Writes → Writes → Follower → List ℕ → ℕ → List Message → Type 0
IsGoing o r r' w w' f kept lines ms = IsAhead o r r' f lines ms × HasReported o ms w w' kept × (r'.failures ≡ r.failures) × (w'.failures ≡ w.failures)

-- why no line follows
pub record IsOver (o : FollowOptions) (r r' : Reads) (ms : List Message) (e : FollowEnd) : Type 0 where
  pub input : List ℕ
  pub read : r'.given ≡ r.given ++ input
  pub begins : BeginWith o input r'.ended ms
  pub comes : ComesBy o input r'.ended ms e

-- the same, before what is kept is written; but where a write failed, what was written begins the report
pub record IsStopped (o : FollowOptions) (r r' : Reads) (w w' : Writes) (kept : List ℕ) (e : FollowEnd) : Type 0 where
  pub messages : List Message
  pub over : IsOver o r r' messages e
  pub rest : List ℕ
  pub told : HasReported o messages w w' rest
  pub keeps : e ≢ ends.Output → rest ≡ kept
  pub failed : FailsAt e r w r' w'

-- nothing was read or taken
pub record IsFresh (o : FollowOptions) (f : Follower) : Type 0 where
  pub by : GoesBy o f
  pub taking : f.choice.taking ≡ is_none o.feed
  pub follows : Follows f.replica (start_of o.span o.start) []
  pub started : f.started ≡ false
  pub named : named_in f.telling ≡ []
  pub nothing : waiting f.lines ≡ []
  pub open_ended : has_ended f.lines ≡ false

-- how it ends at the line of this number, which wasn't taken
abbrev pub end_by : ℕ → FollowError → FollowEnd
end_by line (errors.Fault fault) = ends.Fault line fault
end_by line errors.NoMemory = ends.Memory

-- how it ends where the next line isn't found: a read failed, or else a write
abbrev pub end_unfound : ServeEnd → FollowEnd
end_unfound serve_ends.Input = ends.Input
end_unfound _ = ends.Output

-- how it ends where no line is left
abbrev pub end_at : Bool → FollowEnd
end_at true = ends.Done
end_at false = ends.NoMessages

-- the end that the loop over all lines comes to
abbrev pub end_of : Result (Unit {0}) FollowEnd → FollowEnd
end_of (Ok _) = ends.Done
end_of (Err e) = e

-- the line of this number is taken, with its message where it is one to take
abbrev pub TakesLine : Follower → Follower → ℕ → (kept kept' : List ℕ) → Writes → Writes → Type 0
TakesLine f f' number kept kept' w' w'' =
    (o : FollowOptions) (r r' : Reads) (w : Writes) (lines : ℕ) (ms : List Message) → number ≡ lines + 1 → IsGoing o r r' w w' f kept lines ms
    → (ms' : List Message) × IsGoing o r r' w w'' f' kept' number ms'

-- at the line of this number a follower that was going stops
abbrev pub StopsAtLine : Follower → ℕ → (kept kept' : List ℕ) → Writes → Writes → FollowEnd → Type 0
StopsAtLine f number kept kept' w' w'' e =
    (o : FollowOptions) (r r' : Reads) (w : Writes) (lines : ℕ) (ms : List Message) → number ≡ lines + 1 → IsGoing o r r' w w' f kept lines ms
    → IsStopped o r r' w w'' kept' e

-- what is told of the messages since is kept too
pub record GoesOn (o : FollowOptions) (ms ms' : List Message) (kept kept' : List ℕ) : Type 0 where
  pub text : List ℕ
  pub keeps : kept' ≡ kept ++ text
  pub report : (told : List ℕ) → IsFollowReport o ms told → IsFollowReport o ms' (told ++ text)

-- one line is taken, and what is told of it is kept
abbrev pub TakesMore : Follower → Follower → (kept kept' : List ℕ) → Type 0
TakesMore f f' kept kept' =
    (o : FollowOptions) (r r' : Reads) (lines : ℕ) (ms : List Message) → IsAhead o r r' f lines ms
    → (ms' : List Message) × IsAhead o r r' f' (lines + 1) ms' × GoesOn o ms ms' kept kept'

-- one line isn't taken
abbrev pub StopsWithLine : Follower → FollowError → Type 0
StopsWithLine f e = (o : FollowOptions) (r r' : Reads) (lines : ℕ) (ms : List Message) → IsAhead o r r' f lines ms → IsOver o r r' ms (end_by (lines + 1) e)

-- at this timestamp the message in hand shows the rows to be complete, where that is told
abbrev pub ShowsReady : Follower → Message → Option ℕ → Type 0
ShowsReady f m at = (s : Start) (before : List Message) → Follows f.replica s before → at ≡ ready_told f.complete s before m

-- the message in hand is taken
abbrev pub TakesMessage : Follower → Follower → Message → (kept kept' : List ℕ) → Type 0
TakesMessage f f' m kept kept' =
    (o : FollowOptions) (r r' : Reads) (number : ℕ) (ms : List Message) → IsHolding o r r' f number ms m
    → IsAhead o r r' f' number (ms ++ m ∷ []) × GoesOn o ms (ms ++ m ∷ []) kept kept'

-- it isn't
abbrev pub StopsWithMessage : Follower → Message → FollowError → Type 0
StopsWithMessage f m e = (o : FollowOptions) (r r' : Reads) (number : ℕ) (ms : List Message) → IsHolding o r r' f number ms m → IsOver o r r' ms (end_by number e)

-- all bytes were written, and the end stays; or a write failed
abbrev pub EndsWritten : List ℕ → FollowEnd → Writes → Writes → FollowEnd → Type 0
EndsWritten bytes end w w' e =
    ((e ≡ end) × HasTaken w.taken w'.taken bytes [] × (w'.failures ≡ w.failures))
    ⊎ ((e ≡ ends.Output) × HasBegun w.taken w'.taken bytes × (w'.failures ≡ w.failures + 1))

-- a follower that stopped so has followed, by this end
abbrev pub FollowsAs : List ℕ → FollowEnd → Writes → Writes → FollowEnd → Type 0
FollowsAs kept e w' w'' e' = (o : FollowOptions) (r r' : Reads) (w : Writes) → IsStopped o r r' w w' kept e → IsFollowed o r r' w w'' e'
