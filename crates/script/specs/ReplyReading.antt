-- The table of replies, and reading the words of one.
use Rattle.std.specs.Prelude.{ℕ, List, [], ◌∷◌, codes, if◌then◌else◌, bytes_eq, Option, Some, None, ◌==◌, length, Result, Ok, Err, ok_or}
use Rattle.std.specs.Borrow.{Bor}
use Rattle.spans.specs.declared.calls.replies.Refusal.{Refusal}
use Rattle.word_lines.specs.Reading.{◌>>=◌}
use Rattle.spans.specs.declared.calls.replies.Reply.TheVariants as reply
use Rattle.spans.specs.declared.calls.replies.Refusal.TheVariants as refusal
use Rattle.spelled_words.specs.declared.fault.LineFault.TheVariants as fault
use Rattle.script.specs.Prelude.{Kind, Format, LineFault, Reply, number_at, value_at, word_at, Shape}
use Rattle.script.specs.declared.reply_table.Reason.{Reason}
use Rattle.script.specs.declared.reply_table.Kind.TheVariants as kind
use Rattle.script.specs.declared.reply_table.Reason.TheVariants as reason
use Rattle.script.specs.declared.reply_reading.Shape.TheVariants as shape

abbrev pub replies : List (List ℕ × Kind)
replies =
    (codes "started", kind.Started) ∷ (codes "none", kind.Absent) ∷ (codes "value", kind.Value) ∷ (codes "rows", kind.Rows)
    ∷ (codes "written", kind.Written) ∷ (codes "committed", kind.Committed) ∷ (codes "aborted", kind.Aborted) ∷ (codes "closed", kind.Closed)
    ∷ (codes "messages", kind.Messages) ∷ (codes "protected", kind.Protected) ∷ (codes "released", kind.Released) ∷ (codes "collected", kind.Collected)
    ∷ (codes "opened", kind.Opened) ∷ (codes "cancelled", kind.Cancelled) ∷ (codes "stats", kind.Stats)
    ∷ (codes "belowclosed", kind.Refused reason.BelowClosed) ∷ (codes "tsused", kind.Refused reason.TsUsed) ∷ (codes "tsrange", kind.Refused reason.TsRange)
    ∷ (codes "blocked", kind.Refused reason.Blocked) ∷ (codes "notxn", kind.Refused reason.NoTxn) ∷ (codes "notowner", kind.Refused reason.NotOwner)
    ∷ (codes "ended", kind.Refused reason.Ended) ∷ (codes "toolate", kind.Refused reason.TooLate) ∷ (codes "notclosed", kind.Refused reason.NotClosed)
    ∷ (codes "belowhorizon", kind.Refused reason.BelowHorizon) ∷ (codes "noprotection", kind.Refused reason.NoProtection) ∷ (codes "nofeed", kind.Refused reason.NoFeed)
    ∷ (codes "feedcancelled", kind.Refused reason.FeedCancelled) ∷ (codes "nomemory", kind.Refused reason.NoMemory) ∷ (codes "gaprange", kind.Refused reason.GapRange) ∷ []

-- which reply has a name
abbrev pub kind_of : List (List ℕ × Kind) → List ℕ → Option Kind
kind_of [] name = None
kind_of (r ∷ rows) name = if bytes_eq r.0 name then Some r.1 else kind_of rows name

-- a row of the program's own table
abbrev pub reply_row : Bor (List ℕ) × Kind → List ℕ × Kind
reply_row r = (r.0.now, r.1)

-- any fault told as this one
abbrev pub told_as : {A : Type 0} → LineFault → Result A LineFault → Result A LineFault
told_as f (Ok x) = Ok x
told_as f (Err e) = Err f

-- what was read, where no word is left
abbrev pub to_the_end : {A : Type 0} → Result (A × List (List ℕ)) LineFault → Result A LineFault
to_the_end read = read >>= λ x. if length x.1 == 0 then Ok x.0 else Err fault.WordCount

-- a number, and what is made of it
abbrev pub of_number : {A : Type 0} → (ℕ → A) → List (List ℕ) → Result (A × List (List ℕ)) LineFault
of_number make words = do
  n ← number_at words
  Ok (make n.0, n.1)

-- two numbers, and what is made of them
abbrev pub of_two : {A : Type 0} → (ℕ → ℕ → A) → List (List ℕ) → Result (A × List (List ℕ)) LineFault
of_two make words = do
  n ← number_at words
  m ← number_at n.1
  Ok (make n.0 m.0, m.1)

unfoldable pub refusal_at : Reason → List (List ℕ) → Result (Refusal × List (List ℕ)) LineFault
refusal_at reason.BelowClosed words = of_number refusal.BelowClosed words
refusal_at reason.TsUsed words = Ok (refusal.TsUsed, words)
refusal_at reason.TsRange words = Ok (refusal.TsRange, words)
refusal_at reason.Blocked words = of_number refusal.Blocked words
refusal_at reason.NoTxn words = Ok (refusal.NoTxn, words)
refusal_at reason.NotOwner words = Ok (refusal.NotOwner, words)
refusal_at reason.Ended words = Ok (refusal.Ended, words)
refusal_at reason.TooLate words = Ok (refusal.TooLate, words)
refusal_at reason.NotClosed words = of_number refusal.NotClosed words
refusal_at reason.BelowHorizon words = of_number refusal.BelowHorizon words
refusal_at reason.NoProtection words = Ok (refusal.NoProtection, words)
refusal_at reason.NoFeed words = Ok (refusal.NoFeed, words)
refusal_at reason.FeedCancelled words = Ok (refusal.FeedCancelled, words)
refusal_at reason.NoMemory words = Ok (refusal.NoMemory, words)
refusal_at reason.GapRange words = Ok (refusal.GapRange, words)

unfoldable pub stats_at : List (List ℕ) → Result (Reply × List (List ℕ)) LineFault
stats_at words = do
  versions ← number_at words
  undecided ← number_at versions.1
  feeds ← number_at undecided.1
  closed ← number_at feeds.1
  horizon ← number_at closed.1
  Ok (reply.Stats versions.0 undecided.0 feeds.0 closed.0 horizon.0, horizon.1)

-- a reply of a kind, or how many lines follow, from the words behind its name
unfoldable pub shape_at : Format → Kind → List (List ℕ) → Result (Shape × List (List ℕ)) LineFault
shape_at format kind.Started words = Ok (shape.Alone reply.Started, words)
shape_at format kind.Absent words = Ok (shape.Alone (reply.Found None), words)
shape_at format kind.Value words = do
  value ← value_at format words
  Ok (shape.Alone (reply.Found (Some value.0)), value.1)
shape_at format kind.Rows words = of_number shape.Rows words
shape_at format kind.Written words = Ok (shape.Alone reply.Written, words)
shape_at format kind.Committed words = of_number (λ n. shape.Alone (reply.Committed n)) words
shape_at format kind.Aborted words = Ok (shape.Alone reply.Aborted, words)
shape_at format kind.Closed words = of_two (λ n m. shape.Alone (reply.Closed n m)) words
shape_at format kind.Messages words = of_number shape.Messages words
shape_at format kind.Protected words = of_number (λ n. shape.Alone (reply.Protected n)) words
shape_at format kind.Released words = Ok (shape.Alone reply.Released, words)
shape_at format kind.Collected words = of_two (λ n m. shape.Alone (reply.Collected n m)) words
shape_at format kind.Opened words = of_number (λ n. shape.Alone (reply.Opened n)) words
shape_at format kind.Cancelled words = Ok (shape.Alone reply.Cancelled, words)
shape_at format kind.Stats words = do
  r ← stats_at words
  Ok (shape.Alone r.0, r.1)
shape_at format (kind.Refused why) words = do
  r ← refusal_at why words
  Ok (shape.Alone (reply.Refused r.0), r.1)

-- the name, and what stands behind it up to the end
unfoldable pub named_at : Format → List (List ℕ) → Result Shape LineFault
named_at format words = do
  w ← word_at words
  k ← ok_or (kind_of replies w.0) fault.Reply
  to_the_end (shape_at format k w.1)

-- the words of a reply: where they are none, that is the one fault
abbrev pub reply_at : Format → List (List ℕ) → Result Shape LineFault
reply_at format words = told_as fault.Reply (named_at format words)
