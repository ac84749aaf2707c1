-- The table of commands: the name of each, what stands behind it, and which command this makes.
use Rattle.std.specs.Prelude.{ℕ, List, [], ◌∷◌, map, codes, if◌then◌else◌, bytes_eq, Option, Some, None}
use Rattle.std.specs.Borrow.{Bor}
use Rattle.word_lines.specs.Prelude.{Cmd, Span, Verb, Form}
use Rattle.spans.specs.declared.calls.commands.Cmd.TheVariants as cmd
use Rattle.word_lines.specs.declared.table.Verb.TheVariants as verb

-- What stands behind a name, from left to right (a span is two words): texts, limits and readers go by this alone.
pub data Signature : Type 0 where
  Nothing : Signature
  Number : Signature
  Numbers : Signature
  NumberKey : Signature
  NumberKeyValue : Signature
  NumberSpan : Signature
  SpanNumber : Signature
  SpanNumbers : Signature

abbrev pub arity : Signature → ℕ
arity Nothing = 0
arity Number = 1
arity Numbers = 2
arity NumberKey = 2
arity NumberKeyValue = 3
arity NumberSpan = 3
arity SpanNumber = 3
arity SpanNumbers = 4

-- what these words say
abbrev pub Parts : Signature → Type 0
Parts Nothing = Unit {0}
Parts Number = ℕ
Parts Numbers = ℕ × ℕ
Parts NumberKey = ℕ × List ℕ
Parts NumberKeyValue = ℕ × List ℕ × List ℕ
Parts NumberSpan = ℕ × Span
Parts SpanNumber = Span × ℕ
Parts SpanNumbers = Span × ℕ × ℕ

-- a name, what stands behind it, and the command that this makes
pub record Layout : Type 0 where
  pub name : List ℕ
  pub signature : Signature
  pub make : Parts signature → Cmd

abbrev layout : List ℕ → (signature : Signature) → (Parts signature → Cmd) → Layout
layout name signature make = record { name = name; signature = signature; make = make }

abbrev pub layout_of : Verb → Layout
layout_of verb.Begin = layout (codes "begin") Number (λ n. cmd.Begin n)
layout_of verb.Get = layout (codes "get") NumberKey (λ p. cmd.Get p.0 p.1)
layout_of verb.Put = layout (codes "put") NumberKeyValue (λ p. cmd.Put p.0 p.1 p.2)
layout_of verb.Del = layout (codes "del") NumberKey (λ p. cmd.Del p.0 p.1)
layout_of verb.Commit = layout (codes "commit") Number (λ n. cmd.Commit n)
layout_of verb.Abort = layout (codes "abort") Number (λ n. cmd.Abort n)
layout_of verb.Close = layout (codes "close") Number (λ n. cmd.Close n)
layout_of verb.Scan = layout (codes "scan") NumberSpan (λ p. cmd.Scan p.0 p.1)
layout_of verb.CloseHard = layout (codes "closehard") Number (λ n. cmd.CloseHard n)
layout_of verb.ReadAt = layout (codes "readat") NumberKey (λ p. cmd.ReadAt p.0 p.1)
layout_of verb.ScanAt = layout (codes "scanat") NumberSpan (λ p. cmd.ScanAt p.0 p.1)
layout_of verb.Protect = layout (codes "protect") Number (λ n. cmd.Protect n)
layout_of verb.Release = layout (codes "release") Number (λ n. cmd.Release n)
layout_of verb.Collect = layout (codes "collect") Number (λ n. cmd.Collect n)
layout_of verb.Open = layout (codes "open") SpanNumber (λ p. cmd.Open p.0 p.1)
layout_of verb.OpenInitial = layout (codes "openinitial") SpanNumber (λ p. cmd.OpenInitial p.0 p.1)
layout_of verb.OpenEvery = layout (codes "openevery") SpanNumbers (λ p. cmd.OpenEvery p.0 p.1 p.2)
layout_of verb.OpenInitialEvery = layout (codes "openinitialevery") SpanNumbers (λ p. cmd.OpenInitialEvery p.0 p.1 p.2)
layout_of verb.Poll = layout (codes "poll") Numbers (λ p. cmd.Poll p.0 p.1)
layout_of verb.Cancel = layout (codes "cancel") Number (λ n. cmd.Cancel n)
layout_of verb.Stats = layout (codes "stats") Nothing (λ _. cmd.Stats)

-- a command taken to pieces, of which its layout makes it again
pub record Pieces : Type 0 where
  pub verb : Verb
  pub parts : Parts (layout_of verb).signature

abbrev pub pieces : (v : Verb) → Parts (layout_of v).signature → Pieces
pieces v parts = record { verb = v; parts = parts }

abbrev pub pieces_of : Cmd → Pieces
pieces_of (cmd.Begin ts) = pieces verb.Begin ts
pieces_of (cmd.Get ts key) = pieces verb.Get (ts, key)
pieces_of (cmd.Scan ts span) = pieces verb.Scan (ts, span)
pieces_of (cmd.Put ts key value) = pieces verb.Put (ts, key, value)
pieces_of (cmd.Del ts key) = pieces verb.Del (ts, key)
pieces_of (cmd.Commit ts) = pieces verb.Commit ts
pieces_of (cmd.Abort ts) = pieces verb.Abort ts
pieces_of (cmd.Close to) = pieces verb.Close to
pieces_of (cmd.CloseHard to) = pieces verb.CloseHard to
pieces_of (cmd.ReadAt t key) = pieces verb.ReadAt (t, key)
pieces_of (cmd.ScanAt t span) = pieces verb.ScanAt (t, span)
pieces_of (cmd.Protect t) = pieces verb.Protect t
pieces_of (cmd.Release id) = pieces verb.Release id
pieces_of (cmd.Collect to) = pieces verb.Collect to
pieces_of (cmd.Open span cursor) = pieces verb.Open (span, cursor)
pieces_of (cmd.OpenInitial span cursor) = pieces verb.OpenInitial (span, cursor)
pieces_of (cmd.OpenEvery span cursor gap) = pieces verb.OpenEvery (span, cursor, gap)
pieces_of (cmd.OpenInitialEvery span cursor gap) = pieces verb.OpenInitialEvery (span, cursor, gap)
pieces_of (cmd.Poll feed max) = pieces verb.Poll (feed, max)
pieces_of (cmd.Cancel feed) = pieces verb.Cancel feed
pieces_of cmd.Stats = pieces verb.Stats tt

-- all commands, the most frequent first
abbrev pub verbs : List Verb
verbs =
    verb.Begin ∷ verb.Get ∷ verb.Put ∷ verb.Del ∷ verb.Commit ∷ verb.Abort ∷ verb.Close ∷ verb.Scan ∷ verb.CloseHard ∷ verb.ReadAt ∷ verb.ScanAt
    ∷ verb.Protect ∷ verb.Release ∷ verb.Collect ∷ verb.Open ∷ verb.OpenInitial ∷ verb.OpenEvery ∷ verb.OpenInitialEvery ∷ verb.Poll ∷ verb.Cancel ∷ verb.Stats ∷ []

-- a name, and what the program knows of it
abbrev pub Row : Type 0
Row = List ℕ × Form

abbrev pub row : Verb → Row
row v = ((layout_of v).name, record { verb = v; arguments = arity (layout_of v).signature })

abbrev pub table : List Row
table = map row verbs

-- what is known of a name
abbrev pub row_of : List Row → List ℕ → Option Form
row_of [] name = None
row_of (r ∷ rows) name = if bytes_eq r.0 name then Some r.1 else row_of rows name

-- a row of the program's own table
abbrev pub row_view : Bor (List ℕ) × Verb × ℕ → Row
row_view r = (r.0.now, record { verb = r.1; arguments = r.2 })
