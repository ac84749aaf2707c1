-- The text of a command, of a reply and of an event, and the lines that can end the output of a run.
use Rattle.std.specs.Prelude.{ℕ, List, [], ◌∷◌, ◌++◌, codes, decimal, Option, Some, None, length}
use Rattle.spans.specs.declared.calls.commands.Cmd.TheVariants as cmd
use Rattle.spans.specs.declared.calls.replies.Reply.TheVariants as reply
use Rattle.spans.specs.declared.calls.replies.Refusal.TheVariants as refusal
use Rattle.word_lines.specs.Prelude.{Cmd, join_with_byte, Refusal, Reply, flat_map, Event, LineFault}
use Rattle.word_lines.specs.Words.{spelling}
use Rattle.word_lines.specs.Table.{Signature, Nothing, Number, Numbers, NumberKey, NumberKeyValue, NumberSpan, SpanNumber, SpanNumbers, Parts, Pieces, layout_of, pieces_of}
use Rattle.word_lines.specs.Messages.{message_line}
use Rattle.word_lines.specs.Faults.{code_of, name_of}

-- words with one space between two
abbrev pub joined : List (List ℕ) → List ℕ
joined words = join_with_byte 32 words

-- a bound, or `-` for none
abbrev pub bound_word : Option (List ℕ) → List ℕ
bound_word None = codes "-"
bound_word (Some bound) = spelling bound

-- the words behind a name
abbrev pub parts_words : (signature : Signature) → Parts signature → List (List ℕ)
parts_words Nothing p = []
parts_words Number n = decimal n ∷ []
parts_words Numbers p = decimal p.0 ∷ decimal p.1 ∷ []
parts_words NumberKey p = decimal p.0 ∷ spelling p.1 ∷ []
parts_words NumberKeyValue p = decimal p.0 ∷ spelling p.1 ∷ spelling p.2 ∷ []
parts_words NumberSpan p = decimal p.0 ∷ bound_word p.1.lo ∷ bound_word p.1.hi ∷ []
parts_words SpanNumber p = bound_word p.0.lo ∷ bound_word p.0.hi ∷ decimal p.1 ∷ []
parts_words SpanNumbers p = bound_word p.0.lo ∷ bound_word p.0.hi ∷ decimal p.1 ∷ decimal p.2 ∷ []

abbrev pub words_in : Pieces → List (List ℕ)
words_in p = (layout_of p.verb).name ∷ parts_words (layout_of p.verb).signature p.parts

-- the name and the arguments; the first line has each case compute
unfoldable pub words_of : Cmd → List (List ℕ)
words_of (cmd.Begin ts) = words_in (pieces_of (cmd.Begin ts))
words_of c = words_in (pieces_of c)

-- the session's number, the command's words and a newline
abbrev pub command_line : ℕ → Cmd → List ℕ
command_line seat c = joined (decimal seat ∷ words_of c) ++ 10 ∷ []

abbrev pub refusal_words : Refusal → List (List ℕ)
refusal_words (refusal.BelowClosed closed) = codes "belowclosed" ∷ decimal closed ∷ []
refusal_words refusal.TsUsed = codes "tsused" ∷ []
refusal_words refusal.TsRange = codes "tsrange" ∷ []
refusal_words (refusal.Blocked by) = codes "blocked" ∷ decimal by ∷ []
refusal_words refusal.NoTxn = codes "notxn" ∷ []
refusal_words refusal.NotOwner = codes "notowner" ∷ []
refusal_words refusal.Ended = codes "ended" ∷ []
refusal_words refusal.TooLate = codes "toolate" ∷ []
refusal_words (refusal.NotClosed closed) = codes "notclosed" ∷ decimal closed ∷ []
refusal_words (refusal.BelowHorizon horizon) = codes "belowhorizon" ∷ decimal horizon ∷ []
refusal_words refusal.NoProtection = codes "noprotection" ∷ []
refusal_words refusal.NoFeed = codes "nofeed" ∷ []
refusal_words refusal.FeedCancelled = codes "feedcancelled" ∷ []
refusal_words refusal.NoMemory = codes "nomemory" ∷ []
refusal_words refusal.GapRange = codes "gaprange" ∷ []

unfoldable pub reply_words : Reply → List (List ℕ)
reply_words reply.Started = codes "started" ∷ []
reply_words (reply.Found None) = codes "none" ∷ []
reply_words (reply.Found (Some value)) = codes "value" ∷ spelling value ∷ []
reply_words (reply.Rows rows) = codes "rows" ∷ decimal (length rows) ∷ []
reply_words reply.Written = codes "written" ∷ []
reply_words (reply.Committed keys) = codes "committed" ∷ decimal keys ∷ []
reply_words reply.Aborted = codes "aborted" ∷ []
reply_words (reply.Closed at aborted) = codes "closed" ∷ decimal at ∷ decimal aborted ∷ []
reply_words (reply.Protected id) = codes "protected" ∷ decimal id ∷ []
reply_words reply.Released = codes "released" ∷ []
reply_words (reply.Collected horizon removed) = codes "collected" ∷ decimal horizon ∷ decimal removed ∷ []
reply_words (reply.Opened feed) = codes "opened" ∷ decimal feed ∷ []
reply_words (reply.Messages messages) = codes "messages" ∷ decimal (length messages) ∷ []
reply_words reply.Cancelled = codes "cancelled" ∷ []
reply_words (reply.Stats versions undecided feeds closed horizon) = codes "stats" ∷ decimal versions ∷ decimal undecided ∷ decimal feeds ∷ decimal closed ∷ decimal horizon ∷ []
reply_words (reply.Refused r) = refusal_words r

-- `row KEY VALUE`
abbrev pub row_line : List ℕ × List ℕ → List ℕ
row_line row = joined (codes "row" ∷ spelling row.0 ∷ spelling row.1 ∷ []) ++ 10 ∷ []

unfoldable pub following_lines : Reply → List ℕ
following_lines (reply.Rows rows) = flat_map row_line rows
following_lines (reply.Messages messages) = flat_map message_line messages
following_lines _ = []

abbrev pub reply_text : Reply → List ℕ
reply_text r = joined (reply_words r) ++ 10 ∷ following_lines r

-- its position, its session, its command, `=>` and its reply's words
abbrev pub heading_text : Event → List ℕ
heading_text e = joined (decimal e.position ∷ decimal e.seat ∷ (words_of e.cmd ++ codes "=>" ∷ reply_words e.reply))

-- this line, and the lines that follow
abbrev pub event_text : Event → List ℕ
event_text e = heading_text e ++ 10 ∷ following_lines e.reply

abbrev pub fault_line : ℕ → LineFault → List ℕ
fault_line line fault = joined (codes "fault" ∷ decimal line ∷ decimal (code_of fault) ∷ name_of fault ∷ []) ++ 10 ∷ []

abbrev pub spent_line : ℕ → List ℕ
spent_line line = joined (codes "spent" ∷ decimal line ∷ []) ++ 10 ∷ []
