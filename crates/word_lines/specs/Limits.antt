-- The commands, replies and events that have a text of a format: their keys, values and bounds are no longer than it lets them be.
use Rattle.std.specs.Prelude.{ℕ, ◌≤◌, ◌<◌, ◌^◌, List, length, Option, Some, None}
use Rattle.word_lines.specs.Prelude.{AllByRecursion, Cmd, Event, Format, Refusal, Reply, Span}
use Rattle.spans.specs.declared.calls.replies.Refusal.TheVariants as refusal
use Rattle.spans.specs.declared.calls.replies.Reply.TheVariants as reply
use Rattle.text_format.specs.Limits.{value_limit, bound_limit, line_limit}
use Rattle.word_lines.specs.Events.{heading_text}
use Rattle.json_lines.specs.Messages.{IsKey, IsAfter, IsMessage}
use Rattle.word_lines.specs.Words.{AreBytes}
use Rattle.word_lines.specs.Table.{Signature, Nothing, Number, Numbers, NumberKey, NumberKeyValue, NumberSpan, SpanNumber, SpanNumbers, Parts, Pieces, layout_of, pieces_of}

abbrev pub IsNumber : ℕ → Type 0
IsNumber n = n < 2 ^ 64

abbrev pub IsValue : Format → List ℕ → Type 0
IsValue format value = (length value ≤ value_limit format) × AreBytes value

abbrev pub IsBound : Format → Option (List ℕ) → Type 0
IsBound format None = Unit {0}
IsBound format (Some bound) = (1 ≤ length bound) × (length bound ≤ bound_limit format) × AreBytes bound

abbrev pub IsSpan : Format → Span → Type 0
IsSpan format span = IsBound format span.lo × IsBound format span.hi

abbrev pub AreParts : Format → (signature : Signature) → Parts signature → Type 0
AreParts format Nothing p = Unit {0}
AreParts format Number n = IsNumber n
AreParts format Numbers p = IsNumber p.0 × IsNumber p.1
AreParts format NumberKey p = IsNumber p.0 × IsKey format p.1
AreParts format NumberKeyValue p = IsNumber p.0 × IsKey format p.1 × IsValue format p.2
AreParts format NumberSpan p = IsNumber p.0 × IsSpan format p.1
AreParts format SpanNumber p = IsSpan format p.0 × IsNumber p.1
AreParts format SpanNumbers p = IsSpan format p.0 × IsNumber p.1 × IsNumber p.2

abbrev pub ArePieces : Format → Pieces → Type 0
ArePieces format p = AreParts format (layout_of p.verb).signature p.parts

unfoldable pub IsCommand : Format → Cmd → Type 0
IsCommand format c = ArePieces format (pieces_of c)

abbrev pub IsPair : Format → List ℕ × List ℕ → Type 0
IsPair format row = IsKey format row.0 × IsValue format row.1

abbrev pub IsRefusal : Refusal → Type 0
IsRefusal (refusal.BelowClosed closed) = IsNumber closed
IsRefusal (refusal.Blocked by) = IsNumber by
IsRefusal (refusal.NotClosed closed) = IsNumber closed
IsRefusal (refusal.BelowHorizon horizon) = IsNumber horizon
IsRefusal _ = Unit {0}

unfoldable pub IsReply : Format → Reply → Type 0
IsReply format (reply.Found found) = IsAfter format found
IsReply format (reply.Rows rows) = IsNumber (length rows) × AllByRecursion (IsPair format) rows
IsReply format (reply.Committed keys) = IsNumber keys
IsReply format (reply.Closed at aborted) = IsNumber at × IsNumber aborted
IsReply format (reply.Protected id) = IsNumber id
IsReply format (reply.Collected horizon removed) = IsNumber horizon × IsNumber removed
IsReply format (reply.Opened feed) = IsNumber feed
IsReply format (reply.Messages messages) = IsNumber (length messages) × AllByRecursion (IsMessage format) messages
IsReply format (reply.Stats versions undecided feeds closed horizon) = IsNumber versions × IsNumber undecided × IsNumber feeds × IsNumber closed × IsNumber horizon
IsReply format (reply.Refused r) = IsRefusal r
IsReply format _ = Unit {0}

-- its seat is one of 64
abbrev pub IsEvent : Format → Event → Type 0
IsEvent format e = IsNumber e.position × (e.seat < 64) × IsCommand format e.cmd × IsReply format e.reply

-- its first line isn't too long
abbrev pub KeepsLimit : Format → Event → Type 0
KeepsLimit format e = length (heading_text e) ≤ line_limit format
