-- What a command and a reply can be taken apart into.
use Rattle.std.specs.Prelude.{ℕ, List, Option, Some, None}
use Rattle.spans.specs.declared.span.Span.{Span}
use Rattle.spans.specs.declared.calls.commands.Cmd.{Cmd}
use Rattle.spans.specs.declared.calls.commands.Cmd.TheVariants.{Scan, ScanAt, Open, OpenInitial, OpenEvery, OpenInitialEvery}
use Rattle.spans.specs.declared.calls.replies.Reply.{Reply}
use Rattle.spans.specs.declared.calls.replies.Reply.TheVariants.{Rows}

-- the span of a command, if it has one
abbrev pub asked_span : Cmd → Option Span
asked_span (Scan ts span) = Some span
asked_span (ScanAt t span) = Some span
asked_span (Open span cursor) = Some span
asked_span (OpenInitial span cursor) = Some span
asked_span (OpenEvery span cursor gap) = Some span
asked_span (OpenInitialEvery span cursor gap) = Some span
asked_span cmd = None

-- the rows of a reply, if it has some
abbrev pub answered_rows : Reply → Option (List (List ℕ × List ℕ))
answered_rows (Rows rows) = Some rows
answered_rows reply = None
