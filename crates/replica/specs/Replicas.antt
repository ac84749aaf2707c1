-- What a replica holds, what it has taken, and its tests of a message, with the numbers of the faults.
use Rattle.std.specs.Prelude.{ℕ, Bool, not, ◌&&◌, ◌-◌, nat_lt, Option, Some, None, is_none, if◌then◌else◌, IsSome, List, [], ◌∷◌, ◌++◌, ◌≡◌, option_map}
use Rattle.spans.specs.Collection.{floor_after}
use Rattle.spans.specs.declared.calls.messages.Message.TheVariants as messages
use Rattle.spans.specs.Consumer as consumer
use Rattle.replica.specs.Prelude.{Message, Row, in_span, ApplyFault, Map, Span, apply_fault, last_resolved, last_row, view_of}
use Rattle.replica.specs.declared.fault.Fault.{Fault}
use Rattle.replica.specs.declared.replica.Replica.{Replica}
use Rattle.replica.specs.Rows.{is_past, is_over, is_place_of, place_of, value_at}
use Rattle.replica.specs.declared.fault.Fault.TheVariants.{NotAfter, OutsideSpan, ResolvedBack, NoMemory}
use Rattle.replica.specs.Starts.{Start, resolved_at}
use Rattle.replica.specs.declared.fault.Fault.TheVariants as faults

-- why the replica refuses the message, if it does
abbrev pub fault_in : Replica → Message → Option Fault
fault_in r (messages.Row row) =
    if not (nat_lt r.resolved row.ts && is_past r.last row) then Some faults.NotAfter
    else (if not (in_span r.span row.key) then Some faults.OutsideSpan else None)
fault_in r (messages.Resolved t) = if not (nat_lt r.resolved t && is_over r.last t) then Some faults.ResolvedBack else None

-- the row is the first of its timestamp that the replica takes, and above its cursor
abbrev pub is_first_in : Replica → Row → Bool
is_first_in r row = nat_lt r.cursor row.ts && not (is_place_of r.last row.ts)

-- the timestamp at which the rows are the map as they stand, where the message shows it
abbrev pub ready_in : Replica → Message → Option ℕ
ready_in r (messages.Row row) = if is_none (fault_in r (messages.Row row)) && is_first_in r row then Some (row.ts - 1) else None
ready_in r (messages.Resolved t) = None

abbrev pub code_of : Fault → ℕ
code_of NotAfter = 1
code_of OutsideSpan = 2
code_of ResolvedBack = 3
code_of NoMemory = 4

-- the message puts a value at a key
abbrev pub AddsValue : Message → Type 0
AddsValue (messages.Row r) = IsSome r.after
AddsValue (messages.Resolved t) = ⊥

-- the rows of a replica, as a map
abbrev pub view_in : Replica → Map
view_in r = value_at r.table

abbrev pub span_in : Replica → Span
span_in r = r.span

-- what a replica resolved last, or its start
abbrev pub resolved_in : Replica → ℕ
resolved_in r = r.resolved

-- at which timestamp a replica is complete
abbrev pub complete_in : Replica → Option ℕ
complete_in r = r.complete

-- through where a replica was told all
abbrev pub through_in : Replica → Option ℕ
through_in r = if nat_lt r.floor r.cursor then None else Some r.floor

-- the replica that began so has taken these messages, the oldest first
pub record Follows (r : Replica) (s : Start) (messages : List Message) : Type 0 where
  pub span : r.span ≡ s.span
  pub cursor : r.cursor ≡ s.cursor
  pub rows : (x : List ℕ) → view_in r x ≡ view_of s.rows messages x
  pub resolved : r.resolved ≡ last_resolved s.start messages
  pub last : r.last ≡ option_map place_of (last_row None messages)
  pub floor : r.floor ≡ floor_after s.start messages
  pub complete : r.complete ≡ resolved_at s.first messages

-- after whatever the old replica has taken, the new one has taken one message more
abbrev pub Takes : Replica → Replica → Message → Type 0
Takes old new m = (s : Start) (messages : List Message) → Follows old s messages → Follows new s (messages ++ m ∷ [])

-- after whatever the replica has taken, this is why it is to refuse the message, if it is
abbrev pub IsFaultAt : Replica → Message → Option ApplyFault → Type 0
IsFaultAt r m fault = (s : Start) (messages : List Message) → Follows r s messages → apply_fault s.span s.start messages m ≡ fault

-- the test that a fault names: running out of memory is none
abbrev pub test_of : Fault → Option ApplyFault
test_of faults.NotAfter = Some consumer.NotAfter
test_of faults.OutsideSpan = Some consumer.OutsideSpan
test_of faults.ResolvedBack = Some consumer.ResolvedBack
test_of faults.NoMemory = None
