use Rattle.std.proofs.lemmas.Slice.Eq.{slice_eq-Decides}
use Rattle.trace_check.proofs.Sameness.{messages_decide}
use Rattle.trace_check.proofs.taking.same_messages.Goals as goal

pub returns : goal.returns
returns c = rw (← c.as_slice.ensures, ← c.as_slice-2.ensures) (slice_eq-Decides messages_decide c.as_slice.result.now c.as_slice-2.result.now c.eq.result c.eq.ensures)
