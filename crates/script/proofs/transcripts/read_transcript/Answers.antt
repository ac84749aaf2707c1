use Rattle.std.proofs.Common.{Vec, Global, subst, sym}
use Rattle.spans.specs.declared.calls.events.Event.{Event}
use Rattle.script.specs.Transcripts.{Tells}
use Rattle.script.proofs.ReadEvents.{told_found}
use Rattle.script.proofs.TakeLines.{text_wants}
use Rattle.script.proofs.transcripts.read_transcript.Goals as goal

pub returns-clause-found : goal.returns-clause-found
returns-clause-found c =
    told_found c.args.format c.args.text.now c.all_of.result (subst (λ read. Tells (λ (events : Vec Event Global). events.items) c.all_of.result read) (sym c.in_ok-left.ensures.exact) c.all_of.ensures.exact)

pub returns-clause-memory : goal.returns-clause-memory
returns-clause-memory c = text_wants c.args.format c.args.text.now c.in_ok-left.left c.all_of.result c.in_ok-left.ensures.left c.all_of.ensures.memory
