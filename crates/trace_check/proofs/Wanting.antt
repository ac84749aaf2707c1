-- Running out of memory leaves a database as it was.
use Rattle.std.proofs.Common.{◌≡◌, true, List, ◌∷◌, ap, ◌∙◌, inr}
use Rattle.spans.specs.declared.calls.replies.Reply.TheVariants.{Refused}
use Rattle.spans.specs.declared.calls.replies.Refusal.TheVariants.{NoMemory}
use Rattle.trace_check.proofs.Common.{Event, StandsFor, effect, effects_of, is_accepted, may_lack_memory, wanting_does_nothing}
use Rattle.spans.specs.Answer.{answer_of}
use Rattle.plain_database.specs.declared.database.PlainDatabase.{PlainDatabase}
use Rattle.plain_database.proofs.Events.{stands_still}

-- a command that may want memory found none: the database stands for that event too
pub stands_wanting : (db : PlainDatabase) (h : List Event) (e : Event) → StandsFor db h → e.reply ≡ Refused NoMemory → is_accepted (answer_of (effects_of h) e.seat e.cmd) ≡ true → may_lack_memory e.cmd ≡ true → StandsFor db (e ∷ h)
stands_wanting db h e stands wants accepted may =
    stands_still db h e.position e.seat e.cmd e.reply (ap (effect e.seat e.cmd) wants ∙ wanting_does_nothing e.seat e.cmd) stands (inr (wants, accepted, may))
