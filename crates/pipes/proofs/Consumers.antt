-- A consumer takes the line of the message that its feed told next.
use Rattle.std.proofs.Common.{◌≡◌, ℕ, List, [], ◌∷◌, ◌++◌, Option, None, refl, sym, ap, subst, ◌∙◌}
use Rattle.pipes.proofs.Common.{AllByRecursion, AllTaken, ApplyFault, Event, IsMessage, Message, Replica, Span, Takes, Two, apply_fault, message_at, message_line, ok_is, taken_after, test_of}
use Rattle.spans.specs.declared.calls.messages.Message.TheVariants as messages
use Rattle.json_lines.specs.declared.fault.MessageFault.{MessageFault}
use Rattle.json_lines.specs.declared.fault.MessageFault.TheVariants as lines
use Rattle.replica.specs.declared.fault.Fault.{Fault}
use Rattle.replica.specs.declared.fault.Fault.TheVariants as faults
use Rattle.replica.specs.Replicas.{AddsValue}
use Rattle.embedded_replica.specs.Consumers.{HasTaken, IsLineOf, IsNoMessage, IsRefused}
use Rattle.embedded_replica.specs.declared.consumer.TakeError.{TakeError}
use Rattle.embedded_replica.specs.declared.consumer.TakeError.TheVariants as takes
use Rattle.follow.proofs.MessagesRead.{line_is_message}
use Rattle.pipes.specs.Consumers.{ComesNext, IsOutOfMemoryAt, TakesLine}
use Rattle.pipes.specs.Followers.{told_in}
use Rattle.pipes.proofs.Followers.{none_refused, told_lawful}
use Rattle.pipes.proofs.Texts.{no_fault}

-- ---- lines of messages

-- a line is of one message
one_message : (m k : Message) → IsMessage Two m → IsLineOf (message_line m) k → k ≡ m
one_message m k is line = sym (ok_is m k (sym (line_is_message Two m is) ∙ ap (message_at Two) line.is ∙ line_is_message Two k line.lawful))

-- a message's line is read as one, unless memory is wanting, which it never is at a resolved message
line_refused : (m : Message) (fault : MessageFault) → IsMessage Two m → IsNoMessage (message_line m) fault → IsOutOfMemoryAt m (takes.Line fault)
line_refused (messages.Row r) lines.NoMemory is why = tt
line_refused (messages.Resolved t) lines.NoMemory is why = absurd ((why.1 refl).unresolved t is refl)
line_refused m fault is why = absurd (no_fault (message_at Two (message_line m)) m fault (line_is_message Two m is) (why.0 (λ (e : fault ≡ lines.NoMemory). cc)))

-- ---- the message that comes next

-- what passes the tests is refused for want of memory alone
memory_alone : (fault : Fault) (test : Option ApplyFault) → test ≡ None → test ≡ test_of fault → fault ≡ faults.NoMemory
memory_alone faults.NoMemory test passes is = refl
memory_alone _ test passes is = absurd cc

message_refused : (m : Message) (fault : Fault) → fault ≡ faults.NoMemory → (fault ≡ faults.NoMemory → AddsValue m) → IsOutOfMemoryAt m (takes.Message fault)
message_refused (messages.Row r) faults.NoMemory is adds = tt
message_refused (messages.Resolved t) faults.NoMemory is adds = absurd (adds refl)
message_refused m fault is adds = absurd cc

-- what holds of all holds of the one in the middle
of_middle : {A : Type 0} (P : A → Type 0) (xs : List A) (y : A) (ys : List A) → AllByRecursion P (xs ++ y ∷ ys) → P y
of_middle P [] y ys all = all.0
of_middle P (x ∷ xs) y ys all = of_middle P xs y ys all.1

module _ (es : List Event) (n : ℕ) (r : Replica) (m : Message) (next : ComesNext es n r m) where
  -- it has a line
  next_lawful : IsMessage Two m
  next_lawful = of_middle (IsMessage Two) next.before m next.behind (subst (AllByRecursion (IsMessage Two)) next.told (told_lawful Two next.first n es next.writable))

  -- and passes the tests
  next_passes : apply_fault next.start.span next.start.start next.before m ≡ None
  next_passes =
      let all : AllTaken next.feed.span next.start.start [] (told_in es n) = none_refused es n next.feed next.start next.writable.history.legal next.opened next.starts in
      let rest = taken_after next.feed.span next.start.start [] next.before (m ∷ next.behind) (subst (AllTaken next.feed.span next.start.start []) next.told all) in
      subst (λ (s : Span). apply_fault s next.start.start next.before m ≡ None) (sym next.starts.span) rest.0

  next_refused : (error : TakeError) → IsRefused (message_line m) r error → IsOutOfMemoryAt m error
  next_refused (takes.Line fault) why = line_refused m fault next_lawful why
  next_refused (takes.Message fault) why =
      let same : why.message ≡ m = one_message m why.message next_lawful why.line_of in
      let test = why.test next.start next.before next.follows in
      let passes : apply_fault next.start.span next.start.start next.before why.message ≡ None = subst (λ (k : Message). apply_fault next.start.span next.start.start next.before k ≡ None) (sym same) next_passes in
      message_refused m fault (memory_alone fault (apply_fault next.start.span next.start.start next.before why.message) passes test) (subst (λ (k : Message). fault ≡ faults.NoMemory → AddsValue k) same why.memory)

  next_taken : (new : Replica) → HasTaken (message_line m) r new → Takes r new m
  next_taken new has = subst (Takes r new) (one_message m has.message next_lawful has.line_of) has.taken

pub takes_line : (es : List Event) (n : ℕ) (r : Replica) (m : Message) → ComesNext es n r m → TakesLine r m
takes_line es n r m next = record { taken = next_taken es n r m next; refused = next_refused es n r m next }
