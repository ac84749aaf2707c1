use Rattle.std.proofs.Common.{◌≡◌, ◌++◌, take}
use Rattle.std.specs.List.{flat_map}
use Rattle.embedded.specs.Typed.{message_bytes}
use Rattle.embedded.proofs.message_bytes.put_messages.Given as goal

abbrev pub invariant-loop-message : goal.invariant-loop-message
invariant-loop-message l = l.out.items ≡ l.fn.out.items ++ flat_map message_bytes (take l.message-index l.messages)
