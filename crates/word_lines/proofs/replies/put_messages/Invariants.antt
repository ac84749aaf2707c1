use Rattle.std.proofs.Common.{◌≡◌, ◌++◌, take}
use Rattle.std.specs.List.{flat_map}
use Rattle.word_lines.specs.Messages.{message_line}
use Rattle.word_lines.proofs.replies.put_messages.Given as goal

abbrev pub invariant-loop-message : goal.invariant-loop-message
invariant-loop-message l = l.out.items ≡ l.fn.out.items ++ flat_map message_line (take l.message-index l.messages)
