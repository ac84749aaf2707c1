use Rattle.std.proofs.Common.{◌≡◌, ◌++◌, take}
use Rattle.report_lines.proofs.Common.{flat_map}
use Rattle.report_lines.specs.Lines.{transaction_line}
use Rattle.report_lines.proofs.lines.put_transactions.Given as goal

abbrev pub invariant-loop-transaction : goal.invariant-loop-transaction
invariant-loop-transaction l = l.out.items ≡ l.fn.out.items ++ flat_map transaction_line (take l.transaction-index l.transactions)
