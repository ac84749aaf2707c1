use Rattle.version_chain.proofs.Roaming.{IsNotedAt, IsWalked}
use Rattle.version_chain.proofs.chains.Chains.note_each.Given as goal

abbrev pub invariant-loop-number : goal.invariant-loop-number
invariant-loop-number l = IsWalked (IsNotedAt l.fn.records.items l.ts l.forgotten) l.keys l.fn.records.items l.records.items l.span l.number-iterator
