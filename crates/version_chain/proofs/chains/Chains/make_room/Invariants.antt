use Rattle.std.proofs.Common.{◌≡◌}
use Rattle.version_chain.proofs.Common.{has_room}
use Rattle.version_chain.specs.ByNumber.{readers_in}
use Rattle.version_chain.proofs.Roaming.{IsWalked}
use Rattle.version_chain.proofs.chains.Chains.make_room.Given as goal

abbrev pub invariant-loop-number : goal.invariant-loop-number
invariant-loop-number l = record { walk : IsWalked (λ n q. has_room q.readers) l.keys l.fn.records.items l.records.items l.span l.number-iterator; readers : readers_in l.records.items ≡ readers_in l.fn.records.items }
