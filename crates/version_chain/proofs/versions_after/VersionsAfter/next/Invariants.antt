use Rattle.std.proofs.Common.{◌≡◌, length}
use Rattle.std.specs.Option.{option_copied}
use Rattle.version_chain.specs.Records.{stored_of}
use Rattle.version_chain.specs.Walking.{IsAhead, keys_ahead}
use Rattle.version_chain.proofs.versions_after.VersionsAfter.next.Given as goal

-- the place stays as it was, while what is ahead gets less
abbrev pub invariant-loop-key : goal.invariant-loop-key
invariant-loop-key l = (l.fn.self ≡ record { store = stored_of l.self-inside.chains.now; ts = l.self-inside.ts; key = option_copied l.self-inside.key; through = l.self-inside.through }) × IsAhead l.fn.self l.self-inside.at (keys_ahead l.self-inside.keys) l.self-inside.later

abbrev pub decreases-loop-key : goal.decreases-loop-key
decreases-loop-key l = length l.self-inside.later
