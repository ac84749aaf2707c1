use Rattle.std.proofs.Common.{◌≡◌}
use Rattle.plain_database.proofs.Common.{first_refusal}
use Rattle.plain_database.specs.Replies.{block_tests}
use Rattle.plain_database.specs.VersionsTied.{Says}
use Rattle.plain_database.proofs.SpanScans.{tests_of}
use Rattle.plain_database.proofs.versions.store.VersionStore.blocker.Given as goal

-- no key so far stops the reader
abbrev pub invariant-loop-key : goal.invariant-loop-key
invariant-loop-key l = Says l.self (λ p. first_refusal (tests_of p l.ts l.key-iterator) ≡ first_refusal (block_tests p l.span l.ts))
