use Rattle.std.proofs.Common.{◌≡◌, ◌≤◌, ◌++◌, length, take}
use Rattle.std.specs.Prelude.{filter}
use Rattle.plain_database.proofs.Common.{in_span, option_copied, written_keys}
use Rattle.plain_database.specs.Replies.{keys_past}
use Rattle.plain_database.specs.VersionsTied.{Says}
use Rattle.plain_database.proofs.SpanScans.{rows_of}
use Rattle.plain_database.proofs.versions.store.VersionStore.pairs.Given as goal

-- with those of the keys that are left, all are there, as far as max
abbrev pub invariant-loop-key : goal.invariant-loop-key
invariant-loop-key l = record {
  few : length l.pairs.items ≤ l.max;
  left : Says l.self (λ p. take l.max (l.pairs.items ++ rows_of p l.ts l.key-iterator) ≡ take l.max (rows_of p l.ts (keys_past (option_copied l.after) (filter (in_span l.span) (written_keys p)))));
}
