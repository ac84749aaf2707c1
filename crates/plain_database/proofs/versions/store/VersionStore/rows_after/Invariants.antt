use Rattle.std.proofs.Common.{◌≡◌, ◌++◌, List, take}
use Rattle.std.specs.List.{flat_map}
use Rattle.plain_database.proofs.Common.{Row, option_copied, stream_of}
use Rattle.plain_database.specs.Replies.{beside, filled}
use Rattle.plain_database.specs.VersionsTied.{Says}
use Rattle.plain_database.proofs.Streaming.{rows_behind}
use Rattle.plain_database.proofs.versions.store.VersionStore.rows_after.Given as goal

-- with the rows of the transactions that are left, all rows are there, as far as max
abbrev pub invariant-loop-writer : goal.invariant-loop-writer
invariant-loop-writer l = record {
  all : List Row;
  says : Says l.self (λ p. all ≡ beside p l.span l.ts (option_copied l.key) l.fn.through ++ stream_of p l.span l.ts l.fn.through);
  left : filled l.max l.rows.items (flat_map (rows_behind l.span l.ts (option_copied l.key)) l.writer-iterator) ≡ take l.max all;
}
