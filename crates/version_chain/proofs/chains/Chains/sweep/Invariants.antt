use Rattle.std.proofs.Common.{◌≡◌, ◌<◌, ◌⊎◌, ℕ, List, [], length, true}
use Rattle.std.specs.Prelude.{slice_index_or}
use Rattle.version_chain.proofs.Common.{is_reader, latest_in}
use Rattle.version_chain.specs.Stores.{HaveSameChains, HaveSameMarks}
use Rattle.version_chain.specs.ByNumber.{readers_in}
use Rattle.version_chain.specs.Records.{stored_of}
use Rattle.version_chain.proofs.chains.Chains.sweep.Given as goal

abbrev pub invariant-loop-number : goal.invariant-loop-number
invariant-loop-number l = record {
  chains : HaveSameChains (stored_of l.fn.self) (stored_of l.self);
  marks : HaveSameMarks (stored_of l.fn.self) (stored_of l.self);
  forgotten : l.self.forgotten ≡ l.fn.self.forgotten;
  count : length l.self.records.items ≡ length l.fn.self.records.items;
  swept : (m j : ℕ) → m < l.number → is_reader (slice_index_or (readers_in l.self.records.items) m []) j ≡ true → l.fn.self.forgotten < j;
  spans : (x : List ℕ) → (latest_in l.self.spans x ≡ 0) ⊎ (l.fn.self.forgotten < latest_in l.self.spans x);
}
