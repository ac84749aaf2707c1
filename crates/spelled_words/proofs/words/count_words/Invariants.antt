use Rattle.std.proofs.Common.{◌≡◌, ◌+◌, ◌≤◌, length, drop}
use Rattle.spelled_words.specs.Words.{words}
use Rattle.spelled_words.proofs.words.count_words.Given as goal

abbrev pub invariant-loop-byte : goal.invariant-loop-byte
invariant-loop-byte l = record {
  few : l.spaces ≤ l.byte-index;
  counts : l.spaces + length (words (drop l.byte-index l.text)) ≡ length (words l.text);
}
