use Rattle.std.proofs.Common.{◌≡◌, ◌+◌, ◌≤◌, length}
use Rattle.spelled_words.specs.Words.{unspelled}
use Rattle.spelled_words.proofs.Unescaping.{onto}
use Rattle.spelled_words.proofs.spelling.unescaped.Given as goal

abbrev pub invariant-loop-rest : goal.invariant-loop-rest
invariant-loop-rest l = (onto l.bytes.items (unspelled l.rest) ≡ unspelled l.word) × (length l.bytes.items + length l.rest ≤ length l.word) × (24 ≤ l.bytes.capacity)

abbrev pub decreases-loop-rest : goal.decreases-loop-rest
decreases-loop-rest l = length l.rest
