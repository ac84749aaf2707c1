use Rattle.std.proofs.Common.{◌≡◌, true, drop}
use Rattle.std.specs.Prelude.{◌||◌}
use Rattle.std.specs.List.{list_all}
use Rattle.spelled_words.specs.Words.{is_printable}
use Rattle.spelled_words.proofs.Splitting.{some_empty}
use Rattle.spelled_words.proofs.words.check_words.Given as goal

abbrev pub invariant-loop-byte : goal.invariant-loop-byte
invariant-loop-byte l = record {
  printable : list_all is_printable (drop l.byte-index l.text) ≡ list_all is_printable l.text;
  empty : (l.has_empty || some_empty l.after_space (drop l.byte-index l.text)) ≡ some_empty true l.text;
}
