use Rattle.std.proofs.Common.{◌≡◌, true, false, Bool, ap, sym, ◌∙◌}
use Rattle.std.specs.Prelude.{◌||◌}
use Rattle.std.specs.List.{list_all, list_any}
use Rattle.spelled_words.specs.Words.{is_printable, is_empty, words}
use Rattle.spelled_words.proofs.Splitting.{empty_more, printable_more, words_short, words_good, some_empty, some_empty_is, at_end}
use Rattle.spelled_words.proofs.words.check_words.Goals as goal

pub loop-byte-preserved : goal.loop-byte-preserved
loop-byte-preserved c =
    let lt = c.loop-byte-test.true in
    record {
      printable = printable_more c.args.text.now c.loop-byte.byte-index _ lt (sym c.if-not-is_printable.ensures) c.loop-byte.invariant.printable;
      empty = empty_more c.loop-byte.has_empty c.loop-byte.after_space c.args.text.now c.loop-byte.byte-index _ lt c.loop-byte.invariant.empty;
    }

pub returns-then-has_empty-after_space : goal.returns-then-has_empty-after_space
returns-then-has_empty-after_space c =
    let text = c.args.text.now in
    let all : list_all is_printable text ≡ true = sym c.loop-byte.invariant.printable ∙ at_end (list_all is_printable) text c.loop-byte.byte-index c.loop-byte-test.false in
    let some : list_any is_empty (words text) ≡ true =
    sym (some_empty_is text) ∙ sym c.loop-byte.invariant.empty ∙ ap (λ (x : Bool). c.loop-byte.has_empty || x) (at_end (some_empty c.loop-byte.after_space) text c.loop-byte.byte-index c.loop-byte-test.false) ∙ c.if-has_empty-after_space.true in
    words_short text all some

pub returns : goal.returns
returns c =
    let text = c.args.text.now in
    let all : list_all is_printable text ≡ true = sym c.loop-byte.invariant.printable ∙ at_end (list_all is_printable) text c.loop-byte.byte-index c.loop-byte-test.false in
    let none : list_any is_empty (words text) ≡ false =
    sym (some_empty_is text) ∙ sym c.loop-byte.invariant.empty ∙ ap (λ (x : Bool). c.loop-byte.has_empty || x) (at_end (some_empty c.loop-byte.after_space) text c.loop-byte.byte-index c.loop-byte-test.false) ∙ c.if-has_empty-after_space.false in
    words_good text all none
