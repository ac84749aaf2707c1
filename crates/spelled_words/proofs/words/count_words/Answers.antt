use Rattle.std.proofs.Common.{◌+◌, length, get_or, ap, sym, ◌∙◌, arith}
use Rattle.spelled_words.specs.Words.{is_space, words}
use Rattle.spelled_words.proofs.Splitting.{count_more, at_most_one, at_end}
use Rattle.spelled_words.proofs.words.count_words.Goals as goal

pub loop-byte-preserved : goal.loop-byte-preserved
loop-byte-preserved c =
    let b = get_or c.args.text.now c.loop-byte.byte-index 0 in
    record {
      few = omega (arith, c.from-spaces.ensures, at_most_one (is_space b));
      counts = rw c.from-spaces.ensures (count_more c.loop-byte.spaces c.args.text.now c.loop-byte.byte-index _ c.loop-byte-test.true c.loop-byte.invariant.counts);
    }

pub returns : goal.returns
returns c = ap (λ n. c.loop-byte.spaces + n) (sym (at_end (λ x. length (words x)) c.args.text.now c.loop-byte.byte-index c.loop-byte-test.false)) ∙ c.loop-byte.invariant.counts
