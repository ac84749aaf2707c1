use Rattle.std.proofs.Common.{◌≡◌, drop, true, false, sym, ap, ◌∙◌}
use Rattle.script.proofs.Arrows.{is_none, is_arrow}
use Rattle.script.proofs.headings.words_behind_arrow.Goals as goal

pub returns-in_default : goal.returns-in_default
returns-in_default c =
    let skipped : c.skip.new.words ≡ drop c.args.arguments c.args.words.now = c.skip.ensures ∙ ap (drop c.args.arguments) c.fork-ahead.ensures in
    is_none c.args.arguments c.args.words.now c.skip.new.words skipped c.in_default.ensures.0

pub returns-then-eq : goal.returns-then-eq
returns-then-eq c =
    let skipped : c.skip.new.words ≡ drop c.args.arguments c.args.words.now = c.skip.ensures ∙ ap (drop c.args.arguments) c.fork-ahead.ensures in
    is_arrow true c.args.arguments c.args.words.now c.skip.new.words c.take_word.new.self c.in-Some.arrow.now c.as_slice.result.now skipped c.in-Some.ensures c.as_slice.ensures (sym c.eq.ensures ∙ c.if-eq.true)

pub returns : goal.returns
returns c =
    let skipped : c.skip.new.words ≡ drop c.args.arguments c.args.words.now = c.skip.ensures ∙ ap (drop c.args.arguments) c.fork-ahead.ensures in
    is_arrow false c.args.arguments c.args.words.now c.skip.new.words c.take_word.new.self c.in-Some.arrow.now c.as_slice.result.now skipped c.in-Some.ensures c.as_slice.ensures (sym c.eq.ensures ∙ c.if-eq.false)
