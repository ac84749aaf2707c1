use Rattle.std.proofs.lemmas.Result.{err_from_is_err_and}
use Rattle.word_lines.proofs.LongArguments.{value_long}
use Rattle.word_lines.proofs.commands.take_arguments.Goals as goal

pub returns-in_err-value-in-Put-clause-memory : goal.returns-in_err-value-in-Put-clause-memory
returns-in_err-value-in-Put-clause-memory c =
    let p = err_from_is_err_and c.from_residual-in_err-value-in-Put.result c.from_residual-in_err-value-in-Put.ensures.1 in
    rw (p.1, p.2) (λ is. rw c.in-Put.is (value_long c.args.format c.args.words.now ((c.in_ok-ts-in-Put.ts, c.in_ok-ts-in-Put.key), c.take_number_and_key-in-Put.new.words) c.in_ok-ts-in-Put.ensures.exact (c.in_err-value-in-Put.ensures.memory is)))
