use Rattle.std.proofs.Common.{rules, ◌≡◌, true, false, arith}
use Rattle.replica.proofs.Common.{both_ways, common_steps}
use Rattle.std.proofs.lemmas.Result.{err_from_is_err_and}
use Rattle.replica.proofs.replica.Replica.new.Goals as goal

pub returns-then-not-are_inside-clause-refused : goal.returns-then-not-are_inside-clause-refused
returns-then-not-are_inside-clause-refused c =
    let same : c.as_slice-pairs.result.now ≡ c.args.rows.items = search rules in
    let rises : c.rise.result ≡ true = search rules in
    let outside : c.are_inside.result ≡ false = search rules in
    grind (arith, common_steps, both_ways)

pub returns-in_err-table-clause-refused : goal.returns-in_err-table-clause-refused
returns-in_err-table-clause-refused c =
    let same : c.as_slice-pairs.result.now ≡ c.args.rows.items = search rules in
    let rises : c.rise.result ≡ true = search rules in
    let inside : c.are_inside.result ≡ true = search rules in
    let p = err_from_is_err_and c.from_residual.result c.from_residual.ensures.1 in
    grind (arith, common_steps)

pub returns-clause-taken : goal.returns-clause-taken
returns-clause-taken c =
    let same : c.as_slice-pairs.result.now ≡ c.args.rows.items = search rules in
    let rises : c.rise.result ≡ true = search rules in
    let inside : c.are_inside.result ≡ true = search rules in
    grind (arith, common_steps)
