use Rattle.std.proofs.Common.{◌≡◌, length, arith}
use Rattle.std.proofs.lemmas.Grind.{common_steps}
use Rattle.std.proofs.lemmas.Result.{err_from_is_err_and}
use Rattle.embedded_replica.specs.Consumers.{pairs_at}
use Rattle.embedded_replica.proofs.PairLines.{goes_on, is_done, nothing_before, stops}
use Rattle.embedded_replica.proofs.rows.pairs_of.Goals as goal

pub loop-rest-init : goal.loop-rest-init
loop-rest-init c = rw c.new-rows.ensures.items (nothing_before (pairs_at c.args.text.now))

pub returns-in_err-row : goal.returns-in_err-row
returns-in_err-row c =
    let p = err_from_is_err_and c.from_residual.result c.from_residual.ensures.1 in
    rw (p.1, p.2) (stops c.in_err-row.field-0.0 c.loop-rest.rows.items c.loop-rest.rest.now c.first_line.result.0.now c.first_line.result.1.now (pairs_at c.args.text.now) c.first_line.ensures.lines c.in_err-row.ensures c.loop-rest.invariant)

pub loop-rest-preserved : goal.loop-rest-preserved
loop-rest-preserved c =
    rw c.in_ok-push.ensures.items (goes_on c.loop-rest.rows.items c.loop-rest.rest.now c.first_line.result.0.now c.first_line.result.1.now c.in_ok-row.row (pairs_at c.args.text.now) c.first_line.ensures.lines c.in_ok-row.ensures c.loop-rest.invariant)

pub returns : goal.returns
returns c =
    let none : length c.loop-rest.rest.now ≡ 0 = grind (arith, common_steps) in
    is_done c.loop-rest.rows.items c.loop-rest.rest.now (pairs_at c.args.text.now) none c.loop-rest.invariant
