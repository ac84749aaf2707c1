use Rattle.std.proofs.Common.{◌∙◌, List, arith, length, subst, ◌<◌}
use Rattle.catch_up.proofs.Common.{Entry, option_copied}
use Rattle.catch_up.proofs.Firsts.{IsSnapping, snap_begins, snap_goes_on}
use Rattle.catch_up.proofs.snapshot.next_snapshot.Goals as goal

pub loop-key-init : goal.loop-key-init
loop-key-init c = snap_begins c.args.store.now c.args.span.now c.in_ok-rest.rest (option_copied c.args.after) c.args.at c.args.n c.into_iter-key-iterator.result c.new-rows.result.items c.in_ok-rest.ensures
    (c.into_iter-key-iterator.ensures.into_iter_gives ∙ c.in_span-key-items.ensures.found) c.in_span-key-items.ensures.ordered c.new-rows.ensures.items

pub loop-key-preserved : goal.loop-key-preserved
loop-key-preserved c =
    let snap = subst (λ (es : List Entry). IsSnapping c.args.store.now c.args.span.now (option_copied c.args.after) c.args.at c.args.n es c.loop-key.rows.items) c.in-Some.ensures.steps c.loop-key.invariant in
    let low : length c.loop-key.rows.items < c.args.n = omega (arith, c.if-len-n.false, c.len.ensures, c.loop-key.rows.ok) in
    snap_goes_on c.args.store.now c.args.span.now (option_copied c.args.after) c.args.at c.get.result c.args.n c.in-Some.key.now c.in-Some.chain.now c.next.new.self c.loop-key.rows.items c.add_first.new.rows.items c.newest_at-newest.result
    snap low c.get.ensures.number c.newest_at-newest.ensures.version c.add_first.ensures.named c.in_ok-add_first.ensures.added
