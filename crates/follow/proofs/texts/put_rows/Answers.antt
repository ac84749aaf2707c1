use Rattle.std.proofs.Common.{◌++◌, List, ℕ, ap}
use Rattle.follow.proofs.Common.{flat_map, row_line}
use Rattle.follow.proofs.Tellings.{added_more, added_all}
use Rattle.follow.proofs.texts.put_rows.Goals as goal

pub loop-key-init : goal.loop-key-init
loop-key-init c = ap (λ (rows : List (List ℕ × List ℕ)). c.args.out.now.items ++ flat_map row_line rows) c.into_iter-key-iterator.ensures.into_iter_gives

pub loop-key-preserved : goal.loop-key-preserved
loop-key-preserved c = let l = c.loop-key in
    added_more row_line l.out.items (c.args.out.now.items ++ flat_map row_line c.args.rows) l.key-iterator l.invariant c.put_row.new.out.items c.next.new.self (c.in-Some.key.now, c.in-Some.value.now) c.in-Some.ensures.steps c.in_ok-put_row.ensures

pub returns : goal.returns
returns c = let l = c.loop-key in added_all row_line l.out.items (c.args.out.now.items ++ flat_map row_line c.args.rows) l.key-iterator l.invariant c.in-None.ensures.steps.0
