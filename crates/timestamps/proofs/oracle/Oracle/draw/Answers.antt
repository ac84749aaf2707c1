use Rattle.std.proofs.Common.{rules, refl}
use Rattle.timestamps.proofs.Drawing.{looks, draws_next}
use Rattle.timestamps.proofs.Passes.{rests, fresh_lease}
use Rattle.timestamps.proofs.oracle.Oracle.draw.Goals as goal

pub load-block-requires : goal.load-block-requires
load-block-requires c = (search rules, search rules, looks _ _ _ _)

pub compare_exchange-found-requires : goal.compare_exchange-found-requires
compare_exchange-found-requires c = (search rules, search rules, draws_next _ _ _ _ _ _ refl)

pub invariant_of-pass-2 : goal.invariant_of-pass-2
invariant_of-pass-2 c = let drew = c.compare_exchange-found.ensures.2 in let pass = c.args.pass.now in
    rests c.load-block.result c.compare_exchange-found.result pass.seat.me c.load-block.new.seat.me c.compare_exchange-found.new.seat.me c.load-block.ensures.2.0 drew.1 drew.2 pass.nothing_lent pass.rising

pub returns-clause-fresh : goal.returns-clause-fresh
returns-clause-fresh c =
    fresh_lease c.load-block.result c.compare_exchange-found.result c.of.result c.args.pass.now.seat.me c.load-block.new.seat.me c.compare_exchange-found.new.seat.me c.load-block.ensures.2.0 c.compare_exchange-found.ensures.2.1 c.if-found-block.false c.of.ensures
