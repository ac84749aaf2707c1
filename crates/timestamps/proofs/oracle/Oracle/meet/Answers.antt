use Rattle.std.proofs.Common.{rules, ap}
use Rattle.timestamps.proofs.Drawing.{hands_out, borrows, compares, returns, takes_back}
use Rattle.timestamps.proofs.Numbers.{apart_leases}
use Rattle.timestamps.proofs.Passes.{met}
use Rattle.timestamps.proofs.oracle.Oracle.meet.Goals as goal

pub split_seat-theirs-requires : goal.split_seat-theirs-requires
split_seat-theirs-requires c = (search rules, search rules, hands_out _ _ _ c.args.other.now.nothing_lent)

pub join_seat-requires : goal.join_seat-requires
join_seat-requires c = (search rules, search rules, search rules, search rules, borrows _ _ _ _ _ c.args.one.now.nothing_lent (ap (λ m. m.0.lent) c.split_seat-theirs.ensures.4))

pub load-requires : goal.load-requires
load-requires c = (search rules, search rules, compares _ _ _ _)

pub split_seat-theirs-requires-2 : goal.split_seat-theirs-requires-2
split_seat-theirs-requires-2 c = (search rules, search rules, returns _ _ _)

pub join_seat-requires-2 : goal.join_seat-requires-2
join_seat-requires-2 c = (search rules, search rules, search rules, search rules, takes_back _ _ _ _ _ (ap (λ m. m.0.drawn) c.split_seat-theirs.ensures.2) (ap (λ m. m.0.lent) c.split_seat-theirs-2.ensures.4))

pub returns-clause-blocks : goal.returns-clause-blocks
returns-clause-blocks c = met _ c.args.one.now.seat.me c.join_seat.new.seat.me c.load.new.seat.me c.split_seat-theirs-2.new.seat.me c.args.other.now.seat.me c.split_seat-theirs.new.seat.me c.join_seat-2.new.seat.me c.split_seat-theirs.result.me c.split_seat-theirs-2.result.me
    c.join_seat.ensures.2 c.load.ensures.2.0 c.split_seat-theirs-2.ensures.2 c.split_seat-theirs.ensures.4 c.split_seat-theirs-2.ensures.4 c.join_seat-2.ensures.2 c.load.ensures.2.2

pub returns-clause-leases : goal.returns-clause-leases
returns-clause-leases c = apart_leases _ _ (returns-clause-blocks c)
