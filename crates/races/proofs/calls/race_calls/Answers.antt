use Rattle.std.proofs.Common.{◌∙◌, arith, refl, sym, rules}
use Rattle.races.proofs.Shares.{new_own, new_idle}
use Rattle.races.proofs.Fresh.{ended_own, race_of}
use Rattle.races.proofs.calls.race_calls.Goals as goal

pub race-requires : goal.race-requires
race-requires g c = let o = c.in_ok-db.ensures.ok in (c.type_bounds.sync-R, (c.type_bounds.sync-G, (new_own c.in_ok-db.db c.in_ok-db.seats.items o.new_seats, new_idle c.in_ok-db.db c.in_ok-db.seats.items o.new_seats)))

pub settle-requires : goal.settle-requires
settle-requires g c = let o = c.in_ok-db.ensures.ok in let e = c.in-Ok.ensures.ended in record {
  own = ended_own c.in_ok-db.db c.in_ok-db.seats.items c.in_ok-lists.lists.items c.in-Ok.ended e;
  all = e.count ∙ (o.seat_total ∙ sym o.count);
}

pub returns-clause-raced : goal.returns-clause-raced
returns-clause-raced g c =
    let r = c.in_ok-_engine in
    race_of (record { seats = c.from.result; ring = c.args.ring; first = 0 }) c.args.sessions c.in_ok-db.db c.in_ok-db.seats.items c.in_ok-db._passes.items c.args.calls.items c.in_ok-lists.lists.items c.in-Ok.ended r._engine r.events.items
    refl (search rules) (omega (arith, r.events.ok, r.events.small)) (search rules) c.in_ok-lists.ensures.each c.in_ok-db.ensures.ok c.in-Ok.ensures.ended r.ensures
