use Rattle.std.proofs.Common.{ap}
use Rattle.ticket_lock.specs.Seats.{IsNew}
use Rattle.ticket_lock.proofs.ListFacts.{each_read}
use Rattle.session_tests.proofs.tests.sleepers.follow_all.Goals as goal

pub map_vec-requires-after_bounds : goal.map_vec-requires-after_bounds
map_vec-requires-after_bounds g c κs within = λ i seat below at.
    let new = each_read (IsNew c.args.lock.now) c.args.seats.items i seat c.requires.new below at in
    (record { table = new.table; first = ap (λ v. v.kept.first) new.view }, ap (λ v. v.ticket) new.view)
