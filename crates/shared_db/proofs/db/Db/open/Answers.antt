use Rattle.std.proofs.Common.{arith, rules, ◌≤◌}
use Rattle.std.proofs.lemmas.Bool.Decides.{nat_tests}
use Rattle.shared_db.proofs.Opening.{all_new}
use Rattle.shared_db.proofs.db.Db.open.Goals as goal

pub returns-clause-ok : goal.returns-clause-ok
returns-clause-ok c =
    let lock = c.in-Ok-new.ensures.begun in
    let oracle = c.in-Ok-new-2.ensures in
    let seats_low : 1 ≤ c.args.config.seats = first_of (grind (arith, nat_tests, c.if-config-eq0.false), omega (arith, c.if-config-eq0.false), search rules) in
    let seats_high : c.args.config.seats ≤ 64 = first_of (grind (arith, nat_tests, c.if-config.false), omega (arith, c.if-config.false), search rules) in
    let ring_low : 1 ≤ c.args.config.ring = first_of (grind (arith, nat_tests, c.if-config-eq0-2.false), omega (arith, c.if-config-eq0-2.false), search rules) in
    let ring_high : c.args.config.ring ≤ 65536 = first_of (grind (arith, nat_tests, c.if-config-gt-MAX_RING.false), omega (arith, c.if-config-gt-MAX_RING.false), search rules) in record {
      seats_in_range = (seats_low, seats_high);
      ring_in_range = (ring_low, ring_high);
      first = lock.first;
      count = lock.count;
      seat_total = lock.all;
      new_seats = all_new (record { lock = c.in-Ok-new.lock; oracle = c.in-Ok-new-2.oracle }) c.in-Ok-new.seats.items lock.new;
      pass_total = oracle.count;
      new_passes = oracle.passes;
    }
