use Rattle.std.proofs.Common.{◌≡◌, take, drop, sym, ap, ◌∙◌, subst, arith, rules}
use mathlib.Core.Option.{some}
use lib.ListN.{get_or}
use Rattle.shared_db.specs.Seats.{IsOf}
use Rattle.sessions.specs.Seating.{AreSeated}
use Rattle.sessions.proofs.Halves.{joined, read_front, read_back}
use Rattle.sessions.proofs.Seating.{both_back}
use Rattle.sessions.proofs.callers.meet_at.Goals as goal

pub meet-requires : goal.meet-requires
meet-requires c =
    let xs = c.args.seats.now.items in let s = c.split_at_mut-front in
    let one = c.index-front-low.result in let other = c.index-back-0.result in
    let order = c.requires.order in let there = c.requires.there in
    let fl = s.ensures.front_len in let bl = s.ensures.back_len in let sl = c.as_mut_slice.ensures.len in
    let at = read_front xs s.result.0.now c.args.low c.args.high one (s.ensures.front ∙ ap (take c.args.high) c.as_mut_slice.ensures.value) order (omega arith) c.index-front-low.is in
    let at' = read_back xs s.result.1.now c.args.high other (s.ensures.back ∙ ap (drop c.args.high) c.as_mut_slice.ensures.value) (omega arith) c.index-back-0.is in
    record { own = (subst (IsOf c.args.db.now) c.index-front-low.is (c.requires.seated c.args.low one at).own, subst (IsOf c.args.db.now) c.index-back-0.is (c.requires.seated c.args.high other at').own) }

pub returns-clause-met : goal.returns-clause-met
returns-clause-met c =
    let xs = c.args.seats.now.items in let s = c.split_at_mut-front in let m = c.meet.ensures in
    let front = s.result.0.now in let back = s.result.1.now in
    let one = c.index-front-low.result in let other = c.index-back-0.result in
    let order = c.requires.order in let there = c.requires.there in
    let fl = s.ensures.front_len in let bl = s.ensures.back_len in let sl = c.as_mut_slice.ensures.len in
    let is_front : front ≡ take c.args.high xs = s.ensures.front ∙ ap (take c.args.high) c.as_mut_slice.ensures.value in
    let is_back : back ≡ drop c.args.high xs = s.ensures.back ∙ ap (drop c.args.high) c.as_mut_slice.ensures.value in
    record {
      one = get_or front c.args.low one;
      other = get_or back 0 other;
      one' = c.meet.new.one;
      other' = c.meet.new.other;
      at_one = read_front xs front c.args.low c.args.high one is_front order (omega arith) c.index-front-low.is ∙ ap some c.index-front-low.is;
      at_other = read_back xs back c.args.high other is_back (omega arith) c.index-back-0.is ∙ ap some c.index-back-0.is;
      seats = joined xs front back _ c.args.low c.args.high c.args.seats.now.len c.meet.new.one c.meet.new.other is_front is_back order (omega arith) (search rules);
      longer_seen = m.longer.0;
      same_seen = m.longer.1;
      begins_one = m.begins.0;
      begins_other = m.begins.1;
      one_mine = m.mine.0;
      other_mine = m.mine.1;
      one_spent = m.spent.0;
      other_spent = m.spent.1;
    }

pub returns-clause-seated : goal.returns-clause-seated
returns-clause-seated c =
    let xs = c.args.seats.now.items in let s = c.split_at_mut-front in let m = c.meet.ensures in
    let front = s.result.0.now in let back = s.result.1.now in
    let one = c.index-front-low.result in let other = c.index-back-0.result in
    let order = c.requires.order in let there = c.requires.there in
    let fl = s.ensures.front_len in let bl = s.ensures.back_len in let sl = c.as_mut_slice.ensures.len in
    let is_front : front ≡ take c.args.high xs = s.ensures.front ∙ ap (take c.args.high) c.as_mut_slice.ensures.value in
    let is_back : back ≡ drop c.args.high xs = s.ensures.back ∙ ap (drop c.args.high) c.as_mut_slice.ensures.value in
    let at_one = read_front xs front c.args.low c.args.high one is_front order (omega arith) c.index-front-low.is ∙ ap some c.index-front-low.is in
    let at_other = read_back xs back c.args.high other is_back (omega arith) c.index-back-0.is ∙ ap some c.index-back-0.is in
    subst (AreSeated c.args.db.now) (sym (joined xs front back _ c.args.low c.args.high c.args.seats.now.len c.meet.new.one c.meet.new.other is_front is_back order (omega arith) (search rules)))
    (both_back c.args.db.now xs c.args.low c.args.high (get_or front c.args.low one) (get_or back 0 other) c.meet.new.one c.meet.new.other c.requires.seated at_one at_other m.own.0 m.same.0 m.own.1 m.same.1)
