use lib.ListN.{get_or}
use Rattle.std.proofs.lemmas.Result.{IfOk-weaker}
use Rattle.races.proofs.Shares.{elem_at, new_own, new_idle}
use Rattle.session_tests.proofs.tests.together.race_new.Goals as goal

pub race-requires-clause-own : goal.race-requires-clause-own
race-requires-clause-own g c κs outlives = new_own c.args.db.now c.args.seats.items c.requires.new

pub race-requires-clause-idle : goal.race-requires-clause-idle
race-requires-clause-idle g c κs outlives = new_idle c.args.db.now c.args.seats.items c.requires.new

pub returns : goal.returns
returns g c = record { own = IfOk-weaker c.race.result _ _ (λ ended e. λ k d lt. (e.each k (get_or ended.items k d) (elem_at ended.items k d lt)).played.own) c.race.ensures.ended }
