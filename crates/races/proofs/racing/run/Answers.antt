use Rattle.std.proofs.Common.{◌≡◌, length, subst, arith, rules}
use Rattle.std.specs.Prelude.{IfOk}
use Rattle.std.proofs.lemmas.Result.{IfOk-weaker}
use mathlib.Core.Option.{some}
use lib.ListN.{get_elem?}
use Rattle.races.proofs.Common.{each_read}
use Rattle.races.specs.Racing.{IsPlayed, AreOk, AllEnded}
use Rattle.races.proofs.Promised.{found, all_ended}
use Rattle.races.proofs.racing.run.Goals as goal

pub returns-in-Ok-clause-ended : goal.returns-in-Ok-clause-ended
returns-in-Ok-clause-ended g c =
    let handles = c.in_ok-handles.handles.items in let results = c.in-Ok.results.items in let j = c.in-Ok.ensures in let s = c.in_ok-handles.ensures in
    let as_many : length results ≡ length handles = search rules in
    IfOk-weaker c.gather.result (λ all. AreOk results all.items) (AllEnded c.args.db.now c.args.seats.items c.args.lists.items)
    (λ all ok. all_ended (λ h. h.promise) c.args.db.now c.args.seats.items c.args.lists.items handles results all s.started
    (λ k r e. let at = found results k r e in let lt = at.0 in let kept = (j.each k r (search rules)).1 in
    (kept.handle, each_read (λ j d. get_elem? handles j ≡ some d) handles k kept.handle (λ j d e. e) (omega (arith, as_many, lt)) kept.handle_is, subst (λ x. IfOk x (λ e. IsPlayed kept.handle.promise.db.value kept.handle.promise.seat.value kept.handle.promise.commands.value.items e.events.items e.spent e.seat)) (at.1 r) kept.kept))
    as_many ok (search rules)) c.gather.ensures.ok
