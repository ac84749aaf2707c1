use Rattle.std.proofs.Common.{subst, ◌≡◌}
use Rattle.engine.specs.declared.Engine.{Engine}
use Rattle.shared_db.specs.Seats.{IsWhole}
use Rattle.shared_db.proofs.Finishing.{whole}
use Rattle.shared_db.proofs.db.Db.finish.Goals as goal

pub returns-in-Ok-clause-ok : goal.returns-in-Ok-clause-ok
returns-in-Ok-clause-ok c =
    let same : c.in-Ok.field-0.engine.value ≡ c.into_inner.result = cc in
    (subst (λ (engine : Engine). IsWhole c.args.self c.args.seats.items engine) same (whole c.args.self c.args.seats.items _ c.in-Ok.ensures.ok), c.in-Ok.ensures.ok.all)
