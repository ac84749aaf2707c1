use Rattle.std.proofs.Common.{refl, ap, ◌-◌, Some, None}
use Rattle.replica.proofs.Following.{takes_row}
use Rattle.replica.proofs.replica.Replica.take_row.Goals as goal

pub returns-clause-ok : goal.returns-clause-ok
returns-clause-ok c = takes_row c.args.self.now (record c.args.self.now { floor = c.get.result - 1; last = Some (record { ts = c.args.row.ts; key = c.args.row.key }); complete = None; table = c.change.new.self }) c.args.row
    refl refl c.in_ok-change.ensures.ok refl refl refl (ap (λ n. n - 1) c.get.ensures.number)
