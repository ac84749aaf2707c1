use Rattle.std.proofs.Common.{sym, None, arith}
use Rattle.replica.specs.Rows.{is_listed, value_at}
use Rattle.replica.proofs.Common.{common_steps}
use Rattle.replica.proofs.Listed.{at_bytes}
use Rattle.replica.proofs.Tied.{put_at, tied_less}
use Rattle.replica.proofs.table.Table.change.Goals as goal

pub invariant_of-self : goal.invariant_of-self
invariant_of-self c = tied_less (value_at c.self.inside.rows.entries) (value_at c.remove.new.self.entries) (is_listed c.self.inside.index) (is_listed c.remove-in-Some-remove.new.self) c.args.key.now c.in-Some-remove.before
    c.self.invariant (sym c.in-Some-remove.ensures.value)
    (put_at (value_at c.self.inside.rows.entries) (value_at c.remove.new.self.entries) c.args.key.now None c.in-Some-remove.ensures.updates.0)
    c.remove-in-Some-remove.ensures

pub returns-in-Some-remove-clause-ok : goal.returns-in-Some-remove-clause-ok
returns-in-Some-remove-clause-ok c = grind (arith, common_steps, at_bytes)
