use Rattle.replica.proofs.Rising.{are_rows_of}
use Rattle.replica.proofs.table.Table.len.Goals as goal

pub returns-clause-rows : goal.returns-clause-rows
returns-clause-rows c = rw (← c.self.view_is) (are_rows_of c.self.inside.rows.entries c.len.ensures.ordered)
