use Rattle.replica.proofs.replica.Replica.len.Goals as goal

pub returns : goal.returns
returns c = record { rows = c.args.self.now.table; all = c.len.ensures.rows; count = c.len.ensures.all }
