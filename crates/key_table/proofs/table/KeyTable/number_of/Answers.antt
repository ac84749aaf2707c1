use Rattle.std.proofs.Common.{rules}
use Rattle.key_table.proofs.Numbering.{own_found}
use Rattle.key_table.proofs.table.KeyTable.number_of.Goals as goal

pub returns-clause-own : goal.returns-clause-own
returns-clause-own c = own_found c.self.inside.numbers c.self.inside.keys c.args.self.now c.args.key.now _ c.self.invariant c.self.view_is (search rules)
