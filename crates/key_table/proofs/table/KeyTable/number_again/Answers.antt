use Rattle.std.proofs.Common.{rules, sym, Some}
use Rattle.key_table.proofs.Numbering.{own_found}
use Rattle.key_table.proofs.table.KeyTable.number_again.Goals as goal

pub returns-in-Some-clause-own : goal.returns-in-Some-clause-own
returns-in-Some-clause-own c = own_found c.self.inside.numbers c.self.inside.keys c.args.self.now c.args.key.now (Some c.in-Some.number) c.self.invariant c.self.view_is (sym (c.is_at.ensures c.if-is_at.true))

pub returns-in_default-clause-own : goal.returns-in_default-clause-own
returns-in_default-clause-own c = own_found c.self.inside.numbers c.self.inside.keys c.args.self.now c.args.key.now _ c.self.invariant c.self.view_is (search rules)
