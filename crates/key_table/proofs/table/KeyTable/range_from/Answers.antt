use Rattle.std.proofs.Common.{subst, sym, ◌∙◌}
use Rattle.key_table.specs.Numbers.{AreApart}
use Rattle.key_table.proofs.Numbering.{one_of}
use Rattle.key_table.proofs.table.KeyTable.range_from.Goals as goal

pub returns-clause-apart : goal.returns-clause-apart
returns-clause-apart c = subst AreApart c.self.view_is (λ x y n first second. one_of x y (sym ((c.self.invariant x n).0 first) ∙ (c.self.invariant y n).0 second))
