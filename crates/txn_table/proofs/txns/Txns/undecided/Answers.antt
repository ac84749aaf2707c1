use Rattle.std.proofs.Common.{sym, ◌∙◌}
use Rattle.std.proofs.lemmas.Map.Entries.{length-keys_of}
use Rattle.txn_table.proofs.Times.{those}
use Rattle.txn_table.proofs.txns.Txns.undecided.Goals as goal

pub returns : goal.returns
returns c = rw (← c.self.view_is) (_, those _ c.len.ensures.ordered, c.len.ensures.len ∙ sym (length-keys_of c.self.inside.undecided.entries))
