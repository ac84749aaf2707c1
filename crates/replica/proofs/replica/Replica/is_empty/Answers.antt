use Rattle.std.proofs.Common.{refl}
use Rattle.replica.proofs.replica.Replica.is_empty.Goals as goal

pub returns : goal.returns
returns c = (c.len.result, c.len.ensures, refl)
