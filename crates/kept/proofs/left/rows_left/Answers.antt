use Rattle.kept.proofs.LeftRows.{parts_left}
use Rattle.kept.proofs.left.rows_left.Goals as goal

pub returns-clause-joined : goal.returns-clause-joined
returns-clause-joined c = λ k place firsts stored parts. parts_left k place firsts stored parts.0 parts.1
