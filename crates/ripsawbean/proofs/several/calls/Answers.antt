use Rattle.std.proofs.Common.{sym, ap, ◌∙◌}
use Rattle.ripsawbean.specs.Exports.{outcome_number}
use Rattle.ripsawbean.proofs.several.calls.Goals as goal

pub returns-in-Ok : goal.returns-in-Ok
returns-in-Ok c = (c.call_lines-result.result.1, sym (ap outcome_number c.in-Ok.is), c.call_lines-result.ensures)

pub returns-in-Err : goal.returns-in-Err
returns-in-Err c = (c.call_lines-result.result.1, c.number.ensures.number ∙ sym (ap outcome_number c.in-Err.is), c.call_lines-result.ensures)
