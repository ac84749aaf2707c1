use Rattle.std.proofs.Common.{ap, ◌∙◌, length}
use Rattle.std.specs.Prelude.{◌==◌}
use Rattle.script.specs.EventLines.{Place}
use Rattle.script.proofs.CutLines.{lines_some}
use Rattle.script.proofs.lines.Lines.is_empty.Goals as goal

pub returns : goal.returns
returns c = c.is_empty.ensures ∙ lines_some c.self.inside.rest.now ∙ ap (λ (p : Place). length p.lines == 0) c.self.view_is
