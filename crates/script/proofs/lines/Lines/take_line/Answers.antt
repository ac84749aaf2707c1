use Rattle.std.proofs.Common.{refl, sym, ap, ◌∙◌}
use Rattle.script.specs.EventLines.{Place}
use Rattle.script.proofs.CutLines.{lines_none}
use Rattle.script.proofs.lines.Lines.take_line.Goals as goal

pub returns-then-is_empty : goal.returns-then-is_empty
returns-then-is_empty c = (ap (λ (p : Place). p.lines) (sym c.self.view_is) ∙ lines_none c.self.inside.rest.now (sym c.is_empty.ensures ∙ c.if-is_empty.true), refl)
