use Rattle.std.proofs.Common.{◌≡◌, length, refl, sym, ◌∙◌}
use Rattle.std.proofs.lemmas.Bool.{eqb-true}
use Rattle.script.proofs.TakeLines.{none_left, event_taken}
use Rattle.script.proofs.events.Events.next.Goals as goal

pub returns-then-is_empty : goal.returns-then-is_empty
returns-then-is_empty c =
    let lines = c.self.inside.lines.lines in
    let none : length lines ≡ 0 = eqb-true (length lines) 0 (sym c.is_empty.ensures ∙ c.if-is_empty.true) in
    (sym c.self.view_is ∙ none_left c.self.inside.format (length lines) c.self.inside.lines none, refl)

pub returns : goal.returns
returns c = rw (← c.self.view_is) (event_taken c.self.inside.format c.self.inside.lines c.take_event.new.lines c.take_event.result (sym c.is_empty.ensures ∙ c.if-is_empty.false) c.take_event.ensures.exact c.take_event.ensures.memory)
