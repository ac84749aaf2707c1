use Rattle.std.proofs.Common.{◌≡◌, List, length}
use Rattle.spans.specs.declared.calls.events.Event.{Event}
use Rattle.sessions.specs.Going.{IsGoing}
use Rattle.sessions.proofs.serving.Run.calls.Given as goal

abbrev pub invariant-loop-before : goal.invariant-loop-before
invariant-loop-before g l =
    let S = g.S.Source in let K = g.K.Sink in
    (l.self.terms ≡ l.initial.self.terms)
    × ((events : List Event) × (l.before ≡ length events) × IsGoing (S.reads l.initial.input) (S.reads l.input) (K.writes l.initial.output) (K.writes l.output) l.self events)
