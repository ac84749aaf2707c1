use Rattle.std.proofs.Common.{◌≡◌, ◌∙◌, [], ◌∷◌, ◌++◌, None, subst, length-append, arith, rules}
use Rattle.std.proofs.lemmas.Result.{err_from_is_err_and}
use Rattle.sessions.specs.Waiting.{IsNextLine}
use Rattle.sessions.proofs.Steps.{go_on, stop_done, stop_sought}
use Rattle.sessions.proofs.serving.Run.calls.Goals as goal

pub returns-in_err-count-clause-stopped : goal.returns-in_err-count-clause-stopped
returns-in_err-count-clause-stopped g c =
    let reads = g.S.Source.reads in let writes = g.K.Sink.writes in let l = c.loop-before in let n = c.next_line.new in let k = c.in_err-count.ensures in
    let p = err_from_is_err_and c.from_residual.result c.from_residual.ensures.1 in
    rw (p.1, p.2) (stop_sought (reads c.args.input.now) (reads l.input) (reads n.source) (writes c.args.output.now) (writes l.output) (writes n.sink) l.self n.self n.output l.invariant.1.0 c.in_err-count.field-0.0 k.read k.sought l.invariant.1.2)

pub returns-in_default-clause-stopped : goal.returns-in_default-clause-stopped
returns-in_default-clause-stopped g c =
    let r = g.S.Source.reads c.args.input.now in let r'' = g.S.Source.reads c.next_line.new.source in
    let w = g.K.Sink.writes c.args.output.now in let w'' = g.K.Sink.writes c.next_line.new.sink in
    let l = c.loop-before in let n = c.next_line.new in let k = c.in_ok-count.ensures in let s = k.sought in
    let none : c.in_ok-count.field-0 ≡ None = search rules in let end = subst (IsNextLine n.self) none s.0 in
    stop_done r r'' w w'' _ l.invariant.1.0 end.0 end.1 (go_on r (g.S.Source.reads l.input) r'' w (g.K.Sink.writes l.output) w'' l.self n.self n.output l.invariant.1.0 k.read s.2 (s.1, s.3) l.invariant.1.2)

pub returns-in_err-line-clause-stopped : goal.returns-in_err-line-clause-stopped
returns-in_err-line-clause-stopped g c =
    let r = g.S.Source.reads c.args.input.now in let r'' = g.S.Source.reads c.next_line.new.source in
    let w = g.K.Sink.writes c.args.output.now in let w'' = g.K.Sink.writes c.next_line.new.sink in
    let l = c.loop-before in let n = c.next_line.new in let k = c.in_ok-count.ensures in let s = k.sought in let many = l.invariant.1.1 in
    let p = err_from_is_err_and c.from_residual-in_err-line.result c.from_residual-in_err-line.ensures.1 in
    rw (p.1, p.2) (c.in_err-line.ensures.err r r'' w l.invariant.1.0 (omega arith) (go_on r (g.S.Source.reads l.input) r'' w (g.K.Sink.writes l.output) w'' l.self n.self n.output l.invariant.1.0 k.read s.2 (s.1, s.3) l.invariant.1.2))

pub loop-before-preserved : goal.loop-before-preserved
loop-before-preserved g c =
    let r = g.S.Source.reads c.args.input.now in let r'' = g.S.Source.reads c.next_line.new.source in
    let w = g.K.Sink.writes c.args.output.now in let w'' = g.K.Sink.writes c.next_line.new.sink in
    let l = c.loop-before in let n = c.next_line.new in let k = c.in_ok-count.ensures in let s = k.sought in let i = l.invariant in let many = i.1.1 in
    let made = c.in_ok-line.ensures.ok r r'' w i.1.0 (omega arith) (go_on r (g.S.Source.reads l.input) r'' w (g.K.Sink.writes l.output) w'' l.self n.self n.output i.1.0 k.read s.2 (s.1, s.3) i.1.2) in
    (c.in_ok-line.ensures.terms ∙ i.0, (i.1.0 ++ made.0 ∷ [], omega (arith, length-append i.1.0 (made.0 ∷ [])), made.1))
