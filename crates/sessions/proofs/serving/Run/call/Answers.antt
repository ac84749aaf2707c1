use Rattle.std.proofs.Common.{◌∙◌, sym}
use Rattle.sessions.proofs.Common.{command_line, err_from_is_err_and}
use Rattle.sessions.proofs.Steps.{go_call, stop_untold, stop_spent}
use Rattle.sessions.proofs.serving.Run.call.Goals as goal

pub keep_echo-requires : goal.keep_echo-requires
keep_echo-requires g c = let k = c.in-Ok.ensures in c.line.ensures ∙ c.requires.spelled ∙ sym (λ i. command_line (k.event.0 i) (k.event.1 i))

pub returns-in_ok-keep_echo-in-Ok-clause-ok : goal.returns-in_ok-keep_echo-in-Ok-clause-ok
returns-in_ok-keep_echo-in-Ok-clause-ok g c = λ r r' w w' events h. let k = c.in-Ok.ensures in let left = c.advance.ensures in let q = c.requires in
    (c.call.new.event, go_call r r' w w' c.args.self.now c.call.new.self events c.args.count c.args.seat c.args.event.now.cmd q.there q.lawful q.spelled k.db h _ _ c.call.new.event k.event (k.made events h.called.made) k.count left.bytes left.ended left.format c.in_ok-keep_echo-in-Ok.ensures.ok)

pub returns-in_err-keep_echo-in-Ok-clause-err : goal.returns-in_err-keep_echo-in-Ok-clause-err
returns-in_err-keep_echo-in-Ok-clause-err g c =
    let p = err_from_is_err_and c.from_residual.result c.from_residual.ensures.1 in
    rw (p.1, p.2) (λ r r' w w' events numbered h. let k = c.in-Ok.ensures in let q = c.requires in
    stop_untold r r' w w' c.args.self.now c.call.new.self events c.args.count c.args.seat c.args.event.now.cmd q.there q.lawful q.spelled k.db h _ c.call.new.event k.event (k.made events h.called.made) c.in_err-keep_echo-in-Ok.ensures.err)

pub returns-in-Err-clause-err : goal.returns-in-Err-clause-err
returns-in-Err-clause-err g c = λ r r' w w' events numbered h. let k = c.in-Err.ensures in let q = c.requires in
    stop_spent r r' w w' c.args.self.now c.call.new.self events c.args.count c.args.seat c.args.event.now.cmd q.there q.lawful q.spelled k.db h c.args.number (k.still events h.called.made) k.spent numbered
