use Rattle.std.proofs.Common.{◌∙◌, sym}
use Rattle.word_lines.specs.Events.{command_line}
use Rattle.embedded.proofs.Stepping.{made}
use Rattle.embedded.proofs.database.Database.call_command.Goals as goal

pub echo-requires-clause-line : goal.echo-requires-clause-line
echo-requires-clause-line c = let k = c.in-Ok.ensures.kept.1 in (k.0, k.1, c.requires.spelled ∙ sym (λ i. command_line (k.2 i) (k.3 i)))

pub returns-in-Ok-echo-clause-called : goal.returns-in-Ok-echo-clause-called
returns-in-Ok-echo-clause-called c h held =
    let step = c.in-Ok.ensures.made h held in
    let call = made h c.args.line.now (c.args.seat, c.args.cmd) c.make.new.self c.echo.new.self step c.echo.ensures.same c.requires.spelled c.requires.read in
    (call, c.in-Ok-echo.ensures.ok)

pub returns-in-Err-clause-called : goal.returns-in-Err-clause-called
returns-in-Err-clause-called c h held =
    let step = c.in-Ok.ensures.made h held in
    (made h c.args.line.now (c.args.seat, c.args.cmd) c.make.new.self c.echo.new.self step c.echo.ensures.same c.requires.spelled c.requires.read, c.in-Err.ensures.err)
