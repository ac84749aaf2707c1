use Rattle.std.proofs.Common.{◌<◌, ◌^◌, arith}
use Rattle.word_lines.proofs.ReadCommands.{command_found}
use Rattle.word_lines.proofs.CommandsAgain.{taken_right}
use Rattle.word_lines.proofs.commands.read_command.Goals as goal

pub returns-in-Ok-clause-found : goal.returns-in-Ok-clause-found
returns-in-Ok-clause-found c =
    let few : c.args.seats < 2 ^ 8 = omega arith in
    command_found c.args.format c.args.seats c.args.line.now c.in-Ok.read (taken_right c.args.format c.args.seats c.args.line.now c.in_ok-text.text.now c.in-Ok.read few c.in_ok-text.ensures c.in-Ok.ensures.exact)

pub returns-in-Ok-clause-exact : goal.returns-in-Ok-clause-exact
returns-in-Ok-clause-exact c =
    let few : c.args.seats < 2 ^ 8 = omega arith in
    taken_right c.args.format c.args.seats c.args.line.now c.in_ok-text.text.now c.in-Ok.read few c.in_ok-text.ensures c.in-Ok.ensures.exact
