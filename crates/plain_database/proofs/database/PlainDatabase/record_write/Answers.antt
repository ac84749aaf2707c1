use Rattle.std.proofs.Common.{arith}
use Rattle.plain_database.proofs.Common.{Aborts, Writes, common_steps, effects_of, on_ok_weaker, option_copied}
use Rattle.plain_database.specs.Replies.{write_cmd}
use Rattle.plain_database.proofs.Events.{stands_still, takes}
use Rattle.plain_database.proofs.VersionsTies.{tied_aborts, tied_writes}
use Rattle.plain_database.proofs.database.PlainDatabase.record_write.Goals as goal

pub returns-in_ok-copied-in-Written-clause-ok : goal.returns-in_ok-copied-in-Written-clause-ok
returns-in_ok-copied-in-Written-clause-ok c = on_ok_weaker c.write.result (λ is. λ seat h n. takes c.args.self.now _ h n seat (write_cmd c.args.ts c.args.key.now (option_copied c.args.value)) c.args.reply.now (Writes c.args.ts c.args.key.now (option_copied c.args.value)) (grind (arith, common_steps)) (λ tied all allowed.
    grind (arith, common_steps, tied_writes c.args.self.now.versions (effects_of h) c.args.ts c.args.key.now (option_copied c.args.value) tied.versions allowed.0))) c.write.ensures.ok

pub returns-in-Refused-TooLate-clause-ok : goal.returns-in-Refused-TooLate-clause-ok
returns-in-Refused-TooLate-clause-ok c = λ seat h n. takes c.args.self.now _ h n seat (write_cmd c.args.ts c.args.key.now (option_copied c.args.value)) c.args.reply.now (Aborts c.args.ts) (grind (arith, common_steps)) (λ tied all allowed.
    grind (arith, common_steps, tied_aborts c.args.self.now.versions (effects_of h) c.args.ts tied.versions allowed))

pub returns-in_default-clause-ok : goal.returns-in_default-clause-ok
returns-in_default-clause-ok c = λ seat h n. stands_still c.args.self.now h n seat (write_cmd c.args.ts c.args.key.now (option_copied c.args.value)) c.args.reply.now (grind (arith, common_steps))

pub returns-in_default-2-clause-ok : goal.returns-in_default-2-clause-ok
returns-in_default-2-clause-ok c = λ seat h n. stands_still c.args.self.now h n seat (write_cmd c.args.ts c.args.key.now (option_copied c.args.value)) c.args.reply.now (grind (arith, common_steps))
