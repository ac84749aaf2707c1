use Rattle.std.proofs.Common.{Err, Ok, subst, sym, ◌∙◌}
use Rattle.std.proofs.lemmas.Bool.{both_ways, eq-eqb}
use Rattle.embedded.specs.Embedded.{Called}
use Rattle.embedded.specs.declared.database.CallError.{CallError}
use Rattle.embedded.proofs.TakenLines.{let_through, passed_over, taken_made, taken_unwritten}
use Rattle.embedded.proofs.database.Database.take_command.Goals as goal

pub returns-in-Ok-true-clause-taken : goal.returns-in-Ok-true-clause-taken
returns-in-Ok-true-clause-taken c h held =
    passed_over c.args.most h c.args.line.now (c.args.seat, c.args.cmd) c.args.self.now c.args.out.now c.requires.read (c.in-Ok-true.ensures.long h held ∙ c.in-Ok-true.field-0-test)
    (λ spent. both_ways _ (sym (c.is_spent.ensures h held) ∙ c.if-is_spent.false) (eq-eqb _ _ spent))

pub returns-in-Ok-clause-taken : goal.returns-in-Ok-clause-taken
returns-in-Ok-clause-taken c h held =
    let_through c.args.most h c.args.line.now (c.args.seat, c.args.cmd) c.args.self.now c.call_command.new.self c.args.out.now c.show.new.out (Ok c.show.result) c.requires.read
    (c.in-Ok-false.ensures.long h held ∙ c.in-Ok-false.field-0-test)
    (taken_made h c.args.line.now c.args.self.now c.call_command.new.self c.args.out.now c.show.new.out c.show.result (c.in-Ok.ensures.called h held) c.show.ensures)

pub returns-in-Err-Unwritten-clause-taken : goal.returns-in-Err-Unwritten-clause-taken
returns-in-Err-Unwritten-clause-taken c h held =
    let called = subst (λ (e : CallError). Called h c.args.line.now c.args.self.now (Err e) c.call_command.new.self) c.in-Err-Unwritten.field-0-is (c.in-Err-Unwritten.ensures.called h held) in
    let_through c.args.most h c.args.line.now (c.args.seat, c.args.cmd) c.args.self.now c.call_command.new.self c.args.out.now c.args.out.now (Ok (record { length = 0; status = 14 })) c.requires.read
    (c.in-Ok-false.ensures.long h held ∙ c.in-Ok-false.field-0-test)
    (taken_unwritten h c.args.line.now c.args.self.now c.call_command.new.self c.args.out.now called)
