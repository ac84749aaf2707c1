use Rattle.std.proofs.Common.{arith, ◌≡◌, Some, refl, rules, sym, subst}
use Rattle.embedded.proofs.Common.{Event, event}
use Rattle.embedded.specs.Typed.{IsBulk}
use Rattle.embedded.proofs.Stepping.{stands_next, bulk_no_read}
use Rattle.embedded.proofs.database.Database.make.Goals as goal

pub returns-clause-made : goal.returns-clause-made
returns-clause-made c h held =
    let at = c.steps-position.ensures.history h held.stands in
    let e : Event = event c.steps-position.result c.args.seat c.args.cmd c.step-reply.result in
    record {
      event = e;
      holds = stands_next h e c.step-reply.new.self c.args.self.now _ held (c.step-reply.ensures.history h c.steps-position.result held.stands) refl at (omega (arith, c.if-position.false)) refl (search rules);
      position = at;
      seat = refl;
      command = refl;
      text = search rules;
    }

pub returns-clause-kept : goal.returns-clause-kept
returns-clause-kept c = (search rules, (event c.steps-position.result c.args.seat c.args.cmd c.step-reply.result, refl, refl, refl))

pub returns-clause-reads : goal.returns-clause-reads
returns-clause-reads c = λ (e, last, bulk).
    let kept : Event = event c.steps-position.result c.args.seat c.args.cmd c.step-reply.result in
    let both : Some kept ≡ Some e = last in
    let same : kept ≡ e = cc in
    bulk_no_read c.args.self.now.engine c.step-reply.new.self c.args.seat c.args.cmd c.step-reply.result c.step-reply.ensures.history (subst (λ (x : Event). IsBulk x.cmd x.reply) (sym same) bulk)
