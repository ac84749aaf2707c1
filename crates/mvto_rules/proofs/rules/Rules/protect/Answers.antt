use Rattle.std.proofs.Common.{ap, arith, inl, inr, refl, sym, ◌∙◌}
use Rattle.mvto_rules.proofs.Common.{closed_in, made_in, protections_in}
use Rattle.mvto_rules.specs.Holding.{holding}
use Rattle.mvto_rules.proofs.AtClosed.{none_unless, protect_done, protect_outside, protect_refused, protect_wanting}
use Rattle.mvto_rules.proofs.rules.Rules.protect.Goals as goal

pub returns-then-t-gt-MAX : goal.returns-then-t-gt-MAX
returns-then-t-gt-MAX c = record { step = λ seat k. inl (protect_outside (holding k c.args.self.now) seat c.args.t (omega arith)) }

pub returns-in-Some : goal.returns-in-Some
returns-in-Some c = record { step = λ seat k. inl (protect_refused (holding k c.args.self.now) seat c.args.t c.in-Some.refusal (omega arith) (c.in-Some.ensures k)) }

pub returns-in-Err : goal.returns-in-Err
returns-in-Err c = record {
  step = λ seat k.
      let same = c.in-Err.ensures.err in
      inr (refl, protect_wanting (holding k c.args.self.now) seat c.args.t c.protect.new.self (omega arith) (sym (c.horizon_refusal.ensures k) ∙ none_unless c.horizon_refusal.result c.in_default.not-Some) (ap closed_in same) (ap protections_in same) (ap made_in same));
}

pub returns-in-Ok : goal.returns-in-Ok
returns-in-Ok c = record {
  step = λ seat k.
      let now = c.in-Ok.ensures in
      inl (protect_done (holding k c.args.self.now) seat c.args.t c.in-Ok.id c.protect.new.self (omega arith) (sym (c.horizon_refusal.ensures k) ∙ none_unless c.horizon_refusal.result c.in_default.not-Some) now.number now.closed now.protected now.made);
}
