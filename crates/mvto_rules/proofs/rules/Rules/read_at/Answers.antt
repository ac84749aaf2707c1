use Rattle.std.proofs.Common.{ap, inl, inr, refl, sym, ◌∙◌}
use Rattle.mvto_rules.specs.Holding.{holding}
use Rattle.mvto_rules.proofs.Seeing.{found_there}
use Rattle.mvto_rules.proofs.AtClosed.{none_unless, read_done, read_refused, read_wanting}
use Rattle.mvto_rules.proofs.rules.Rules.read_at.Goals as goal

pub returns-in-Some : goal.returns-in-Some
returns-in-Some c = record { step = λ seat k. inl (read_refused (holding k c.args.self.now) seat c.args.t c.args.key.now c.in-Some.refusal c.in-Some.ensures) }

pub returns-in-Err : goal.returns-in-Err
returns-in-Err c = record { step = λ seat k. inr (refl, read_wanting (holding k c.args.self.now) seat c.args.t c.args.key.now (sym c.snapshot_refusal.ensures ∙ none_unless c.snapshot_refusal.result c.in_default.not-Some)) }

pub returns-in-Ok : goal.returns-in-Ok
returns-in-Ok c = record {
  step = λ seat k.
      let there = found_there c.args.self.now.store c.args.key.now c.args.t c.args.t c.newest_at-newest.result refl c.newest_at-newest.ensures c.is_named.ensures in
      let free = sym c.snapshot_refusal.ensures ∙ none_unless c.snapshot_refusal.result c.in_default.not-Some in
      inl (read_done (holding k c.args.self.now) seat c.args.t c.args.key.now c.in-Ok.after free (c.in-Ok.ensures ∙ sym (ap (λ v. v.after) there.is)));
}
