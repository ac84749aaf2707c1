use Rattle.std.proofs.Common.{inl, inr, refl, sym, ◌∙◌}
use Rattle.mvto_rules.specs.Holding.{holding}
use Rattle.mvto_rules.specs.Scans.{keys_in}
use Rattle.mvto_rules.proofs.Scanning.{keys_are}
use Rattle.mvto_rules.proofs.AtClosed.{none_unless, scan_done, scan_refused, scan_wanting}
use Rattle.mvto_rules.proofs.rules.Rules.scan_at.Goals as goal

pub returns-in-Some : goal.returns-in-Some
returns-in-Some c = record { step = λ seat k. inl (scan_refused (holding k c.args.self.now) seat c.args.t c.args.span.now c.in-Some.refusal c.in-Some.ensures) }

pub returns-in-Err : goal.returns-in-Err
returns-in-Err c = record {
  step = λ seat k. inr (
    refl,
    scan_wanting (holding k c.args.self.now) seat c.args.t c.args.span.now (keys_in c.args.self.now.store c.args.span.now) (sym c.snapshot_refusal.ensures ∙ none_unless c.snapshot_refusal.result c.in_default.not-Some)
        (keys_are k c.args.self.now c.args.span.now c.rows_at.ensures.rising c.rows_at.ensures.filled),
  );
}

pub returns-in-Ok : goal.returns-in-Ok
returns-in-Ok c = record {
  step = λ seat k.
      let free = sym c.snapshot_refusal.ensures ∙ none_unless c.snapshot_refusal.result c.in_default.not-Some in
      inl (scan_done (holding k c.args.self.now) seat c.args.t c.args.span.now (keys_in c.args.self.now.store c.args.span.now) c.from_vec.result free
      (keys_are k c.args.self.now c.args.span.now c.rows_at.ensures.rising c.rows_at.ensures.filled) (c.from_vec.ensures ∙ c.in-Ok.ensures.rows));
}
