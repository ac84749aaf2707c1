use Rattle.std.proofs.Common.{None, Some, refl, subst, sym, ◌∙◌, ◌≤◌}
use Rattle.mvto_rules.proofs.Common.{IsScanReply, MAX, IsScannedBy, Rows, alike_self, any_err}
use Rattle.mvto_rules.specs.Holding.{holding}
use Rattle.mvto_rules.specs.Scans.{IsReading}
use Rattle.mvto_rules.proofs.Noting.{stays}
use Rattle.mvto_rules.proofs.Replies.{scan_refused}
use Rattle.mvto_rules.proofs.Scanning.{scan_found, scanned}
use Rattle.mvto_rules.proofs.rules.Rules.try_scan.Goals as goal

pub returns-in-Err-clause-answered : goal.returns-in-Err-clause-answered
returns-in-Err-clause-answered c = λ k. scan_refused (holding k c.args.self.now) c.args.seat c.args.ts c.args.span.now c.in-Err.refusal c.in-Err.ensures.err

pub returns-in-Stopped-clause-answered : goal.returns-in-Stopped-clause-answered
returns-in-Stopped-clause-answered c = λ k. record {
  right = scan_found k c.args.self.now c.args.seat c.args.ts c.in-Ok.ts c.args.span.now (Some c.in-Stopped.by) c.in-Ok.ensures.ok c.in-Ok.ensures.none c.in_ok-by.ensures.rising c.in_ok-by.ensures.filled
      (subst (IsReading c.args.self.now.store c.in-Ok.ts c.args.span.now) c.in-Stopped.is c.in_ok-by.ensures.reading);
  change = alike_self (holding k c.args.self.now);
}

pub returns-in_ok-mark_all-in-Through-clause-answered : goal.returns-in_ok-mark_all-in-Through-clause-answered
returns-in_ok-mark_all-in-Through-clause-answered c = λ k.
    let through = subst (IsReading c.args.self.now.store c.in-Ok.ts c.args.span.now) c.in-Through.is c.in_ok-by.ensures.reading in
    record {
      right = subst (λ rows. IsScanReply (holding k c.args.self.now) c.args.seat c.args.ts c.args.span.now (Rows rows)) (sym (c.from_vec.ensures ∙ through.1))
          (scan_found k c.args.self.now c.args.seat c.args.ts c.in-Ok.ts c.args.span.now None c.in-Ok.ensures.ok c.in-Ok.ensures.none c.in_ok-by.ensures.rising c.in_ok-by.ensures.filled through.0);
      change = subst (λ t. IsScannedBy (holding k c.args.self.now) (holding k (record c.args.self.now { store = c.mark_all.new.self })) t c.args.span.now) c.in-Ok.ensures.ok
          (scanned k c.args.self.now c.mark_all.new.self c.in-Ok.ts c.args.span.now (subst (λ t. t ≤ MAX) (sym c.in-Ok.ensures.ok) c.in-Ok.ensures.in_range.1) c.in_ok-mark_all-in-Through.ensures.ok c.mark_all.ensures.versions);
    }

pub returns-in_err-by-clause-wanting : goal.returns-in_err-by-clause-wanting
returns-in_err-by-clause-wanting c = any_err c.from_residual.result (λ k. record {
  may = refl;
  accepting = (Rows _, scan_found k c.args.self.now c.args.seat c.args.ts c.in-Ok.ts c.args.span.now None c.in-Ok.ensures.ok c.in-Ok.ensures.none c.read_span.ensures.rising c.read_span.ensures.filled c.in_err-by.ensures.free, refl);
  alike = alike_self (holding k c.args.self.now);
})

pub returns-in_err-mark_all-in-Through-clause-wanting : goal.returns-in_err-mark_all-in-Through-clause-wanting
returns-in_err-mark_all-in-Through-clause-wanting c = any_err c.from_residual-in_err-mark_all-in-Through.result (λ k.
    let through = subst (IsReading c.args.self.now.store c.in-Ok.ts c.args.span.now) c.in-Through.is c.in_ok-by.ensures.reading in
    record {
      may = refl;
      accepting = (Rows _, scan_found k c.args.self.now c.args.seat c.args.ts c.in-Ok.ts c.args.span.now None c.in-Ok.ensures.ok c.in-Ok.ensures.none c.in_ok-by.ensures.rising c.in_ok-by.ensures.filled through.0, refl);
      alike = stays k c.args.self.now c.mark_all.new.self c.mark_all.ensures.versions c.in_err-mark_all-in-Through.ensures.err;
    })
