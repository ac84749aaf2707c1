use Rattle.std.proofs.Common.{arith, ◌≤◌}
use Rattle.closing.specs.Standing.{closed_in}
use Rattle.mvto_rules.specs.Holding.{closing_of, held}
use Rattle.kept.specs.StandsFor.{nothing_kept}
use Rattle.mvto_rules.proofs.AtClosed.{snapshot_below}
use Rattle.mvto_rules.proofs.rules.Rules.snapshot_refusal.Goals as goal

pub returns : goal.returns
returns c =
    let low : c.args.t ≤ closed_in (closing_of c.args.self.now) = omega (arith, c.closed-closed.ensures) in
    snapshot_below (held c.args.self.now) c.args.t c.horizon_refusal.result low (c.horizon_refusal.ensures nothing_kept)
