use Rattle.std.proofs.Common.{arith, sym, ◌∙◌, ◌≤◌}
use Rattle.engine.proofs.Common.{effects_of, horizon_of, legal_allowed}
use Rattle.engine.specs.Layers.{feeds_of, kept_of}
use Rattle.engine.proofs.Versions.{known_is, told_is}
use Rattle.engine.proofs.Engine.version_at.Goals as goal

pub returns : goal.returns
returns c = λ h stands.
    let high : horizon_of (effects_of h) ≤ c.args.t = omega (arith, c.horizon.ensures h stands, c.if-t-horizon.false) in
    c.version_at.ensures (feeds_of c.args.self.now.layers.feeds)
    ∙ told_is (kept_of c.args.self.now.layers) (effects_of h) (legal_allowed h stands.kept.legal) stands.kept.fits c.args.key.now c.args.t high
    ∙ sym (known_is (effects_of h) c.args.key.now c.args.t high)
