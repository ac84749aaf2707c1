use Rattle.std.proofs.Common.{◌∙◌}
use Rattle.engine.proofs.Engine.horizon.Goals as goal

pub returns : goal.returns
returns c = λ h stands. c.horizon.ensures ∙ stands.kept.fits.horizon_at
