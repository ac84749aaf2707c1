use Rattle.std.proofs.Common.{ap, ◌∙◌}
use Rattle.std.specs.Prelude.{option_map}
use Rattle.engine.proofs.Common.{effects_of, legal_allowed, place_floor}
use Rattle.engine.proofs.Progress.{feed_floor_is}
use Rattle.engine.proofs.Engine.floor.Goals as goal

pub returns : goal.returns
returns c = λ h stands. c.floor.ensures ∙ ap (option_map place_floor) (stands.kept.fits.feeds c.args.feed)
    ∙ feed_floor_is (effects_of h) (legal_allowed h stands.kept.legal) c.args.feed
