use Rattle.std.proofs.Common.{arith}
use Rattle.plain_database.proofs.Common.{common_steps, least_join}
use Rattle.plain_database.proofs.feeds.horizon.horizon_reached.Goals as goal

pub returns : goal.returns
returns c = λ p feeds protections closed horizon. grind (arith, common_steps, least_join, c.least.ensures p protections, c.least_floor-unread.ensures p feeds)
