use Rattle.mvto_rules.specs.Holding.{holding}
use Rattle.mvto_rules.proofs.AtClosed.{release_done, release_none}
use Rattle.std.proofs.Common.{sym, ◌∙◌}
use Rattle.mvto_rules.proofs.rules.Rules.release.Goals as goal

pub returns-then-release : goal.returns-then-release
returns-then-release c = record { step = λ seat k. let now = c.release.ensures in release_done (holding k c.args.self.now) seat c.args.id c.release.new.self (sym now.stood ∙ c.if-release.true) now.closed now.released now.made }

pub returns-else-release : goal.returns-else-release
returns-else-release c = record { step = λ seat k. let now = c.release.ensures in release_none (holding k c.args.self.now) seat c.args.id c.release.new.self (sym now.stood ∙ c.if-release.false) now.closed now.released now.made }
