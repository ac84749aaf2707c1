use Rattle.std.proofs.Common.{reverse}
use Rattle.pipes.proofs.Followers.{alone, picked}
use Rattle.pipes.proofs.Reported.{takes_report}
use Rattle.pipes.proofs.Shown.{tells_maps}
use Rattle.pipes.proofs.laws.law_of_followers.Goals as goal

pub returns-clause-picked : goal.returns-clause-picked
returns-clause-picked c = picked

pub returns-clause-alone : goal.returns-clause-alone
returns-clause-alone c = alone

pub returns-clause-maps : goal.returns-clause-maps
returns-clause-maps c = λ es o n w. tells_maps o (reverse es) n w.feed w.writable.history.legal w.follows

pub returns-clause-reported : goal.returns-clause-reported
returns-clause-reported c = takes_report
