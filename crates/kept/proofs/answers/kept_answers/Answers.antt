use Rattle.std.specs.Prelude.{refl}
use Rattle.spans.specs.declared.calls.commands.Cmd.TheVariants.{Cancel, Close, CloseHard, Collect, Commit, Get, Poll, ReadAt, Scan, ScanAt, Stats}
use Rattle.kept.proofs.Answering.{reply_is_answer}
use Rattle.kept.proofs.answers.kept_answers.Goals as goal

pub returns-clause-get : goal.returns-clause-get
returns-clause-get c = λ k seat t x h stands. reply_is_answer k h seat (Get t x) _ stands refl

pub returns-clause-scan : goal.returns-clause-scan
returns-clause-scan c = λ k seat t span r is h stands. reply_is_answer k h seat (Scan t span) r stands is

pub returns-clause-commit : goal.returns-clause-commit
returns-clause-commit c = λ k seat t r is h stands. reply_is_answer k h seat (Commit t) r stands is

pub returns-clause-close : goal.returns-clause-close
returns-clause-close c = λ k seat to r is h stands. reply_is_answer k h seat (Close to) r stands is

pub returns-clause-close_hard : goal.returns-clause-close_hard
returns-clause-close_hard c = λ k seat to r is h stands. reply_is_answer k h seat (CloseHard to) r stands is

pub returns-clause-read_at : goal.returns-clause-read_at
returns-clause-read_at c = λ k seat t x h stands. reply_is_answer k h seat (ReadAt t x) _ stands refl

pub returns-clause-scan_at : goal.returns-clause-scan_at
returns-clause-scan_at c = λ k seat t span r is h stands. reply_is_answer k h seat (ScanAt t span) r stands is

pub returns-clause-collect : goal.returns-clause-collect
returns-clause-collect c = λ k seat to r is h stands. reply_is_answer k h seat (Collect to) r stands is

pub returns-clause-poll : goal.returns-clause-poll
returns-clause-poll c = λ k seat f max r is h stands. reply_is_answer k h seat (Poll f max) r stands is

pub returns-clause-cancel : goal.returns-clause-cancel
returns-clause-cancel c = λ k seat f h stands. reply_is_answer k h seat (Cancel f) _ stands refl

pub returns-clause-stats : goal.returns-clause-stats
returns-clause-stats c = λ k seat r is h stands. reply_is_answer k h seat Stats r stands is
