use Rattle.kept.proofs.Staying.{alike_self}
use Rattle.kept.proofs.Answering.{changed_stands, step_stands}
use Rattle.kept.proofs.steps.kept_steps.Goals as goal

pub returns-clause-no_effect : goal.returns-clause-no_effect
returns-clause-no_effect c = λ k h e stands right is. changed_stands k k h e _ stands right is (alike_self k)

pub returns-clause-begin : goal.returns-clause-begin
returns-clause-begin c = λ k k' t seat changed h e stands right is. changed_stands k k' h e _ stands right is changed

pub returns-clause-read : goal.returns-clause-read
returns-clause-read c = λ k k' t x v changed h e stands right is. changed_stands k k' h e _ stands right is changed

pub returns-clause-scan : goal.returns-clause-scan
returns-clause-scan c = λ k k' t span rows changed h e stands right is. changed_stands k k' h e _ stands right is changed

pub returns-clause-write : goal.returns-clause-write
returns-clause-write c = λ k k' t x a changed h e stands right is. changed_stands k k' h e _ stands right is changed

pub returns-clause-commit : goal.returns-clause-commit
returns-clause-commit c = λ k k' t changed h e stands right is. changed_stands k k' h e _ stands right is changed

pub returns-clause-abort : goal.returns-clause-abort
returns-clause-abort c = λ k k' t changed h e stands right is. changed_stands k k' h e _ stands right is changed

pub returns-clause-hard_close : goal.returns-clause-hard_close
returns-clause-hard_close c = λ k k' to n changed h e stands right is. changed_stands k k' h e _ stands right is changed

pub returns-clause-collect : goal.returns-clause-collect
returns-clause-collect c = λ k k' n changed h e stands right is. changed_stands k k' h e _ stands right is changed

pub returns-clause-protect : goal.returns-clause-protect
returns-clause-protect c = λ k k' id t changed h e stands right is. changed_stands k k' h e _ stands right is changed

pub returns-clause-open : goal.returns-clause-open
returns-clause-open c = λ k k' f seat kind span cursor changed h e stands right is. changed_stands k k' h e _ stands right is changed

pub returns-clause-poll : goal.returns-clause-poll
returns-clause-poll c = λ k k' f max ms changed h e stands right is. changed_stands k k' h e _ stands right is changed

pub returns-clause-step : goal.returns-clause-step
returns-clause-step c = λ k k' seat cmd reply step h n stands. step_stands k k' h n seat cmd reply stands step
