use Rattle.std.proofs.Common.{ap, not, sym, ◌≡◌, ◌∙◌, ℕ}
use Rattle.std.specs.Prelude.{Err, IfErr, None, Ok, OnOk, Result, Some, is_some}
use Rattle.std.specs.Result.{is_ok}
use Rattle.mvto_rules.proofs.Common.{Refusal, refusal}
use Rattle.mvto_rules.specs.Holding.{Holds, held}
use Rattle.mvto_rules.specs.declared.rules.Rules.{Rules}
use Rattle.mvto_rules.proofs.rules.Rules.is_usable.Goals as goal

by_result : (r : Rules) (seat t : ℕ) (o : Result ℕ Refusal) → OnOk o (refusal (held r) seat t ≡ None) → IfErr o (λ e. refusal (held r) seat t ≡ Some e) → Holds r (λ k. is_ok o ≡ not (is_some (refusal k seat t)))
by_result r seat t (Ok ts) none err k = sym (ap (λ o. not (is_some o)) none)
by_result r seat t (Err e) none err k = sym (ap (λ o. not (is_some o)) err)

pub returns : goal.returns
returns c = λ k. c.is_ok.ensures.value ∙ by_result c.args.self.now c.args.seat c.args.ts c.undecided.result c.undecided.ensures.none c.undecided.ensures.err k
