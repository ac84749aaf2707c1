use Rattle.std.proofs.Common.{Bool, ap, false, not, refl, sym, true, ◌≡◌, ◌∙◌}
use Rattle.std.specs.Prelude.{is_some}
use Rattle.mvto_rules.proofs.rules.Rules.is_readable.Goals as goal

not_not : (b : Bool) → not (not b) ≡ b
not_not true = refl
not_not false = refl

pub returns : goal.returns
returns c = λ k. sym (not_not c.is_none.result) ∙ ap not (sym c.is_none.ensures) ∙ ap (λ o. not (is_some o)) c.snapshot_refusal.ensures
