use Rattle.std.proofs.Common.{arith, inl, inr, subst, sym, ◌∙◌}
use Rattle.engine.proofs.Common.{Stored, both_ways, cases_lt, option_copied}
use Rattle.engine.specs.Looking.{IsNextRow}
use Rattle.engine.proofs.RowsLeft.{first_left, first_taken, next_is}
use Rattle.engine.proofs.Engine.next_left.Goals as goal

pub returns : goal.returns
returns c = λ h stands. let e = c.args.self.now.layers in let key = option_copied c.args.key in
    next_is e h stands.kept c.args.ts key c.args.through _ (subst (λ (s : Stored). IsNextRow s c.args.ts key c.args.through c.next.result) c.versions-store.ensures
    (subst (IsNextRow c.versions-store.result.now c.args.ts key c.args.through)
    (first_taken c.in_ok-rows.rows.items _ c.next.result (sym c.into_iter.ensures.rest ∙ c.next.ensures.items) (λ none. elim (cases_lt 0 c.in_ok-rows.rows.len) [
      | inl some ↦ absurd (both_ways _ none (c.next.ensures.variant.1 (omega (arith, some, c.into_iter.ensures.len))))
      | inr zero ↦ omega (arith, zero, c.in_ok-rows.rows.ok)
    ]))
    (first_left c.versions-store.result.now c.args.ts key c.args.through c.in_ok-rows.rows.items c.in_ok-rows.ensures)))
