use Rattle.std.proofs.Common.{◌≡◌, ℕ, true, false, Option, reverse, refl, sym, ◌∙◌, subst}
use Rattle.trace_check.proofs.Common.{StandsFor, turned_more}
use Rattle.trace_check.specs.Traces.{IsInPlace}
use Rattle.trace_check.proofs.TraceSteps.{last_more, trace_more, trace_place, trace_right, turned_few}
use Rattle.trace_check.proofs.checker.Checker.take.Goals as goal
use Rattle.trace_check.proofs.checker.Checker.take.Goals.{then-not-is_in_place-via-then-not-is_in_place, then-not-is_in_place-via-else-not-is_in_place+in_ok-take_in+then-not-branch}

pub returns-then-not-is_in_place-clause-right : goal.returns-then-not-is_in_place-clause-right
returns-then-not-is_in_place-clause-right c = λ events taken few. (
  λ no. cc,
  λ trace.
      let clash : false ≡ true = elim c.then-not-is_in_place.branch [
        | then-not-is_in_place-via-then-not-is_in_place w ↦
            w.if-not-is_in_place.ensures.1 (subst (λ (last : Option ℕ). IsInPlace last c.args.event.now.position) (sym taken.last) (trace_place events c.args.event.now trace))
        | then-not-is_in_place-via-else-not-is_in_place+in_ok-take_in+then-not-branch w ↦
            sym w.if-not-branch.true ∙ (w.in_ok-take_in.ensures.right (reverse events) taken.stands (turned_few events few)).1 (trace_right events c.args.event.now trace)
      ] in
      cc,
)

pub returns-clause-right : goal.returns-clause-right
returns-clause-right c = λ events taken few. (
  λ _.
      trace_more events c.args.event.now taken.trace (subst (λ (last : Option ℕ). IsInPlace last c.args.event.now.position) taken.last (c.if-not-is_in_place.ensures.0 refl))
      ((c.in_ok-take_in.ensures.right (reverse events) taken.stands (turned_few events few)).0 c.if-not-branch.false),
  λ _. refl,
)

pub returns-clause-taken : goal.returns-clause-taken
returns-clause-taken c = λ _ events taken few. record {
  trace = (returns-clause-right c events taken few).0 refl;
  stands = subst (StandsFor c.take_in.new.database) (sym (turned_more events c.args.event.now)) (c.in_ok-take_in.ensures.taken c.if-not-branch.false (reverse events) taken.stands (turned_few events few));
  last = sym (last_more events c.args.event.now);
}
