use Rattle.std.proofs.Common.{◌≡◌, ◌<◌, ◌⊎◌, ◌∙◌, arith, length, refl, sym, subst}
use Rattle.version_chain.proofs.Common.{latest_in, length-set}
use Rattle.version_chain.specs.declared.record.Record.{Record}
use Rattle.version_chain.proofs.Sweeping.{all_swept, forgot_chains, forgot_marks, forgot_one, latest_left, spans_forgotten}
use Rattle.version_chain.proofs.chains.Chains.sweep.Goals as goal

pub loop-number-init : goal.loop-number-init
loop-number-init c = let m = c.args.self.now in record {
  chains = λ x. refl;
  marks = spans_forgotten m.keys m.records.items m.spans c.forget_through.new.self m.forgotten c.forget_through.ensures;
  forgotten = refl;
  count = refl;
  swept = λ k j under is. absurd (omega arith);
  spans = λ x. latest_left m.forgotten _ _ (c.forget_through.ensures x);
}

pub loop-number-preserved : goal.loop-number-preserved
loop-number-preserved c =
    let m = c.loop-number.self in
    let rs = m.records.items in
    let n = c.loop-number.number in
    let r = c.index_mut.result.now in
    let q : Record = record { chain = r.chain; readers = c.forget_through-in-loop-number.new.self } in
    let inv = c.loop-number.invariant in
    let swept = c.free_idle.ensures.swept in
    let low : n < length rs = omega (arith, c.loop-number-test.true, c.len-number-end.ensures, c.loop-number.invariant.count) in
    record {
      chains = λ x. c.free_idle.ensures.chains x ∙ forgot_chains m.keys rs m.spans m.forgotten n r q low c.index_mut.ensures.value refl c.forget_through-in-loop-number.ensures x ∙ inv.chains x;
      marks = λ x j. c.free_idle.ensures.marks x j ∙ forgot_marks m.keys rs m.spans m.forgotten n r q low c.index_mut.ensures.value refl c.forget_through-in-loop-number.ensures x j ∙ inv.marks x j;
      forgotten = swept.forgotten ∙ inv.forgotten;
      count = swept.count ∙ length-set rs n q ∙ inv.count;
      swept = λ k j under is. subst (λ f. f < j) inv.forgotten (forgot_one m.keys rs m.spans m.forgotten n r q low c.index_mut.ensures.value refl c.forget_through-in-loop-number.ensures
          (λ k j under is. subst (λ f. f < j) (sym inv.forgotten) (inv.swept k j under is)) k j under (swept.readers k j is));
      spans = λ x. subst (λ l. (l ≡ 0) ⊎ (c.args.self.now.forgotten < l)) (sym (swept.spans x)) (inv.spans x);
    }

pub returns-clause-swept : goal.returns-clause-swept
returns-clause-swept c = let m = c.loop-number.self in record {
  records = λ k j is. subst (λ f. f < j) (sym c.loop-number.invariant.forgotten) (all_swept m.records.items c.loop-number.number c.args.self.now.forgotten (omega (arith, c.loop-number-test.false, c.len-number-end.ensures, c.loop-number.invariant.count)) c.loop-number.invariant.swept k j is);
  spans = λ x. subst (λ f. (latest_in m.spans x ≡ 0) ⊎ (f < latest_in m.spans x)) (sym c.loop-number.invariant.forgotten) (c.loop-number.invariant.spans x);
}
