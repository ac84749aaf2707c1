use Rattle.std.proofs.Common.{None, refl, subst, sym, ◌∙◌}
use Rattle.version_chain.specs.Stores.{AreChangedAt}
use Rattle.version_chain.specs.Records.{stored_of}
use Rattle.version_chain.proofs.Turns.{changes_more, changes_none}
use Rattle.version_chain.proofs.chains.Chains.remove_all.Goals as goal

pub loop-key-preserved : goal.loop-key-preserved
loop-key-preserved c = record {
  changing = λ gs more. c.loop-key.invariant.changing gs (subst (λ keys. AreChangedAt (stored_of c.loop-key.self) gs keys c.args.ts (λ _. None)) (sym c.in-Some.ensures.steps)
      (changes_more (stored_of c.loop-key.self) (stored_of c.remove.new.self) gs c.in-Some.key.now c.next.new.self c.args.ts (λ _. None) (λ _. refl) c.remove.ensures.changed more));
  marks = λ x j. c.remove.ensures.marks x j ∙ c.loop-key.invariant.marks x j;
}

pub returns-clause-changed : goal.returns-clause-changed
returns-clause-changed c = c.loop-key.invariant.changing (stored_of c.loop-key.self) (subst (λ keys. AreChangedAt (stored_of c.loop-key.self) (stored_of c.loop-key.self) keys c.args.ts (λ _. None)) (sym c.in-None.ensures.steps.0) (changes_none (stored_of c.loop-key.self) c.args.ts (λ _. None)))
