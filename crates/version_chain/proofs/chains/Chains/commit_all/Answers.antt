use Rattle.std.proofs.Common.{subst, sym, ◌∙◌}
use Rattle.std.specs.Prelude.{option_map}
use Rattle.version_chain.specs.Versions.{as_committed}
use Rattle.version_chain.specs.Stores.{AreChangedAt}
use Rattle.version_chain.specs.Records.{stored_of}
use Rattle.version_chain.proofs.Turns.{changes_more, changes_none, marked_twice}
use Rattle.version_chain.proofs.chains.Chains.commit_all.Goals as goal

pub loop-key-preserved : goal.loop-key-preserved
loop-key-preserved c = record {
  changing = λ gs more. c.loop-key.invariant.changing gs (subst (λ keys. AreChangedAt (stored_of c.loop-key.self) gs keys c.args.ts (option_map as_committed)) (sym c.in-Some.ensures.steps)
      (changes_more (stored_of c.loop-key.self) (stored_of c.commit.new.self) gs c.in-Some.key.now c.next.new.self c.args.ts (option_map as_committed) marked_twice c.commit.ensures.changed more));
  marks = λ x j. c.commit.ensures.marks x j ∙ c.loop-key.invariant.marks x j;
}

pub returns-clause-changed : goal.returns-clause-changed
returns-clause-changed c = c.loop-key.invariant.changing (stored_of c.loop-key.self) (subst (λ keys. AreChangedAt (stored_of c.loop-key.self) (stored_of c.loop-key.self) keys c.args.ts (option_map as_committed)) (sym c.in-None.ensures.steps.0) (changes_none (stored_of c.loop-key.self) c.args.ts (option_map as_committed)))
