use Rattle.std.proofs.Common.{rules, subst, sym, ◌∙◌}
use Rattle.std.proofs.lemmas.Fn.{filter_same}
use Rattle.version_chain.specs.Indexes.{IsIndexOf}
use Rattle.version_chain.specs.Records.{stored_of}
use Rattle.version_chain.proofs.Collecting.{IsThinning, thinning_first, thinning_next, thinning_ends, thinning_sound}
use Rattle.version_chain.proofs.store.Store.thin.Goals as goal

pub loop-key-init : goal.loop-key-init
loop-key-init c = subst (λ es. IsThinning es (stored_of c.self.inside.chains) c.take.new.self c.args.ts c.args.horizon c.self.inside.count c.self.inside.dropped_through c.into_iter-key-iterator.result) c.self.view_is
    (subst (IsThinning (stored_of c.self.inside.chains) (stored_of c.self.inside.chains) c.take.new.self c.args.ts c.args.horizon c.self.inside.count c.self.inside.dropped_through) (sym (c.into_iter-key-iterator.ensures.into_iter_gives ∙ c.iter-key-items.ensures.keys))
    (thinning_first (stored_of c.self.inside.chains) c.self.inside.index c.take.new.self c.args.ts c.args.horizon c.self.inside.count c.self.inside.dropped_through c.in-Some.keys c.self.invariant c.in-Some.ensures.keys c.in-Some.ensures.others c.in-Some.ensures.taken))

pub overflow_sub-self : goal.overflow_sub-self
overflow_sub-self c = (c.drop_dead.ensures.counted c.loop-key.self-inside.count c.loop-key.invariant.counted).0

pub loop-key-preserved : goal.loop-key-preserved
loop-key-preserved c = thinning_next c.args.self.now (stored_of c.loop-key.self-inside.chains) (stored_of c.drop_dead.new.self) c.loop-key.self-inside.index c.drop_dead.new.index c.args.ts c.args.horizon c.loop-key.self-inside.count c.loop-key.self-inside.dropped_through c.drop_dead.result c.in-Some-key.key.now
    c.loop-key.key-iterator c.next.new.self c.in-Some-key.ensures.steps c.drop_dead.ensures.thinned c.drop_dead.ensures.marks c.drop_dead.ensures.counted c.drop_dead.ensures.listed c.drop_dead.ensures.taken c.loop-key.invariant

pub take-requires : goal.take-requires
take-requires c = c.self.invariant.filled

pub put_back-requires : goal.put_back-requires
put_back-requires c = c.loop-key.invariant.taken

pub invariant_of-self-2 : goal.invariant_of-self-2
invariant_of-self-2 c = thinning_sound c.args.self.now (stored_of c.loop-key.self-inside.chains) c.self.inside.index c.loop-key.self-inside.index c.put_back.new.self c.args.ts c.args.horizon c.loop-key.self-inside.count c.loop-key.self-inside.dropped_through c.in-Some.keys c.retain.new.self
    c.loop-key.key-iterator (subst (λ es. IsIndexOf es c.self.inside.index) c.self.view_is c.self.invariant.indexed) c.in-Some.ensures.keys (filter_same _ _ _ (λ x b f' k. search rules) _ _ c.retain.ensures) c.put_back.ensures.listed c.put_back.ensures.filled c.loop-key.invariant

pub returns-clause-thinned : goal.returns-clause-thinned
returns-clause-thinned c = c.loop-key.invariant.partly

pub returns-clause-settled : goal.returns-clause-settled
returns-clause-settled c = thinning_ends c.args.self.now (stored_of c.loop-key.self-inside.chains) c.loop-key.self-inside.index c.args.ts c.args.horizon c.loop-key.self-inside.count c.loop-key.self-inside.dropped_through c.loop-key.key-iterator (sym c.in-None.ensures.steps.0) c.loop-key.invariant
