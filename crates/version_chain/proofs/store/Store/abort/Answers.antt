use Rattle.std.proofs.Common.{None, arith, subst, sym, ◌-◌}
use Rattle.version_chain.specs.Stores.{AreChangedAt}
use Rattle.version_chain.specs.Indexes.{IsSound}
use Rattle.version_chain.specs.Records.{stored_of}
use Rattle.version_chain.proofs.Soundness.{sound_drop}
use Rattle.version_chain.proofs.store.Store.abort.Goals as goal

pub overflow_sub-self : goal.overflow_sub-self
overflow_sub-self c = omega (
  arith,
  c.len.ensures.count,
  (sound_drop (stored_of c.self.inside.chains) (stored_of c.remove_all-2.new.self) c.self.inside.index c.remove_all.new.self c.in-Some.keys c.get-ts.result c.self.inside.count c.self.inside.dropped_through
      (subst (λ keys. AreChangedAt (stored_of c.self.inside.chains) (stored_of c.remove_all-2.new.self) keys c.get-ts.result (λ _. None)) c.iter.ensures.keys c.remove_all-2.ensures.changed) c.len.ensures.rising c.in-Some.ensures.keys c.in-Some.ensures.others c.in-Some.ensures.filled c.self.invariant).0,
)

pub invariant_of-self-2 : goal.invariant_of-self-2
invariant_of-self-2 c = subst (λ n. IsSound (stored_of c.remove_all-2.new.self) c.remove_all.new.self (c.self.inside.count - n) c.self.inside.dropped_through) (sym c.len.ensures.count)
    (sound_drop (stored_of c.self.inside.chains) (stored_of c.remove_all-2.new.self) c.self.inside.index c.remove_all.new.self c.in-Some.keys c.get-ts.result c.self.inside.count c.self.inside.dropped_through
    (subst (λ keys. AreChangedAt (stored_of c.self.inside.chains) (stored_of c.remove_all-2.new.self) keys c.get-ts.result (λ _. None)) c.iter.ensures.keys c.remove_all-2.ensures.changed) c.len.ensures.rising c.in-Some.ensures.keys c.in-Some.ensures.others c.in-Some.ensures.filled c.self.invariant).1
