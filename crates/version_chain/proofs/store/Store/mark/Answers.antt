use Rattle.version_chain.specs.Records.{stored_of}
use Rattle.version_chain.proofs.Changes.{found_alike}
use Rattle.version_chain.proofs.Soundness.{sound_alike}
use Rattle.version_chain.proofs.store.Store.mark.Goals as goal

pub invariant_of-self : goal.invariant_of-self
invariant_of-self c = let s = stored_of c.self.inside.chains in let s' = stored_of c.mark.new.self in
    sound_alike s s' c.self.inside.index c.self.inside.count c.self.inside.dropped_through (found_alike s s' c.mark.ensures.chains) c.self.invariant
