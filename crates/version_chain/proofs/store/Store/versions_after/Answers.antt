use Rattle.std.proofs.Common.{subst, sym}
use Rattle.std.specs.Option.{option_copied}
use Rattle.version_chain.specs.Walking.{Walk, IsBeside, keys_ahead}
use Rattle.version_chain.specs.Records.{stored_of}
use Rattle.version_chain.proofs.Walking.{begins}
use Rattle.version_chain.proofs.store.Store.versions_after.Goals as goal

pub invariant_of-result : goal.invariant_of-result
invariant_of-result c =
    let walk : Walk = record { store = (stored_of c.self.inside.chains); ts = c.args.ts; key = option_copied c.args.key; through = c.args.through } in
    begins walk c.self.inside.index (keys_ahead c.beside.result) c.between.result c.self.invariant.indexed
    (subst (λ s. IsBeside (record { store = s; ts = c.args.ts; key = option_copied c.args.key; through = c.args.through }) (keys_ahead c.beside.result)) (sym c.self.view_is) c.beside.ensures)
    c.between.ensures.rising c.between.ensures.listed
