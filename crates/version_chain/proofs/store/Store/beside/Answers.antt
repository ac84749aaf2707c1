use Rattle.std.proofs.Common.{[], ap, arith, subst, sym}
use Rattle.std.specs.Option.{option_copied}
use Rattle.version_chain.specs.Walking.{Walk, IsBeside}
use Rattle.version_chain.specs.Records.{stored_of}
use Rattle.version_chain.proofs.Walking.{none_beside, some_beside}
use Rattle.version_chain.proofs.store.Store.beside.Goals as goal

pub returns-in_err-keys : goal.returns-in_err-keys
returns-in_err-keys c =
    let walk : Walk = record { store = (stored_of c.self.inside.chains); ts = c.args.ts; key = option_copied c.args.key; through = c.args.through } in
    rw c.from_residual-in_err-keys.ensures
    (subst (λ s. IsBeside (record { store = s; ts = c.args.ts; key = option_copied c.args.key; through = c.args.through }) []) c.self.view_is
    (none_beside walk c.self.inside.index c.self.invariant.indexed (λ y. sym (c.in_err-keys.ensures y))))

pub returns : goal.returns
returns c =
    let walk : Walk = record { store = (stored_of c.self.inside.chains); ts = c.args.ts; key = option_copied c.args.key; through = c.args.through } in
    subst (λ s. IsBeside (record { store = s; ts = c.args.ts; key = option_copied c.args.key; through = c.args.through }) c.above.result) c.self.view_is
    (some_beside walk c.self.inside.index c.in_ok-key.key.now c.in_ok-keys.keys.now c.above.result (ap option_copied c.in_ok-key.was) (omega (arith, c.if-through-ts.false)) c.self.invariant.indexed c.in_ok-keys.ensures c.above.ensures.keys c.above.ensures.rising)
