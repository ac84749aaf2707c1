use Rattle.std.proofs.Common.{ap, ◌∙◌}
use Rattle.std.specs.Prelude.{is_some}
use Rattle.version_chain.specs.Stores.{found_in}
use Rattle.version_chain.proofs.Counts.{count_at}
use Rattle.version_chain.proofs.store.Store.written_at.Goals as goal

pub returns-in-Some : goal.returns-in-Some
returns-in-Some c = count_at c.args.self.now c.args.ts c.len.result c.in-Some.keys.now c.len.ensures.rising
    (λ y. c.in-Some.ensures y ∙ c.self.invariant.indexed y c.args.ts ∙ ap (λ es. is_some (found_in es y c.args.ts)) c.self.view_is) c.len.ensures.count
