use Rattle.std.proofs.Common.{[], ap, arith, ◌∙◌}
use Rattle.std.specs.Prelude.{is_some, option_map}
use Rattle.version_chain.specs.Stores.{found_in}
use Rattle.version_chain.specs.Versions.{as_committed}
use Rattle.version_chain.specs.Records.{stored_of}
use Rattle.version_chain.proofs.Counts.{count_at}
use Rattle.version_chain.proofs.Soundness.{sound_commit}
use Rattle.version_chain.proofs.Turns.{changes_none}
use Rattle.version_chain.proofs.store.Store.commit.Goals as goal

pub invariant_of-self : goal.invariant_of-self
invariant_of-self c = sound_commit (stored_of c.self.inside.chains) (stored_of c.self.inside.chains) c.self.inside.index [] c.get-ts.result c.self.inside.count c.min-self-inside.result c.self.inside.dropped_through (changes_none (stored_of c.self.inside.chains) c.get-ts.result (option_map as_committed))
    (omega (arith, c.min-self-inside.ensures)) (omega (arith, c.min-self-inside.ensures, c.get-ts.ensures.in_range.0)) c.self.invariant

pub invariant_of-self-2 : goal.invariant_of-self-2
invariant_of-self-2 c = sound_commit (stored_of c.self.inside.chains) (stored_of c.commit_all.new.self) c.self.inside.index c.iter.result c.get-ts.result c.self.inside.count c.min-self-inside.result c.self.inside.dropped_through c.commit_all.ensures.changed
    (omega (arith, c.min-self-inside.ensures)) (omega (arith, c.min-self-inside.ensures, c.get-ts.ensures.in_range.0)) c.self.invariant

pub returns-clause-count : goal.returns-clause-count
returns-clause-count c = count_at c.args.self.now c.args.ts c.len.result c.in-Some.keys.now c.len.ensures.rising
    (λ y. c.in-Some.ensures y ∙ c.self.invariant.indexed y c.get-ts.result ∙ ap (λ t. is_some (found_in (stored_of c.self.inside.chains) y t)) c.get-ts.ensures.number ∙ ap (λ es. is_some (found_in es y c.args.ts)) c.self.view_is) c.len.ensures.count
