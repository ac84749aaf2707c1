use Rattle.std.proofs.Common.{ap, sym, ◌∙◌, subst}
use Rattle.std.specs.Prelude.{is_none}
use Rattle.version_chain.specs.Versions.{DoRise, version_of, versions_in}
use Rattle.version_chain.proofs.Edits.{rises_set, set_finds, rises_insert, insert_finds, some_placed, none_free}
use Rattle.version_chain.proofs.chain.Chain.write.Goals as goal

pub invariant_of-self : goal.invariant_of-self
invariant_of-self c = rw c.set.ensures (rises_set (versions_in c.self.inside.versions) c.in-Ok.place c.args.version c.self.invariant (rw (c.self.view_is, ← c.get.ensures.number) c.in-Ok.ensures))

pub returns-in-Ok-clause-ok : goal.returns-in-Ok-clause-ok
returns-in-Ok-clause-ok c = λ i. rw (c.set.ensures, ← c.self.view_is) (set_finds (versions_in c.self.inside.versions) c.in-Ok.place c.args.version i c.self.invariant (rw (c.self.view_is, ← c.get.ensures.number) c.in-Ok.ensures))

pub invariant_of-self-in-Err : goal.invariant_of-self-in-Err
invariant_of-self-in-Err c = rw c.in_ok-insert-in-Err.ensures.ok (rises_insert (versions_in c.self.inside.versions) c.in-Err.place c.args.version c.self.invariant (rw (c.self.view_is, ← c.get.ensures.number) c.in-Err.ensures))

pub returns-in_ok-insert-in-Err-clause-ok : goal.returns-in_ok-insert-in-Err-clause-ok
returns-in_ok-insert-in-Err-clause-ok c = λ i. rw (c.in_ok-insert-in-Err.ensures.ok, ← c.self.view_is) (insert_finds (versions_in c.self.inside.versions) c.in-Err.place c.args.version i (rw (c.self.view_is, ← c.get.ensures.number) c.in-Err.ensures))

pub returns-in-Ok-clause-new : goal.returns-in-Ok-clause-new
returns-in-Ok-clause-new c =
    sym (ap is_none (ap (version_of c.args.self.now) (sym c.get.ensures.number) ∙ some_placed c.args.self.now c.get.result c.in-Ok.place c.args.version (subst DoRise c.self.view_is c.self.invariant) c.in-Ok.ensures))

pub returns-in_ok-insert-in-Err-clause-new : goal.returns-in_ok-insert-in-Err-clause-new
returns-in_ok-insert-in-Err-clause-new c =
    sym (ap is_none (ap (version_of c.args.self.now) (sym c.get.ensures.number) ∙ none_free c.args.self.now c.get.result c.in-Err.place c.in-Err.ensures))
