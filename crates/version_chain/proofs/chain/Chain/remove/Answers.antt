use Rattle.std.proofs.Common.{sym, subst}
use Rattle.version_chain.specs.Versions.{DoRise, versions_in}
use Rattle.version_chain.proofs.Edits.{rises_remove, remove_finds, untaken, none_free}
use Rattle.version_chain.proofs.chain.Chain.remove.Goals as goal

pub invariant_of-self : goal.invariant_of-self
invariant_of-self c = subst DoRise (sym c.remove.ensures) (rises_remove (versions_in c.self.inside.versions) c.in-Ok.place c.self.invariant)

pub returns-in-Ok : goal.returns-in-Ok
returns-in-Ok c = λ i. rw (c.remove.ensures, ← c.self.view_is) (remove_finds (versions_in c.self.inside.versions) c.in-Ok.place c.args.ts i c.self.invariant (rw c.self.view_is c.in-Ok.ensures))

pub returns-in_default : goal.returns-in_default
returns-in_default c = λ i. untaken c.args.self.now c.args.ts i (none_free c.args.self.now c.args.ts c.in_default.field-0 c.in_default.ensures)
