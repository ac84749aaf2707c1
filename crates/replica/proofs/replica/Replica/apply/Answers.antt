use Rattle.std.proofs.Common.{ap, sym, refl, ◌≡◌, ◌∙◌, Some, None}
use Rattle.replica.specs.Replicas.{fault_in}
use Rattle.replica.proofs.Rests.{none_of}
use Rattle.replica.proofs.Following.{fault_is, takes_resolved, resolved_above}
use Rattle.replica.proofs.replica.Replica.apply.Goals as goal

pub returns-in-Some-clause-refused : goal.returns-in-Some-clause-refused
returns-in-Some-clause-refused c = fault_is c.args.self.now c.args.message c.in-Some.fault (sym c.in-Some.ensures)

pub returns-in-Resolved-clause-ok : goal.returns-in-Resolved-clause-ok
returns-in-Resolved-clause-ok c =
    let none : fault_in c.args.self.now c.args.message ≡ None = sym c.fault.ensures ∙ none_of c.fault.result c.in_default.not-Some in
    let at : c.get-at.result ≡ c.in-Resolved.ts = c.get-at.ensures.number in
    rw c.in-Resolved.is (takes_resolved c.args.self.now (record c.args.self.now { resolved = c.get-at.result; floor = c.get-at.result; complete = Some c.get-at.result }) c.in-Resolved.ts
    refl refl (resolved_above c.args.self.now c.in-Resolved.ts (rw c.in-Resolved.is at none)) at refl (ap Some at) refl at)
