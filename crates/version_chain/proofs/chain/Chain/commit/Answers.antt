use Rattle.std.proofs.Common.{sym, subst}
use Rattle.std.proofs.lemmas.List.{get_or_default}
use Rattle.version_chain.specs.Versions.{IsPlaceOf, versions_in}
use Rattle.version_chain.proofs.Edits.{some_version, rises_commit, commit_finds, unmarked, none_free}
use Rattle.version_chain.proofs.chain.Chain.commit.Goals as goal

pub invariant_of-self : goal.invariant_of-self
invariant_of-self c = rw (c.commit.ensures some_version) (rises_commit (versions_in c.self.inside.versions) c.in-Ok.place c.args.ts some_version c.self.invariant (rw c.self.view_is c.in-Ok.ensures))

pub returns-in-Ok : goal.returns-in-Ok
returns-in-Ok c = λ i. let place = subst (λ vs. IsPlaceOf vs c.args.ts c.in-Ok.place) (sym c.self.view_is) c.in-Ok.ensures in
    rw (c.commit.ensures some_version, ← c.self.view_is) (commit_finds (versions_in c.self.inside.versions) c.in-Ok.place _ c.args.ts i c.self.invariant place (get_or_default (versions_in c.self.inside.versions) c.in-Ok.place some_version _ place.within))

pub returns-in_default : goal.returns-in_default
returns-in_default c = λ i. unmarked c.args.self.now c.args.ts i (none_free c.args.self.now c.args.ts c.in_default.field-0 c.in_default.ensures)
