use Rattle.std.proofs.Common.{◌∙◌, ap, None, Some}
use Rattle.plain_database.proofs.Common.{newest}
use Rattle.plain_database.specs.VersionsTied.{version_in}
use Rattle.plain_database.proofs.Newer.{last_down, last_step}
use Rattle.plain_database.proofs.versions.store.VersionStore.newest.Goals as goal

pub returns-then-writer-eq0 : goal.returns-then-writer-eq0
returns-then-writer-eq0 c = c.loop-writer.invariant
    ∙ last_down c.args.self.now c.self.inside.writers c.args.key.now c.loop-writer.through (Some c.in-Some.writer) (rw (← c.self.view_is) c.self.invariant) c.in-Some.ensures
    ∙ ap (newest (version_in c.args.self.now c.args.key.now)) c.if-writer-eq0.true

pub returns-in-Some-version : goal.returns-in-Some-version
returns-in-Some-version c = c.loop-writer.invariant
    ∙ last_step c.args.self.now c.self.inside.writers c.args.key.now c.loop-writer.through c.in-Some.writer (Some c.in-Some-version.after.now) (rw (← c.self.view_is) c.self.invariant) c.in-Some.ensures c.if-writer-eq0.false c.in-Some-version.ensures

pub loop-writer-preserved : goal.loop-writer-preserved
loop-writer-preserved c = c.loop-writer.invariant
    ∙ last_step c.args.self.now c.self.inside.writers c.args.key.now c.loop-writer.through c.in-Some.writer None (rw (← c.self.view_is) c.self.invariant) c.in-Some.ensures c.if-writer-eq0.false c.in_default-version.ensures

pub returns : goal.returns
returns c = c.loop-writer.invariant ∙ last_down c.args.self.now c.self.inside.writers c.args.key.now c.loop-writer.through None (rw (← c.self.view_is) c.self.invariant) c.in_default.ensures
