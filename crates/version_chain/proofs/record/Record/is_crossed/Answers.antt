use Rattle.std.proofs.Common.{None, Some, true, refl}
use Rattle.read_marks.specs.Readers.{readers_of}
use Rattle.version_chain.specs.Versions.{afters_of}
use Rattle.version_chain.proofs.Gaps.{crosses, crosses_not, next_of}
use Rattle.version_chain.proofs.record.Record.is_crossed.Goals as goal

pub returns-in-None : goal.returns-in-None
returns-in-None c =
    crosses (readers_of c.args.self.now.readers) c.args.forgotten (afters_of c.args.self.now.chain) c.args.t None c.max-above.result true c.max-above.ensures (next_of c.args.self.now.chain c.args.t None c.in-None.ensures.version)
    (λ _. c.any_between.ensures.0 c.if-not-any_between.false, λ _. refl)

pub returns-in-Some : goal.returns-in-Some
returns-in-Some c =
    crosses (readers_of c.args.self.now.readers) c.args.forgotten (afters_of c.args.self.now.chain) c.args.t (Some c.get.result) c.max-above.result c.any_between-in-Some.result c.max-above.ensures (rw c.get.ensures.number (next_of c.args.self.now.chain c.args.t (Some c.in-Some.next.now) c.in-Some.ensures.version)) c.any_between-in-Some.ensures

pub returns-then-not-any_between : goal.returns-then-not-any_between
returns-then-not-any_between c = crosses_not (readers_of c.args.self.now.readers) c.args.forgotten (afters_of c.args.self.now.chain) c.args.t c.max-above.result c.any_between.result c.max-above.ensures c.if-not-any_between.true c.any_between.ensures
