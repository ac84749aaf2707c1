use Rattle.std.specs.Option.{option_copied}
use Rattle.engine.specs.Layers.{feeds_of, kept_of}
use Rattle.engine.proofs.Ending.{end_is}
use Rattle.engine.proofs.Engine.scan_end.Goals as goal

pub returns : goal.returns
returns c = λ h stands. end_is (kept_of c.args.self.now.layers) h c.args.ts c.args.rows c.args.bytes c.args.span.now (option_copied c.end_within.result) stands.kept (c.end_within.ensures (feeds_of c.args.self.now.layers.feeds))
