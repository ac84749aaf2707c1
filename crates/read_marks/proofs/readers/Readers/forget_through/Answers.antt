use Rattle.std.proofs.Common.{◌∙◌}
use Rattle.read_marks.proofs.Splitting.{filter_above}
use Rattle.read_marks.proofs.readers.Readers.forget_through.Goals as goal

pub returns : goal.returns
returns c = c.cut.ensures.items ∙ filter_above c.args.self.now.list.items c.args.through _ c.count_through-count.ensures.splits
