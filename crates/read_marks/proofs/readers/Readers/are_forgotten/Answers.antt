use Rattle.read_marks.proofs.Between.{none_kept}
use Rattle.read_marks.proofs.readers.Readers.are_forgotten.Goals as goal

pub returns : goal.returns
returns c = none_kept c.args.self.now.list.items c.args.through c.any_between.result c.any_between.ensures
