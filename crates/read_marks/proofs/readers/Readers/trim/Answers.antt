use Rattle.std.proofs.Common.{ap, ◌∙◌}
use Rattle.read_marks.specs.Readers.{is_kept}
use Rattle.read_marks.proofs.Keeping.{kept_filter}
use Rattle.read_marks.proofs.Splitting.{filter_above}
use Rattle.read_marks.proofs.readers.Readers.trim.Goals as goal

pub returns-in-Some-clause-kept : goal.returns-in-Some-clause-kept
returns-in-Some-clause-kept c =
    let xs = c.args.self.now.list.items in
    λ j. ap (λ ys. is_kept c.args.through ys j) (c.cut.ensures.items ∙ filter_above xs c.args.through _ c.count_through-count.ensures.splits) ∙ kept_filter c.args.through xs j
