use Rattle.std.proofs.Common.{sym, ◌∙◌}
use Rattle.catch_up.proofs.Merge.{passed_at, passed_beside}
use Rattle.catch_up.proofs.heads.last_passed.Goals as goal

pub returns-then-lt : goal.returns-then-lt
returns-then-lt c = passed_beside c.args.ts c.get.result c.args.place.now c.args.key.now (sym c.lt.ensures ∙ c.if-lt.true) c.get.ensures.in_range.0 c.get.ensures.number

pub returns : goal.returns
returns c = passed_at c.args.ts c.get-2.result c.args.place.now c.args.key.now (sym c.lt.ensures ∙ c.if-lt.false) c.get-2.ensures.number
