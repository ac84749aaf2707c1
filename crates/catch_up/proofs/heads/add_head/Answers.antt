use Rattle.catch_up.proofs.Merge.{head_added, head_missing}
use Rattle.catch_up.proofs.heads.add_head.Goals as goal

pub returns-in_ok-insert-clause-added : goal.returns-in_ok-insert-clause-added
returns-in_ok-insert-clause-added c s span n ahead chain inside are =
    head_added s span c.args.ts c.args.place.now c.args.through n ahead c.args.heads.now c.insert.new.self (c.get.result, c.args.key) (c.in-Some.version, c.args.chain) c.last_passed-after.result
    c.last_passed-after.ensures chain inside c.in-Some.ensures c.get.ensures.number c.in_ok-insert.ensures.entries c.in_ok-insert.ensures.ordered are

pub returns-in_default-clause-added : goal.returns-in_default-clause-added
returns-in_default-clause-added c s span n ahead chain inside are =
    head_missing s span c.args.ts c.args.place.now c.args.through n ahead c.args.heads.now c.args.key.now c.args.chain.now c.last_passed-after.result c.last_passed-after.ensures chain c.in_default.ensures are
