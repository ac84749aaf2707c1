use Rattle.std.proofs.Common.{rules, subst, sym}
use Rattle.key_set.proofs.Common.{RisingKeys, filter_rises, key_lt}
use Rattle.key_set.proofs.Sets.{all_above, rising_all}
use Rattle.key_set.proofs.set.KeySet.above.Goals as goal

pub returns-clause-keys : goal.returns-clause-keys
returns-clause-keys c = all_above c.args.key.now c.self.inside.least _ c.self.inside.others.keys c.range-others.result c.args.self.now (search rules) (c.range-others.ensures.between (search rules)) c.self.view_is

pub returns-clause-rising : goal.returns-clause-rising
returns-clause-rising c = subst RisingKeys (sym (returns-clause-keys c)) (filter_rises (key_lt c.args.key.now) c.args.self.now (rising_all c.self.inside.least c.self.inside.others.keys c.args.self.now c.self.invariant c.self.view_is))
