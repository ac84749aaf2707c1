use Rattle.std.proofs.Common.{◌∙◌, ap, subst, sym}
use Rattle.key_set.proofs.Common.{RisingKeys, all_within, key_cmp}
use Rattle.key_set.specs.Sets.{keys_in}
use Rattle.key_set.proofs.Sets.{rising_all}
use Rattle.key_set.proofs.set.KeySet.iter.Goals as goal

pub returns-clause-keys : goal.returns-clause-keys
returns-clause-keys c = ap (λ o. keys_in o c.range.result) c.as_ref.ensures.value ∙ ap (keys_in c.self.inside.least) (c.range.ensures.between tt ∙ all_within key_cmp c.self.inside.others.keys) ∙ c.self.view_is

pub returns-clause-rising : goal.returns-clause-rising
returns-clause-rising c = subst RisingKeys (sym (returns-clause-keys c)) (rising_all c.self.inside.least c.self.inside.others.keys c.args.self.now c.self.invariant c.self.view_is)
