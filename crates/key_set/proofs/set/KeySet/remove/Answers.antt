use Rattle.std.proofs.Common.{◌∷◌, ◌∙◌, ap, subst, sym}
use Rattle.std.specs.Prelude.{bytes_eq}
use Rattle.key_set.proofs.Common.{RisingKeys, has, remove_key}
use Rattle.key_set.specs.Sets.{AreInOrder, keys_in}
use Rattle.key_set.proofs.Sets.{found_above, found_at, found_is, none_below, none_taken, rising_is, taken_above, taken_first, taken_found, taken_rises, whole_is}
use Rattle.key_set.proofs.set.KeySet.remove.Goals as goal

-- ---- a key below the least

pub returns-in-Less-clause-found : goal.returns-in-Less-clause-found
returns-in-Less-clause-found c =
    let whole = whole_is c.self.inside.least c.in-Some.least c.self.inside.others.keys c.args.self.now c.in-Some.is c.self.view_is in
    let rising = rising_is c.self.inside.least c.in-Some.least c.self.inside.others.keys c.in-Some.is c.self.invariant in
    sym (none_below c.args.key.now c.in-Some.least c.self.inside.others.keys (sym c.cmp.ensures ∙ c.in-Less.is) rising) ∙ ap (has c.args.key.now) whole

pub returns-in-Less-clause-keys : goal.returns-in-Less-clause-keys
returns-in-Less-clause-keys c = none_taken c.args.key.now c.args.self.now (sym (returns-in-Less-clause-found c))

pub returns-in-Less-clause-other_keys : goal.returns-in-Less-clause-other_keys
returns-in-Less-clause-other_keys c =
    let whole = whole_is c.self.inside.least c.in-Some.least c.self.inside.others.keys c.args.self.now c.in-Some.is c.self.view_is in
    let rising = rising_is c.self.inside.least c.in-Some.least c.self.inside.others.keys c.in-Some.is c.self.invariant in
    λ y. ap (has y) (returns-in-Less-clause-keys c) ∙ taken_found c.args.key.now y c.args.self.now (subst RisingKeys whole rising)

-- ---- the least key

pub put_next-requires : goal.put_next-requires
put_next-requires c = (rising_is c.self.inside.least c.in-Some.least c.self.inside.others.keys c.in-Some.is c.self.invariant).1

pub returns-in-Equal-clause-found : goal.returns-in-Equal-clause-found
returns-in-Equal-clause-found c =
    let whole = whole_is c.self.inside.least c.in-Some.least c.self.inside.others.keys c.args.self.now c.in-Some.is c.self.view_is in
    sym (found_at c.args.key.now c.in-Some.least c.self.inside.others.keys (sym c.cmp.ensures ∙ c.in-Equal.is)) ∙ ap (has c.args.key.now) whole

pub returns-in-Equal-clause-keys : goal.returns-in-Equal-clause-keys
returns-in-Equal-clause-keys c =
    let whole = whole_is c.self.inside.least c.in-Some.least c.self.inside.others.keys c.args.self.now c.in-Some.is c.self.view_is in
    c.put_next.ensures.keys ∙ taken_first c.args.key.now c.in-Some.least c.self.inside.others.keys (sym c.cmp.ensures ∙ c.in-Equal.is) ∙ ap (remove_key (λ y. bytes_eq y c.args.key.now)) whole

pub returns-in-Equal-clause-other_keys : goal.returns-in-Equal-clause-other_keys
returns-in-Equal-clause-other_keys c =
    let whole = whole_is c.self.inside.least c.in-Some.least c.self.inside.others.keys c.args.self.now c.in-Some.is c.self.view_is in
    let rising = rising_is c.self.inside.least c.in-Some.least c.self.inside.others.keys c.in-Some.is c.self.invariant in
    λ y. ap (has y) (returns-in-Equal-clause-keys c) ∙ taken_found c.args.key.now y c.args.self.now (subst RisingKeys whole rising)

-- ---- a key above the least

pub invariant_of-self-in-Greater : goal.invariant_of-self-in-Greater
invariant_of-self-in-Greater c =
    let rising = rising_is c.self.inside.least c.in-Some.least c.self.inside.others.keys c.in-Some.is c.self.invariant in
    let taken = taken_above c.args.key.now c.in-Some.least c.self.inside.others.keys c.free_empty.new.keys.keys (sym c.cmp.ensures ∙ c.in-Greater.is) (c.free_empty.ensures ∙ c.remove-found.ensures.keys) in
    subst (λ o. AreInOrder o c.free_empty.new.keys.keys) (sym c.in-Some.is) (subst RisingKeys (sym taken) (taken_rises (λ y. bytes_eq y c.args.key.now) (c.in-Some.least ∷ c.self.inside.others.keys) rising))

pub returns-in-Greater-clause-found : goal.returns-in-Greater-clause-found
returns-in-Greater-clause-found c =
    let whole = whole_is c.self.inside.least c.in-Some.least c.self.inside.others.keys c.args.self.now c.in-Some.is c.self.view_is in
    c.remove-found.ensures.test ∙ found_is c.args.key.now c.self.inside.others.keys ∙ sym (found_above c.args.key.now c.in-Some.least c.self.inside.others.keys (sym c.cmp.ensures ∙ c.in-Greater.is)) ∙ ap (has c.args.key.now) whole

pub returns-in-Greater-clause-keys : goal.returns-in-Greater-clause-keys
returns-in-Greater-clause-keys c =
    let whole = whole_is c.self.inside.least c.in-Some.least c.self.inside.others.keys c.args.self.now c.in-Some.is c.self.view_is in
    ap (λ o. keys_in o c.free_empty.new.keys.keys) c.in-Some.is ∙ taken_above c.args.key.now c.in-Some.least c.self.inside.others.keys c.free_empty.new.keys.keys (sym c.cmp.ensures ∙ c.in-Greater.is) (c.free_empty.ensures ∙ c.remove-found.ensures.keys)
    ∙ ap (remove_key (λ y. bytes_eq y c.args.key.now)) whole

pub returns-in-Greater-clause-other_keys : goal.returns-in-Greater-clause-other_keys
returns-in-Greater-clause-other_keys c =
    let whole = whole_is c.self.inside.least c.in-Some.least c.self.inside.others.keys c.args.self.now c.in-Some.is c.self.view_is in
    let rising = rising_is c.self.inside.least c.in-Some.least c.self.inside.others.keys c.in-Some.is c.self.invariant in
    λ y. ap (has y) (returns-in-Greater-clause-keys c) ∙ taken_found c.args.key.now y c.args.self.now (subst RisingKeys whole rising)
