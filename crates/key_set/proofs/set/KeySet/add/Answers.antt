use Rattle.std.proofs.Common.{◌∙◌, ap, sym}
use Rattle.std.proofs.lemmas.Result.{on_err_weaker}
use Rattle.std.specs.Prelude.{not}
use Rattle.key_set.proofs.Common.{any_err, has}
use Rattle.key_set.proofs.Sets.{found_above, found_at, in_ok, none_below, rises_above, rises_below, rising_is, whole_is}
use Rattle.key_set.proofs.set.KeySet.add.Goals as goal

-- ---- a key below the least

pub invariant_of-self-in-Less : goal.invariant_of-self-in-Less
invariant_of-self-in-Less c =
    let rising = rising_is c.self.inside.least c.in-Some.least c.self.inside.others.keys c.in-Some.is c.self.invariant in
    rises_below c.add_below.result c.args.key.now c.in-Some.least c.add_below.new.least c.self.inside.others.keys c.add_below.new.others.keys c.add_below.ensures.ok c.add_below.ensures.err (sym c.cmp.ensures ∙ c.in-Less.is) rising

pub returns-in-Less-clause-new : goal.returns-in-Less-clause-new
returns-in-Less-clause-new c =
    let whole = whole_is c.self.inside.least c.in-Some.least c.self.inside.others.keys c.args.self.now c.in-Some.is c.self.view_is in
    let rising = rising_is c.self.inside.least c.in-Some.least c.self.inside.others.keys c.in-Some.is c.self.invariant in
    in_ok c.add_below.result _ _ c.add_below.ensures.new (ap not (sym (none_below c.args.key.now c.in-Some.least c.self.inside.others.keys (sym c.cmp.ensures ∙ c.in-Less.is) rising) ∙ ap (has c.args.key.now) whole))

pub returns-in-Less-clause-absent : goal.returns-in-Less-clause-absent
returns-in-Less-clause-absent c =
    let whole = whole_is c.self.inside.least c.in-Some.least c.self.inside.others.keys c.args.self.now c.in-Some.is c.self.view_is in
    let rising = rising_is c.self.inside.least c.in-Some.least c.self.inside.others.keys c.in-Some.is c.self.invariant in
    any_err c.add_below.result (ap (has c.args.key.now) (sym whole) ∙ none_below c.args.key.now c.in-Some.least c.self.inside.others.keys (sym c.cmp.ensures ∙ c.in-Less.is) rising)

-- ---- the least key

pub returns-in-Equal-clause-new : goal.returns-in-Equal-clause-new
returns-in-Equal-clause-new c =
    let whole = whole_is c.self.inside.least c.in-Some.least c.self.inside.others.keys c.args.self.now c.in-Some.is c.self.view_is in
    ap not (sym (found_at c.args.key.now c.in-Some.least c.self.inside.others.keys (sym c.cmp.ensures ∙ c.in-Equal.is)) ∙ ap (has c.args.key.now) whole)

-- ---- a key above the least

pub invariant_of-self-in-Greater : goal.invariant_of-self-in-Greater
invariant_of-self-in-Greater c =
    let rising = rising_is c.self.inside.least c.in-Some.least c.self.inside.others.keys c.in-Some.is c.self.invariant in
    rises_above c.add_to.result c.args.key.now c.in-Some.least c.self.inside.others.keys c.add_to.new.keys.keys c.add_to.ensures.ok c.add_to.ensures.err (sym c.cmp.ensures ∙ c.in-Greater.is) rising

pub returns-in-Greater-clause-new : goal.returns-in-Greater-clause-new
returns-in-Greater-clause-new c =
    let whole = whole_is c.self.inside.least c.in-Some.least c.self.inside.others.keys c.args.self.now c.in-Some.is c.self.view_is in
    in_ok c.add_to.result _ _ c.add_to.ensures.new (ap not (sym (found_above c.args.key.now c.in-Some.least c.self.inside.others.keys (sym c.cmp.ensures ∙ c.in-Greater.is)) ∙ ap (has c.args.key.now) whole))

pub returns-in-Greater-clause-absent : goal.returns-in-Greater-clause-absent
returns-in-Greater-clause-absent c =
    let whole = whole_is c.self.inside.least c.in-Some.least c.self.inside.others.keys c.args.self.now c.in-Some.is c.self.view_is in
    on_err_weaker c.add_to.result (λ none. ap (has c.args.key.now) (sym whole) ∙ found_above c.args.key.now c.in-Some.least c.self.inside.others.keys (sym c.cmp.ensures ∙ c.in-Greater.is) ∙ none) c.add_to.ensures.absent
