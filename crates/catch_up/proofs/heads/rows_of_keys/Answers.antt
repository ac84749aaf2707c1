use Rattle.std.proofs.Common.{[], ap, arith, false, true, ◌≡◌, ◌++◌, ◌∷◌, ◌∙◌}
use Rattle.catch_up.proofs.Merge.{merge_begins, merge_ends, merge_full, merge_goes_on}
use Rattle.catch_up.proofs.heads.rows_of_keys.Goals as goal
use Rattle.catch_up.proofs.heads.rows_of_keys.Goals.{else-loop-test, then-loop-test+in_default}

pub loop-init : goal.loop-init
loop-init c = merge_begins c.args.store.now c.args.span.now c.args.ts c.args.place.now c.args.through c.args.n _ c.new-rows.result.items c.in_ok-heads.heads c.in_ok-heads.ensures.heads c.new-rows.ensures.items (omega arith)

pub loop-preserved : goal.loop-preserved
loop-preserved c =
    merge_goes_on c.args.store.now c.args.span.now c.args.ts c.args.place.now c.args.through c.args.n _ _ c.loop.rows.items c.push.new.self.items c.loop.heads c.pop_first.new.self c.add_head.new.heads
    (c.in-Some.field-0-0-0, c.in-Some.key) (c.in-Some.version, c.in-Some.chain) c.loop.invariant c.in-Some.ensures.removal c.in-Some.ensures.ordered (omega (arith, c.loop-test.true))
    (c.in_ok-push.ensures.items ∙ ap (λ r. c.loop.rows.items ++ r ∷ []) c.in_ok-row.ensures)
    (λ chain inside are. c.in_ok-add_head.ensures.added c.args.store.now c.args.span.now _ [] chain inside are)

pub returns : goal.returns
returns c = elim c.loop-test.branch [
  | else-loop-test w ↦ merge_full c.args.store.now c.args.span.now c.args.ts c.args.place.now c.args.through c.args.n _ c.loop.rows.items c.loop.heads c.loop.invariant (omega (arith, w.loop-test.false))
  | then-loop-test+in_default w ↦ merge_ends c.args.store.now c.args.span.now c.args.ts c.args.place.now c.args.through c.args.n _ c.loop.rows.items c.loop.heads c.loop.invariant (omega (arith, w.loop-test.true)) (λ some. let no : false ≡ true = w.in_default.ensures.variant.1 some in cc)
]
