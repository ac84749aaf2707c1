use Rattle.std.proofs.Common.{◌∙◌, List, ap, arith, length, subst, ◌≡◌}
use Rattle.version_chain.specs.Stores.{Entry}
use Rattle.catch_up.proofs.Merge.{IsHeading, heads_begin, heads_go_on}
use Rattle.catch_up.proofs.heads.heads_after.Goals as goal

pub loop-key-init : goal.loop-key-init
loop-key-init c =
    let none : length c.new-heads.result.entries ≡ 0 = ap length c.new-heads.ensures.empty in (
      heads_begin c.args.store.now c.args.span.now c.args.ts c.args.place.now c.args.through c.args.n c.into_iter-key-iterator.result c.new-heads.result (c.into_iter-key-iterator.ensures.into_iter_gives ∙ c.in_span-key-items.ensures.found) c.in_span-key-items.ensures.ordered
          c.new-heads.ensures.empty c.new-heads.ensures.ordered,
      omega arith,
    )

pub loop-key-preserved : goal.loop-key-preserved
loop-key-preserved c =
    let so = subst (λ (es : List Entry). IsHeading c.args.store.now c.args.span.now c.args.ts c.args.place.now c.args.through c.args.n es c.loop-key.heads) c.in-Some.ensures.steps c.loop-key.invariant.0 in (
      heads_go_on c.args.store.now c.args.span.now c.args.ts c.args.place.now c.args.through c.args.n (c.in-Some.key.now, c.in-Some.chain.now) c.next.new.self c.loop-key.heads c.cut.new.heads so
          (λ chain inside are. c.cut.ensures.cut c.args.store.now c.args.span.now c.args.ts c.args.place.now c.args.through _ (c.in_ok-add_head.ensures.added c.args.store.now c.args.span.now c.args.n _ chain inside are)),
      c.cut.ensures.few (omega (arith, c.in_ok-add_head.ensures.one, c.loop-key.invariant.1)),
    )

pub returns-clause-heads : goal.returns-clause-heads
returns-clause-heads c = (subst (λ (es : List Entry). IsHeading c.args.store.now c.args.span.now c.args.ts c.args.place.now c.args.through c.args.n es c.loop-key.heads) c.in-None.ensures.steps.0 c.loop-key.invariant.0).are

pub returns-clause-few : goal.returns-clause-few
returns-clause-few c = c.loop-key.invariant.1
