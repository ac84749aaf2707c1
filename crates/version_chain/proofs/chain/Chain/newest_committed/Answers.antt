use Rattle.std.proofs.Common.{◌∙◌, sym, arith}
use Rattle.version_chain.proofs.Chained.{top_from, top_lower, top_none, top_is}
use Rattle.version_chain.proofs.chain.Chain.newest_committed.Goals as goal

pub loop-place-init : goal.loop-place-init
loop-place-init c = record { within = c.requires; top = λ t above. top_from c.args.self.now t c.args.end above }

pub loop-place-preserved : goal.loop-place-preserved
loop-place-preserved c = record {
  within = omega (arith, c.loop-place.invariant.within);
  top = λ t above. top_lower c.args.self.now t c.loop-place.place c.version-version.result.now (c.loop-place.invariant.top t above) (omega arith) c.version-version.ensures.version c.if-version.false;
}

pub returns-then-version : goal.returns-then-version
returns-then-version c = λ t above.
    let place = c.loop-place.place in
    c.get.ensures.number ∙ sym (top_is c.args.self.now t place _ c.version-version.ensures.rises (c.loop-place.invariant.top t above) (omega arith) c.version-version.ensures.version c.if-version.true (omega arith))

pub returns : goal.returns
returns c = λ t above. sym (top_none c.args.self.now t c.loop-place.place (c.loop-place.invariant.top t above) (omega arith))
