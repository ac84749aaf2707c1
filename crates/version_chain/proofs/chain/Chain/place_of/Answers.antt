use Rattle.std.proofs.Common.{◌∙◌, sym, arith}
use Rattle.version_chain.proofs.Edits.{free_at_start, free_after, place_is}
use Rattle.version_chain.proofs.chain.Chain.place_of.Goals as goal

pub returns-then-place-eq0 : goal.returns-then-place-eq0
returns-then-place-eq0 c = free_at_start _ _ _ c.place_near_end-place.ensures c.if-place-eq0.true

pub returns-then-get-ts : goal.returns-then-get-ts
returns-then-get-ts c =
    free_after c.args.self.now c.args.ts c.place_near_end-place.result _ c.version.ensures.rises c.place_near_end-place.ensures (omega arith)
    c.version.ensures.version (λ same. c.if-get-ts.true (c.get.ensures.number ∙ same))

pub returns : goal.returns
returns c = place_is c.args.self.now c.args.ts c.place_near_end-place.result _ c.place_near_end-place.ensures (omega arith) c.version.ensures.version (sym c.get.ensures.number ∙ c.if-get-ts.false)
