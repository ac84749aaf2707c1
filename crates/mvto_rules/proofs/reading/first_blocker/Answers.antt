use Rattle.std.proofs.Common.{ap, arith, subst, sym, ◌<◌, ◌∙◌}
use Rattle.mvto_rules.proofs.Common.{keys_of, option_copied}
use Rattle.mvto_rules.proofs.Seeing.{is_stopped, unstopped}
use Rattle.mvto_rules.proofs.Walking.{IsSeeking, seek_begins, seek_goes_on, stopped_at, there_at}
use Rattle.mvto_rules.proofs.reading.first_blocker.Goals as goal

pub loop-chain-init : goal.loop-chain-init
loop-chain-init c = seek_begins c.args.store.now c.args.ts c.args.span.now c.into_iter-chain-iterator.result (c.into_iter-chain-iterator.ensures.into_iter_gives ∙ c.in_span-chain-items.ensures.found) c.in_span-chain-items.ensures.ordered

pub returns-in-Blocked : goal.returns-in-Blocked
returns-in-Blocked c =
    let seek = subst (IsSeeking c.args.store.now c.args.ts c.args.span.now) c.in-Some.ensures.steps c.loop-chain.invariant in
    let low : 0 < c.args.ts = omega (arith, c.get.ensures.in_range.0) in
    let there = there_at c.args.store.now c.args.ts c.get.result c.in-Some.field-0-0.now c.in-Some.chain.now c.newest_at-newest.result seek.each.0.1 c.get.ensures.number c.newest_at-newest.ensures.version c.of.ensures.above in
    sym (stopped_at c.args.store.now c.args.ts c.in-Blocked.by c.in-Some.field-0-0.now (keys_of c.next.new.self) (option_copied c.newest_at-newest.result) low there c.in-Blocked.ensures.sight) ∙ seek.free

pub loop-chain-preserved : goal.loop-chain-preserved
loop-chain-preserved c =
    let seek = subst (IsSeeking c.args.store.now c.args.ts c.args.span.now) c.in-Some.ensures.steps c.loop-chain.invariant in
    let there = there_at c.args.store.now c.args.ts c.get.result c.in-Some.field-0-0.now c.in-Some.chain.now c.newest_at-newest.result seek.each.0.1 c.get.ensures.number c.newest_at-newest.ensures.version c.of.ensures.above in
    seek_goes_on c.args.store.now c.args.ts c.args.span.now c.in-Some.field-0-0.now c.in-Some.chain.now c.next.new.self (option_copied c.newest_at-newest.result) seek there (ap is_stopped (sym c.of.ensures.sight) ∙ unstopped c.of.result c.in_default.not-Blocked)
