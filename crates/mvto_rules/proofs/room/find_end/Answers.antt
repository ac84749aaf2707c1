use Rattle.std.proofs.Common.{[], refl, subst, sym, ◌≡◌, ◌∙◌}
use Rattle.mvto_rules.proofs.Common.{deref_pair, option_copied, rest_all}
use Rattle.mvto_rules.proofs.Ending.{IsEnding, ending_begins, ending_ends, ending_goes_on, ending_stops}
use Rattle.mvto_rules.proofs.Walking.{there_at}
use Rattle.mvto_rules.proofs.room.find_end.Goals as goal

pub loop-key-init : goal.loop-key-init
loop-key-init c = ending_begins c.args.store.now c.args.ts c.args.span.now c.args.room.rows c.args.room.bytes c.into_iter-key-iterator.result (c.into_iter-key-iterator.ensures.into_iter_gives ∙ c.in_span-key-items.ensures.found) c.in_span-key-items.ensures.ordered

pub returns-then-stops : goal.returns-then-stops
returns-then-stops c =
    let at = subst (λ es. IsEnding c.args.store.now c.args.ts c.args.span.now c.args.room.rows c.args.room.bytes es c.loop-key.room) c.in-Some.ensures.steps c.loop-key.invariant in
    let there = there_at c.args.store.now c.args.ts c.args.ts c.in-Some.key.now c.in-Some.chain.now c.newest_at-newest.result at.each.0.1 refl c.newest_at-newest.ensures.version c.is_named.ensures in
    ending_stops c.args.store.now c.args.ts c.args.span.now c.args.room.rows c.args.room.bytes c.in-Some.key.now c.in-Some.chain.now c.next.new.self c.loop-key.room (option_copied c.newest_at-newest.result) at there (sym c.stops.ensures ∙ c.if-stops.true)

pub returns-then-not-take : goal.returns-then-not-take
returns-then-not-take c =
    let at = subst (λ es. IsEnding c.args.store.now c.args.ts c.args.span.now c.args.room.rows c.args.room.bytes es c.loop-key.room) c.in-Some.ensures.steps c.loop-key.invariant in
    let there = there_at c.args.store.now c.args.ts c.args.ts c.in-Some.key.now c.in-Some.chain.now c.newest_at-newest.result at.each.0.1 refl c.newest_at-newest.ensures.version c.is_named.ensures in
    ending_ends c.args.store.now c.args.ts c.args.span.now c.args.room.rows c.args.room.bytes c.in-Some.key.now c.in-Some.chain.now c.next.new.self c.loop-key.room (option_copied c.newest_at-newest.result) at there (sym c.stops.ensures ∙ c.if-stops.false) (sym c.take.ensures.fits ∙ c.if-not-take.true)

pub loop-key-preserved : goal.loop-key-preserved
loop-key-preserved c =
    let at = subst (λ es. IsEnding c.args.store.now c.args.ts c.args.span.now c.args.room.rows c.args.room.bytes es c.loop-key.room) c.in-Some.ensures.steps c.loop-key.invariant in
    let there = there_at c.args.store.now c.args.ts c.args.ts c.in-Some.key.now c.in-Some.chain.now c.newest_at-newest.result at.each.0.1 refl c.newest_at-newest.ensures.version c.is_named.ensures in
    ending_goes_on c.args.store.now c.args.ts c.args.span.now c.args.room.rows c.args.room.bytes c.in-Some.key.now c.in-Some.chain.now c.next.new.self c.loop-key.room c.take.new.self (option_copied c.newest_at-newest.result) at there (sym c.stops.ensures ∙ c.if-stops.false) (sym c.take.ensures.fits ∙ c.if-not-take.false) (c.take.ensures.left c.if-not-take.false)

pub returns : goal.returns
returns c =
    let none : c.loop-key.key-iterator ≡ [] = rest_all deref_pair _ _ _ c.in-None.is c.next.ensures.steps in
    (subst (λ es. IsEnding c.args.store.now c.args.ts c.args.span.now c.args.room.rows c.args.room.bytes es c.loop-key.room) none c.loop-key.invariant).ends
