use Rattle.std.proofs.Common.{arith, subst, sym}
use Rattle.std.specs.Option.{option_copied}
use Rattle.catch_up.proofs.Walk.{IsWalking, begins_walking, ends_walking, goes_on_walking, none_past, walk_full, walk_joins}
use Rattle.catch_up.proofs.rows.next_rows.Goals as goal

pub returns-then-is_past : goal.returns-then-is_past
returns-then-is_past c = none_past c.args.store.now c.args.span.now c.args.ts (option_copied c.args.key) c.args.through c.args.n c.new-rows.result.items (c.is_past.ensures c.if-is_past.true) c.new-rows.ensures.items

pub loop-init : goal.loop-init
loop-init c =
    let store = c.args.store.now in
    let key = option_copied c.args.key in
    subst (λ w. IsWalking store c.args.span.now c.args.ts key c.args.through c.args.n w c.args.n c.new-rows.result.items) (sym c.versions_after-versions.ensures)
    (subst (λ rows. IsWalking store c.args.span.now c.args.ts key c.args.through c.args.n (record { store = store; ts = c.args.ts; key = key; through = c.args.through }) c.args.n rows) (sym c.new-rows.ensures.items)
    (begins_walking store c.args.span.now c.args.ts key c.args.through c.args.n))

pub returns-then-missing-eq0 : goal.returns-then-missing-eq0
returns-then-missing-eq0 c =
    walk_full c.args.store.now c.args.span.now c.args.ts (option_copied c.args.key) c.args.through c.args.n c.loop.versions.ts c.loop.versions.key c.loop.missing c.loop.rows.items c.loop.invariant.walked (omega (arith, c.if-missing-eq0.true))

pub returns-in_default : goal.returns-in_default
returns-in_default c =
    ends_walking c.args.store.now c.args.span.now c.args.ts (option_copied c.args.key) c.args.through c.args.n c.loop.versions c.loop.missing c.loop.rows.items c.loop.invariant c.in_default.ensures.found

pub tell-requires : goal.tell-requires
tell-requires c = omega (arith, c.if-missing-eq0.false)

pub loop-preserved : goal.loop-preserved
loop-preserved c =
    goes_on_walking c.args.store.now c.args.span.now c.args.ts (option_copied c.args.key) c.args.through c.args.n c.loop.versions c.next.new.self c.loop.missing c.tell.new.missing c.loop.rows.items c.tell.new.rows.items
    c.in-Some.found.now c.in-Some.at c.loop.invariant c.in-Some.ensures.found c.in-Some.ensures.walked c.in_ok-tell.ensures

pub counted_rows-requires-clause-store : goal.counted_rows-requires-clause-store
counted_rows-requires-clause-store c = c.loop.invariant.store

pub counted_rows-requires-clause-far : goal.counted_rows-requires-clause-far
counted_rows-requires-clause-far c = c.loop.invariant.far

pub returns : goal.returns
returns c =
    walk_joins c.args.store.now c.args.span.now c.args.ts (option_copied c.args.key) c.args.through c.args.n c.loop.versions.ts c.loop.versions.key c.loop.missing c.loop.rows.items c.append.new.self.items c.in_ok-rest.rest.items
    c.loop.invariant.walked c.in_ok-rest.ensures c.in_ok-append.ensures.items
