use Rattle.std.proofs.Common.{◌∙◌, refl, rules, subst, ◌≡◌, []}
use Rattle.mvto_rules.proofs.Common.{deref_pair, option_copied, rest_all}
use Rattle.mvto_rules.proofs.Listing.{IsListing, list_begins, list_ends, list_goes_on}
use Rattle.mvto_rules.proofs.Walking.{there_at}
use Rattle.mvto_rules.proofs.reading.rows_at.Goals as goal

pub loop-key-init : goal.loop-key-init
loop-key-init c = list_begins c.args.store.now c.args.t c.args.span.now c.into_iter-key-iterator.result c.new-rows.result.items (c.into_iter-key-iterator.ensures.into_iter_gives ∙ c.in_span-found.ensures.found) c.in_span-found.ensures.ordered (search rules)

pub loop-key-preserved : goal.loop-key-preserved
loop-key-preserved c =
    let list = subst (λ es. IsListing c.args.store.now c.args.t c.args.span.now es c.loop-key.rows.items) c.in-Some.ensures.steps c.loop-key.invariant in
    let there = there_at c.args.store.now c.args.t c.args.t c.in-Some.key.now c.in-Some.chain.now c.newest_at-newest.result list.each.0.1 refl c.newest_at-newest.ensures.version c.is_named.ensures in
    list_goes_on c.args.store.now c.args.t c.args.span.now c.in-Some.key.now c.in-Some.chain.now c.next.new.self c.loop-key.rows.items c.add_row.new.rows.items (option_copied c.newest_at-newest.result) list there c.in_ok-add_row.ensures

pub returns-clause-rows : goal.returns-clause-rows
returns-clause-rows c =
    let none : c.loop-key.key-iterator ≡ [] = rest_all deref_pair _ _ _ c.in-None.is c.next.ensures.steps in
    list_ends c.args.store.now c.args.t c.args.span.now c.loop-key.rows.items (subst (λ es. IsListing c.args.store.now c.args.t c.args.span.now es c.loop-key.rows.items) none c.loop-key.invariant)
