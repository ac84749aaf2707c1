use Rattle.std.proofs.Common.{ap, arith, rules, subst, sym, ◌<◌, ◌≡◌, ◌∙◌, []}
use Rattle.mvto_rules.proofs.Common.{deref_pair, keys_of, option_copied, rest_all}
use Rattle.mvto_rules.specs.Scans.{first_blocker}
use Rattle.mvto_rules.proofs.Listing.{IsListing, list_begins, list_ends, list_goes_on}
use Rattle.mvto_rules.proofs.Seeing.{is_stopped, unstopped}
use Rattle.mvto_rules.proofs.Walking.{IsSeeking, seek_begins, seek_goes_on, stopped_at, there_at}
use Rattle.mvto_rules.proofs.reading.read_rows.Goals as goal

pub loop-key-init : goal.loop-key-init
loop-key-init c = let those = c.into_iter-key-iterator.ensures.into_iter_gives ∙ c.in_span-found.ensures.found in record {
  list = list_begins c.args.store.now c.args.ts c.args.span.now c.into_iter-key-iterator.result c.new-rows.result.items those c.in_span-found.ensures.ordered (search rules);
  seek = seek_begins c.args.store.now c.args.ts c.args.span.now c.into_iter-key-iterator.result those c.in_span-found.ensures.ordered;
}

pub returns-in-Blocked-clause-reading : goal.returns-in-Blocked-clause-reading
returns-in-Blocked-clause-reading c =
    let seek = subst (IsSeeking c.args.store.now c.args.ts c.args.span.now) c.in-Some.ensures.steps c.loop-key.invariant.seek in
    let low : 0 < c.args.ts = omega (arith, c.get.ensures.in_range.0) in
    let there = there_at c.args.store.now c.args.ts c.get.result c.in-Some.key.now c.in-Some.chain.now c.newest_at-newest.result seek.each.0.1 c.get.ensures.number c.newest_at-newest.ensures.version c.of.ensures.above in
    sym seek.free ∙ stopped_at c.args.store.now c.args.ts c.in-Blocked.by c.in-Some.key.now (keys_of c.next.new.self) (option_copied c.newest_at-newest.result) low there c.in-Blocked.ensures.sight

pub loop-key-preserved : goal.loop-key-preserved
loop-key-preserved c =
    let list = subst (λ es. IsListing c.args.store.now c.args.ts c.args.span.now es c.loop-key.rows.items) c.in-Some.ensures.steps c.loop-key.invariant.list in
    let seek = subst (IsSeeking c.args.store.now c.args.ts c.args.span.now) c.in-Some.ensures.steps c.loop-key.invariant.seek in
    let there = there_at c.args.store.now c.args.ts c.get.result c.in-Some.key.now c.in-Some.chain.now c.newest_at-newest.result seek.each.0.1 c.get.ensures.number c.newest_at-newest.ensures.version c.of.ensures.above in
    record {
      list = list_goes_on c.args.store.now c.args.ts c.args.span.now c.in-Some.key.now c.in-Some.chain.now c.next.new.self c.loop-key.rows.items c.add_row.new.rows.items (option_copied c.newest_at-newest.result) list there c.in_ok-add_row.ensures;
      seek = seek_goes_on c.args.store.now c.args.ts c.args.span.now c.in-Some.key.now c.in-Some.chain.now c.next.new.self (option_copied c.newest_at-newest.result) seek there (ap is_stopped (sym c.of.ensures.sight) ∙ unstopped c.of.result c.in_default.not-Blocked);
    }

pub returns-clause-reading : goal.returns-clause-reading
returns-clause-reading c =
    let none : c.loop-key.key-iterator ≡ [] = rest_all deref_pair _ _ _ c.in-None.is c.next.ensures.steps in (
      sym (ap (λ es. first_blocker c.args.store.now c.args.ts (keys_of es)) (sym none) ∙ c.loop-key.invariant.seek.free),
      list_ends c.args.store.now c.args.ts c.args.span.now c.loop-key.rows.items (subst (λ es. IsListing c.args.store.now c.args.ts c.args.span.now es c.loop-key.rows.items) none c.loop-key.invariant.list),
    )
