use Rattle.std.proofs.Common.{ap, arith, max, subst, sym, ◌≡◌, ◌≤◌, ◌∙◌}
use Rattle.feed.proofs.Common.{is_at, list_any, place_floor, start_at}
use Rattle.spans.proofs.Listing.{start_low}
use Rattle.feed.specs.Standing.{AreTied, pair_cmp}
use Rattle.feed.proofs.Tying.{tied_put}
use Rattle.feed.proofs.feeds.Feeds.open.Goals as goal

pub invariant_of-self-2 : goal.invariant_of-self-2
invariant_of-self-2 c =
    let low : start_at c.args.kind c.min-cursor.result ≤ c.min-cursor.result = start_low c.args.kind c.min-cursor.result in
    let floor : max c.min-cursor.result (max (start_at c.args.kind c.min-cursor.result) 0) ≡ c.min-cursor.result = omega arith in
    tied_put c.self.inside.opened c.min-cursor.result c.reserve.new.self.entries c.insert-2.new.self.entries c.self.inside.floors c.insert.new.self c.in_ok-live.live
    (subst (λ v. AreTied c.self.inside.opened v c.self.inside.floors) (sym c.reserve.ensures.entries) c.self.invariant) (ap place_floor c.in_ok-live.ensures ∙ floor) c.in_ok-insert.ensures.updates.0 c.in-Ok.ensures.updates.0

pub invariant_of-self-in_err-insert : goal.invariant_of-self-in_err-insert
invariant_of-self-in_err-insert c =
    let tied = subst (λ v. AreTied c.self.inside.opened v c.self.inside.floors) (sym c.reserve.ensures.entries) c.self.invariant in
    record { numbered = tied.numbered; each = λ t f. ap (list_any (is_at (pair_cmp (t, f)))) c.in_err-insert.ensures.err ∙ tied.each t f }
