use Rattle.std.specs.Prelude.{nat_eq}
use Rattle.feed.proofs.Common.{contains, is_at, lookup}
use Rattle.spans.proofs.Sets.{none_in}
use Rattle.feed.specs.Standing.{pair_cmp}
use Rattle.feed.proofs.Least.{least_is, none_live}
use Rattle.feed.proofs.feeds.Feeds.least_floor.Goals as goal

pub returns-in_err-first : goal.returns-in_err-first
returns-in_err-first c = rw (← c.self.view_is, c.from_residual.ensures) (none_live (contains pair_cmp c.self.inside.floors) (λ f. lookup (nat_eq f) c.self.inside.live.entries) c.self.invariant.each (λ q. none_in (is_at (pair_cmp q)) c.self.inside.floors.keys (λ some. let no' = c.in_err-first.ensures.variant.1 some in cc)))

pub returns : goal.returns
returns c = rw (← c.self.view_is) (least_is (contains pair_cmp c.self.inside.floors) (λ f. lookup (nat_eq f) c.self.inside.live.entries) c.in_ok-first.field-0.now c.self.invariant.each c.in_ok-first.ensures.member c.in_ok-first.ensures.least)
