use Rattle.closing.proofs.Common.{contains, is_at}
use Rattle.spans.proofs.Sets.{none_in}
use Rattle.closing.specs.Standing.{pair_cmp}
use Rattle.closing.proofs.Least.{first_least, none_least}
use Rattle.closing.proofs.closing.Closing.least_protection.Goals as goal

pub returns-in_err-first : goal.returns-in_err-first
returns-in_err-first c = rw (← c.self.view_is, c.from_residual.ensures) (none_least (contains pair_cmp c.self.inside.by_timestamp) c.self.inside.by_number.entries c.self.invariant.each (λ q. none_in (is_at (pair_cmp q)) c.self.inside.by_timestamp.keys (λ some. let no' = c.in_err-first.ensures.variant.1 some in cc)))

pub returns : goal.returns
returns c = rw (← c.self.view_is) (first_least (contains pair_cmp c.self.inside.by_timestamp) c.self.inside.by_number.entries c.in_ok-first.field-0.now c.self.invariant.rising c.self.invariant.each c.in_ok-first.ensures.member c.in_ok-first.ensures.least)
