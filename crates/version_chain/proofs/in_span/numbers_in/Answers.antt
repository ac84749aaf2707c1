use Rattle.std.proofs.Common.{ap, subst, sym, ◌∙◌, ◌≡◌}
use Rattle.spans.specs.KeyOrder.{start_of}
use Rattle.spans.proofs.Ascending.{rising_keys}
use Rattle.version_chain.specs.Stores.{AreFrom, starting_at}
use Rattle.version_chain.proofs.InSpans.{from_start, numbers_found}
use Rattle.version_chain.proofs.in_span.numbers_in.Goals as goal
use Rattle.version_chain.proofs.in_span.numbers_in.Goals.{After-range_from-ahead}

from : (c : After-range_from-ahead) → AreFrom c.args.span.now.lo c.args.keys.now c.range_from-ahead.result
from c = let rest : c.range_from-ahead.result ≡ starting_at (start_of c.args.span.now.lo) c.args.keys.now = c.range_from-ahead.ensures.rest ∙ ap (λ b. starting_at b c.args.keys.now) c.start_at.ensures in
    subst (AreFrom c.args.span.now.lo c.args.keys.now) (sym rest) (from_start c.args.span.now.lo c.args.keys.now (rising_keys _ c.range_from-ahead.ensures.rising))

pub invariant_of-result : goal.invariant_of-result
invariant_of-result c = (from c).ahead

pub returns-clause-those : goal.returns-clause-those
returns-clause-those c = numbers_found c.args.span.now c.args.keys.now c.range_from-ahead.result (from c)

pub returns-clause-rising : goal.returns-clause-rising
returns-clause-rising c = rising_keys _ c.range_from-ahead.ensures.rising
