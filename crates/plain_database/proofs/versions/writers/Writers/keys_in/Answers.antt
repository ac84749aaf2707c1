use Rattle.std.proofs.Common.{rules, ap, ◌∙◌}
use Rattle.std.specs.Prelude.{filter}
use Rattle.plain_database.proofs.Common.{in_span, keys_of, rising_keys}
use Rattle.plain_database.proofs.KeysIn.{all_ahead, are_ahead}
use Rattle.plain_database.proofs.versions.writers.Writers.keys_in.Goals as goal

pub invariant_of-result : goal.invariant_of-result
invariant_of-result c =
    let rest = rw c.start_at.ensures at (c.range-ahead.ensures.between (search rules)) in
    rw rest (are_ahead c.args.span.now.lo c.self.inside.map.entries (rising_keys _ c.range-ahead.ensures.ordered))

pub returns-clause-those : goal.returns-clause-those
returns-clause-those c =
    let rest = rw c.start_at.ensures at (c.range-ahead.ensures.between (search rules)) in
    ap (λ ds. filter (in_span c.args.span.now) (keys_of ds)) rest ∙ all_ahead c.args.span.now c.self.inside.map.entries ∙ ap (λ ds. filter (in_span c.args.span.now) (keys_of ds)) c.self.view_is

pub returns-clause-rising : goal.returns-clause-rising
returns-clause-rising c = rw (← c.self.view_is) (rising_keys _ c.range-ahead.ensures.ordered)
