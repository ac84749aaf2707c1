use Rattle.std.proofs.Common.{refl, sym, ◌∙◌}
use Rattle.spans.proofs.Ascending.{two_rise}
use Rattle.unit_tests.proofs.tests.words.spans_of_keys.rising_keys.Goals as goal

pub returns-then-eq : goal.returns-then-eq
returns-then-eq c =
    two_rise c.in_ok-low.low c.in_ok-high.high c.push-then-eq.new.self.items c.cmp.result
    (rw (c.in_ok-push-2.ensures.items, c.in_ok-push.ensures.items, c.new-keys.ensures.items) refl) c.cmp.ensures (sym c.eq.ensures ∙ c.if-eq.true)
