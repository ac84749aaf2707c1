use Rattle.std.proofs.Common.{◌≡◌, ℕ, List, Some, ap, arith, max, sym, ◌∙◌}
use Rattle.std.specs.Prelude.{bytes_eq}
use Rattle.read_marks.proofs.Common.{IsStrictlySortedBy, is_at, key_cmp, keys_of, lookup, set_value}
use Rattle.read_marks.proofs.Low.{low_raised}
use Rattle.read_marks.proofs.Raising.{Entries}
use Rattle.read_marks.proofs.Rising.{raised_more, raised_none, raised_nothing, raised_one}
use Rattle.read_marks.specs.Spans.{raised}
use Rattle.read_marks.specs.declared.span_marks.SpanMarks.{SpanMarks}
use Rattle.read_marks.proofs.span_marks.SpanMarks.raise_each.Goals as goal
use Rattle.read_marks.proofs.span_marks.SpanMarks.raise_each.Goals.{in-Some, in_default}

risen : (k : List ℕ) (v w ts : ℕ) (es fs : Entries) → IsStrictlySortedBy key_cmp (keys_of es) → Some v ≡ lookup (is_at (key_cmp k)) es → w ≡ max v ts → fs ≡ set_value (is_at (key_cmp k)) es w → fs ≡ raised (λ x. bytes_eq k x) ts es
risen k v w ts es fs ordered found most set = set ∙ ap (set_value (is_at (key_cmp k)) es) most ∙ raised_one k v ts es ordered (sym found)

pub invariant_of-self : goal.invariant_of-self
invariant_of-self c = let k = c.start-item.result in let es = c.loop-start.self.starts.entries in record {
  low = low_raised (λ x. bytes_eq k x) c.args.ts es _ (risen k c.in-Some.latest.now c.max.result c.args.ts es _ c.get_mut.ensures.ordered c.in-Some.ensures.value c.max.ensures (c.get_mut.follows.holds c.max.result).0) (omega (arith, c.ranges.ts.fits)) c.loop-start.self.low;
}

pub loop-start-init : goal.loop-start-init
loop-start-init c = raised_nothing c.args.ts c.args.self.now.starts.entries

pub loop-start-preserved : goal.loop-start-preserved
loop-start-preserved c = let k = c.start-item.result in let es = c.loop-start.self.starts.entries in
    raised_more c.args.starts.now c.loop-start.start-index k c.args.ts c.args.self.now.starts.entries es c.match-get_mut.self.starts.entries c.loop-start-test.true c.start-item.is c.loop-start.invariant (elim c.match-get_mut.branch [
      | in-Some w ↦ ap (λ (m : SpanMarks). m.starts.entries) w.self-is ∙ risen k w.in-Some.latest.now w.max.result c.args.ts es _ c.get_mut.ensures.ordered w.in-Some.ensures.value w.max.ensures (c.get_mut.follows.holds w.max.result).0
      | in_default w ↦ ap (λ (m : SpanMarks). m.starts.entries) w.self-is ∙ ap (λ m. m.entries) c.get_mut.follows.holds-at-none ∙ raised_none k c.args.ts es (sym w.in_default.ensures.value)
    ])
