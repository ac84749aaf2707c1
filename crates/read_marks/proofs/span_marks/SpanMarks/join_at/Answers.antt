use Rattle.std.proofs.Common.{Some, arith, refl, ◌≡◌}
use Rattle.std.specs.BTreeMap.{get}
use Rattle.std.specs.Cmp.Lexicographic.{nat_list_cmp_total}
use Rattle.read_marks.proofs.Common.{common_steps, key_cmp}
use Rattle.read_marks.proofs.Low.{low_alike}
use Rattle.read_marks.proofs.Steps.{step-remove}
use Rattle.read_marks.specs.Spans.{latest_below}
use Rattle.read_marks.proofs.span_marks.SpanMarks.join_at.Goals as goal

pub invariant_of-self : goal.invariant_of-self
invariant_of-self c =
    let start = c.args.start.now in
    let old = c.args.self.now in
    let repeated : get key_cmp old.starts start ≡ Some (latest_below old start) = grind (arith, common_steps) in
    record { low = low_alike old.starts.entries c.remove.new.self.entries (λ x. rw c.remove.ensures.entries (step-remove nat_list_cmp_total start (latest_below old start) 0 x old.starts.entries c.latest_below.ensures.ordered repeated refl)) old.low }

pub returns-then-eq : goal.returns-then-eq
returns-then-eq c = λ x.
    let start = c.args.start.now in
    let old = c.args.self.now in
    let repeated : get key_cmp old.starts start ≡ Some (latest_below old start) = grind (arith, common_steps) in
    rw c.remove.ensures.entries (step-remove nat_list_cmp_total start (latest_below old start) 0 x old.starts.entries c.latest_below.ensures.ordered repeated refl)
