use Rattle.std.proofs.Common.{false, refl, sym, ◌∙◌, ◌≡◌, ap, max}
use Rattle.read_marks.proofs.Common.{has, in_span}
use Rattle.read_marks.specs.Spans.{lent, raised, reaches, step_at}
use Rattle.read_marks.proofs.Raising.{picks, spanned, written_between}
use Rattle.read_marks.proofs.Rising.{raised_range}
use Rattle.read_marks.proofs.span_marks.SpanMarks.raise.Goals as goal

pub returns-then-not-runs_forward-clause-ok : goal.returns-then-not-runs_forward-clause-ok
returns-then-not-runs_forward-clause-ok c = λ x.
    let out : in_span c.args.span.now x ≡ false = sym (spanned _ _ c.args.span.now c.ends_of.ensures.low c.ends_of.ensures.high x) ∙ c.runs_forward.ensures.backward c.if-not-runs_forward.true x in
    rw out refl

pub returns-clause-ok : goal.returns-clause-ok
returns-clause-ok c = λ x.
    let lo = c.ends_of.result.0.now in
    let hi = lent c.ends_of.result.1 in
    let m = c.split_ends.new.self in
    let es = m.starts.entries in
    let those = c.deref.ensures.value ∙ c.in_ok-starts.ensures.those in
    let raises : c.raise_each.new.self.starts.entries ≡ raised (picks lo hi) c.args.ts es = c.raise_each.ensures ∙ ap (λ ks. raised (λ s. has s ks) c.args.ts es) those ∙ raised_range lo hi c.args.ts es in
    c.join.ensures x ∙ ap (step_at (reaches x) 0) raises ∙ written_between lo hi (λ v. max v c.args.ts) x m c.in_ok-starts.ensures.ordered c.in_ok-split_ends.ensures.low c.in_ok-split_ends.ensures.high
    ∙ (rw (spanned lo hi c.args.span.now c.ends_of.ensures.low c.ends_of.ensures.high x, c.split_ends.ensures.latest x) refl)
