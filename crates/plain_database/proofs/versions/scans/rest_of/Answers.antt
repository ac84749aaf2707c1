use Rattle.std.proofs.Common.{Some, ap, sym, ◌∙◌}
use Rattle.plain_database.proofs.Common.{IfOk-weaker, Span, in_span}
use Rattle.plain_database.proofs.SpanScans.{all_above, only_above}
use Rattle.plain_database.proofs.versions.scans.rest_of.Goals as goal

pub returns-then-not-is_from : goal.returns-then-not-is_from
returns-then-not-is_from c = IfOk-weaker c.copy-then-not-is_from.result _ _
    (λ rest is x. ap (λ (span : Span). in_span span x) is ∙ rw c.in-Some.is (all_above c.args.span.now c.in-Some.key.now x (sym c.is_from.ensures ∙ c.if-not-is_from.true)))
    c.copy-then-not-is_from.ensures

pub returns : goal.returns
returns c = λ x. rw (c.in-Some.is, c.in_ok-hi.ensures) (only_above c.args.span.now (Some c.in_ok-successor.field-0) c.in-Some.key.now x (sym c.is_from.ensures ∙ c.if-not-is_from.false) (c.in_ok-successor.ensures.least x))
