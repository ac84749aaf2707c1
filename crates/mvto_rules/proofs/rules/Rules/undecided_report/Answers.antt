use Rattle.std.proofs.Common.{ap, subst, sym, ◌∙◌, ◌∷◌}
use Rattle.std.specs.List.Sorted.{IsStrictlyIncreasing}
use Rattle.mvto_rules.proofs.Telling.{AreAllOpen, IsTelling, next_stands, telling_begins, telling_ends, telling_goes_on}
use Rattle.mvto_rules.proofs.rules.Rules.undecided_report.Goals as goal

pub loop-ts-init : goal.loop-ts-init
loop-ts-init c =
    let all = c.into_iter-ts-iterator.result in
    let those = subst (AreAllOpen c.args.self.now) (sym c.into_iter-ts-iterator.ensures.into_iter_gives) c.undecided_through-ts-items.ensures.those in
    subst (IsTelling c.args.self.now all all) (sym c.new-reports.ensures.items) (telling_begins c.args.self.now all those)

pub unwrap-seat-requires : goal.unwrap-seat-requires
unwrap-seat-requires c =
    let all = c.into_iter-ts-iterator.result in
    let so = subst (λ l. IsTelling c.args.self.now all l c.loop-ts.reports.items) (c.in-Some.ensures.steps ∙ ap (λ t. t ∷ c.next.new.self) (sym c.ts.view_is)) c.loop-ts.invariant in
    next_stands c.args.self.now all c.next.new.self c.ts.inside.0 c.loop-ts.reports.items c.standing.result so c.standing.ensures

pub loop-ts-preserved : goal.loop-ts-preserved
loop-ts-preserved c =
    let all = c.into_iter-ts-iterator.result in
    let so = subst (λ l. IsTelling c.args.self.now all l c.loop-ts.reports.items) (c.in-Some.ensures.steps ∙ ap (λ t. t ∷ c.next.new.self) (sym c.ts.view_is)) c.loop-ts.invariant in
    subst (IsTelling c.args.self.now all c.next.new.self) (sym c.in_ok-push.ensures.items)
    (telling_goes_on c.args.self.now all c.next.new.self c.ts.inside.0 c.written_at.result c.unwrap-seat.result c.loop-ts.reports.items so (sym c.unwrap-seat.ensures ∙ c.standing.ensures) (λ k. c.written_at.ensures))

pub returns : goal.returns
returns c = λ k.
    let all = c.into_iter-ts-iterator.result in let from = sym c.into_iter-ts-iterator.ensures.into_iter_gives in let found = c.undecided_through-ts-items.ensures in
    telling_ends k c.args.self.now all c.loop-ts.reports.items c.args.self.now.in_range (subst (AreAllOpen c.args.self.now) from found.those) (subst IsStrictlyIncreasing from found.rising)
    (subst (λ l. IsTelling c.args.self.now all l c.loop-ts.reports.items) c.in-None.ensures.steps.0 c.loop-ts.invariant)
