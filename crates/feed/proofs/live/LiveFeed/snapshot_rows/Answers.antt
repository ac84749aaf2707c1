use Rattle.std.proofs.Common.{ap, subst, ◌≡◌}
use Rattle.feed.proofs.Common.{AreNextFirsts, IfOk-weaker, Place, Span, option_copied}
use Rattle.feed.specs.Left.{AreNextFirstsAt}
use Rattle.feed.proofs.Catching.{firsts_next, firsts_none}
use Rattle.feed.proofs.live.LiveFeed.snapshot_rows.Goals as goal

pub returns-in_default : goal.returns-in_default
returns-in_default c = firsts_none c.args.store.now c.args.self.now c.args.n c.new.result.items c.in_default.ensures c.new.ensures.items

pub returns : goal.returns
returns c =
    let place = c.args.self.now in
    let key = option_copied c.told_at.result in
    let span : c.self.inside.span ≡ place.span = ap (λ (l : Place). l.span) c.self.view_is in
    IfOk-weaker c.next_snapshot.result
    (λ rows. AreNextFirsts c.args.store.now c.self.inside.span key c.in-Some.at c.args.n rows.items)
    (λ rows. AreNextFirstsAt c.args.store.now place c.args.n rows.items)
    (λ rows next. firsts_next c.args.store.now place c.in-Some.at c.args.n key rows.items c.in-Some.ensures c.told_at.ensures
    (subst (λ (s : Span). AreNextFirsts c.args.store.now s key c.in-Some.at c.args.n rows.items) span next)) c.next_snapshot.ensures
