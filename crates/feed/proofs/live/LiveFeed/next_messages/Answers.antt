use Rattle.std.proofs.Common.{None, ap, ◌∙◌}
use Rattle.feed.proofs.Common.{Place, last_name, last_resolved}
use Rattle.feed.proofs.Telling.{next_few, told_due}
use Rattle.feed.proofs.live.LiveFeed.next_messages.Goals as goal

pub with_due-requires : goal.with_due-requires
with_due-requires c = next_few c.args.store.now c.args.self.now c.args.closed c.args.max c.in_ok-rows.rows.items c.in_ok-rows-2.rows.items c.in_ok-rows.ensures c.in_ok-rows-2.ensures

pub returns : goal.returns
returns c =
    let place = c.args.self.now in
    told_due c.args.store.now place c.args.closed c.args.max c.in_ok-rows.rows.items c.in_ok-rows-2.rows.items c.due.result (record { messages = c.in_ok-messages.messages; place = c.in_ok-place.place })
    c.in_ok-rows.ensures c.in_ok-rows-2.ensures c.due.ensures c.in_ok-messages.ensures
    (c.in_ok-place.ensures.after ∙ ap (λ n. last_resolved n c.as_slice.result.now) (ap (λ (l : Place). l.after) c.self.view_is) ∙ ap (last_resolved place.after) c.as_slice.ensures.value)
    (c.in_ok-place.ensures.row ∙ ap (last_name None) c.as_slice.ensures.value)
