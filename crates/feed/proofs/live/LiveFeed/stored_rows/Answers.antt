use Rattle.std.proofs.Common.{ap, sym, ◌&&◌, ◌∙◌}
use Rattle.feed.proofs.Common.{AreNextIn, IfOk-weaker, Place, is_after_name, option_copied}
use Rattle.std.specs.Prelude.{nat_lt}
use Rattle.feed.specs.Left.{AreNextStoredAt}
use Rattle.feed.proofs.Catching.{stored_next}
use Rattle.feed.proofs.live.LiveFeed.stored_rows.Goals as goal

pub returns : goal.returns
returns c =
    let place : Place = record { seat = c.self.inside.seat; kind = c.self.inside.kind; span = c.self.inside.span; cursor = c.self.inside.cursor; after = c.self.inside.after; row = c.self.inside.row } in
    let key = option_copied c.place_in-ts.result.1 in
    rw (← c.self.view_is) (IfOk-weaker c.next_rows.result
    (λ rows. AreNextIn c.args.store.now c.self.inside.span c.place_in-ts.result.0 key c.args.closed c.args.n rows.items)
    (λ rows. AreNextStoredAt c.args.store.now place c.args.closed c.args.n rows.items)
    (λ rows next. stored_next c.args.store.now place c.args.closed c.args.n c.place_in-ts.result.0 key rows.items (λ r. ap (λ m. nat_lt m r.ts && is_after_name c.self.inside.row r) (sym c.max.ensures) ∙ c.place_in-ts.ensures r) next) c.next_rows.ensures)
