use Rattle.std.proofs.Common.{arith, length, ◌-◌, ◌≡◌}
use Rattle.feed.proofs.Catching.{both_next}
use Rattle.feed.proofs.live.LiveFeed.next_rows.Goals as goal

pub returns : goal.returns
returns c =
    let room : c.saturating_sub-room.result ≡ c.args.n - length c.in_ok-rows.rows.items = omega (arith, c.saturating_sub-room.ensures, c.len.ensures, c.in_ok-rows.rows.ok) in
    both_next c.args.store.now c.args.self.now c.args.closed c.args.n c.saturating_sub-room.result c.in_ok-rows.rows.items c.in_ok-stored.stored.items c.append.new.self.items c.in_ok-rows.ensures room c.in_ok-stored.ensures c.in_ok-append.ensures.items
