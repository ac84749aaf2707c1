use Rattle.std.proofs.Common.{List, ap, inl, refl, subst, ℕ, ◌≡◌, ◌∙◌}
use Rattle.engine.proofs.Common.{IsAnswered, IsPolledBy, Message, Messages, Poll, Stored, closed_in, closing_of, cut_at_max, is_moved, opened_in, place_in, uncut, versions_of}
use Rattle.feed.specs.Standing.{Standing}
use Rattle.engine.specs.Layers.{kept_of}
use Rattle.engine.specs.declared.layers.Layers.{Layers}
use Rattle.engine.proofs.FeedReplies.{poll_done}
use Rattle.engine.proofs.layers.Layers.poll.Goals as goal

answered : (e : Layers) (s' : Standing) (seat f max : ℕ) (ms : List Message) → IsPolledBy (versions_of e.rules) e.feeds s' seat f (closed_in (closing_of e.rules)) max ms → opened_in s' ≡ opened_in e.feeds
    → IsAnswered (kept_of e) (kept_of (record e { feeds = s' })) seat (Poll f max) (Messages ms)
answered e s' seat f max ms is opened =
    let k = kept_of e in
    let change = is_moved k e.feeds s' f ms is.place (λ g. refl) is.lives is.put in
    poll_done k (kept_of (record e { feeds = s' })) seat f max is.place is.rows ms is.lives is.owner is.left is.told
    (record { feed = change.feed; rest = ap (λ n. record k { feed = place_in s'; feeds_opened = n }) opened })

pub returns-in-Ok : goal.returns-in-Ok
returns-in-Ok c =
    let e = c.args.self.now in let s' = c.poll.new.self in let ms = c.in-Ok.messages in
    inl (answered e s' c.args.seat c.args.feed c.args.max ms
    (subst (λ (n : ℕ). IsPolledBy (versions_of e.rules) e.feeds s' c.args.seat c.args.feed n c.args.max ms) (uncut c.closed-closed.result c.closed-closed.ensures.low ∙ c.closed-closed.ensures.closed)
    (subst (λ (st : Stored). IsPolledBy st e.feeds s' c.args.seat c.args.feed (cut_at_max c.closed-closed.result) c.args.max ms) c.versions-versions.ensures c.in-Ok.ensures.told)) c.in-Ok.ensures.opened)
