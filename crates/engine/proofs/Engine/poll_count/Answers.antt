use Rattle.std.proofs.Common.{Option, subst, true, ℕ, ◌≡◌, ◌∙◌}
use Rattle.std.specs.Prelude.{IfOk, OnErr, is_some}
use Rattle.engine.proofs.Common.{IfOk-weaker, IsFeedCount, Place, Stored, closed_in, closing_of, cut_at_max, effects_of, place_in, uncut, versions_of}
use Rattle.engine.specs.Room.{poll_count}
use Rattle.engine.proofs.Counting.{count_is}
use Rattle.engine.proofs.Engine.poll_count.Goals as goal

pub returns-clause-count : goal.returns-clause-count
returns-clause-count c = λ h stands. let e = c.args.self.now.layers in
    IfOk-weaker c.count_within.result (IsFeedCount (versions_of e.rules) (closed_in (closing_of e.rules)) c.args.max c.args.bytes (place_in e.feeds c.args.feed)) (λ n. n ≡ poll_count (effects_of h) c.args.feed c.args.max c.args.bytes)
    (λ n is. count_is e c.args.self.now.steps h c.args.feed c.args.max c.args.bytes n stands is)
    (subst (λ (n : ℕ). IfOk c.count_within.result (IsFeedCount (versions_of e.rules) n c.args.max c.args.bytes (place_in e.feeds c.args.feed))) (uncut c.closed.result c.closed.ensures.low ∙ c.closed.ensures.closed)
    (subst (λ (st : Stored). IfOk c.count_within.result (IsFeedCount st (cut_at_max c.closed.result) c.args.max c.args.bytes (place_in e.feeds c.args.feed))) c.versions.ensures c.count_within.ensures.count))

pub returns-clause-memory : goal.returns-clause-memory
returns-clause-memory c = λ h stands.
    subst (λ (o : Option Place). OnErr c.count_within.result (is_some o ≡ true)) (stands.kept.fits.feeds c.args.feed) c.count_within.ensures.memory
