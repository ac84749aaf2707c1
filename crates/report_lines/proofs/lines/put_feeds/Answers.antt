use Rattle.json_lines.proofs.Writing.{keeps_text, keeps_then, on_error}
use Rattle.report_lines.proofs.lines.put_feeds.Goals as goal

pub returns-in_err-put_feed-clause-err : goal.returns-in_err-put_feed-clause-err
returns-in_err-put_feed-clause-err c = on_error _ _ _ (keeps_then _ _ _ (keeps_text _ _ _ c.loop-feed.invariant) c.in_err-put_feed.ensures.err)
