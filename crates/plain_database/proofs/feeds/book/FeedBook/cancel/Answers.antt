use Rattle.std.proofs.Common.{◌≡◌, rules, arith}
use Rattle.std.proofs.lemmas.Fn.{filter_same}
use Rattle.plain_database.proofs.Common.{common_steps}
use Rattle.plain_database.proofs.FeedTies.{feeds_cancel, others}
use Rattle.plain_database.proofs.feeds.book.FeedBook.cancel.Goals as goal

pub returns : goal.returns
returns c = λ p all tied.
    let left : c.retain.new.self.items ≡ others c.args.feed c.self.inside.live.items = filter_same _ _ _ (λ x b f' k. search rules) _ _ c.retain.ensures.filtered in
    grind (arith, common_steps, feeds_cancel c.args.self.now p c.args.feed tied)
