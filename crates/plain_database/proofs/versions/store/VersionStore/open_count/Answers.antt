use Rattle.std.proofs.Common.{rules, tests, ap, length, true, ◌∙◌}
use Rattle.std.proofs.lemmas.Iterator.Consumers.{YieldsList-from_filter, YieldsList-from_rest, count_from_yields_List}
use Rattle.plain_database.proofs.Common.{all_within, nat_cmp, undecided_timestamps}
use Rattle.plain_database.proofs.Opening.{open_where}
use Rattle.plain_database.proofs.versions.store.VersionStore.open_count.Goals as goal

pub returns : goal.returns
returns c = λ p all tied.
    count_from_yields_List c.filter-open.result c.count.result c.count.ensures.ran (YieldsList-from_filter _ _ (YieldsList-from_rest _ (c.filter-open.ensures.source ∙ c.above_closed.ensures.those)) c.filter-open.ensures.closure (λ x r q k. search (rules, tests)))
    ∙ open_where c.args.self.now c.above_closed.ensures.rising p all tied (λ _. true) ∙ ap length (all_within nat_cmp (undecided_timestamps p))
